-- What a valid state is, as named facts, and back.
-- Assumes nothing.
use mathlib.Core.Path.{◌≡◌}
use mathlib.Core.Bool.{true, ◌&&◌}
use Prim.Native.Nat.{ℕ, ◌≤◌}
use lib.Dec.{eqb, leb}
use lib.ListN.{length, get_or}
use borrow.Author.Tests.{eqb-true, eq-eqb, leb-true, le-leb}
use Rattle.finite.proofs.All.{and_left, and_right, and_both}
use Rattle.graph.specs.Graph.{edges, jdm}
use Rattle.graph.specs.Target.{Target, Partial}
use Rattle.graph.specs.Tests.{most_classes, passes, class_degree}
use Rattle.graph.proofs.Passes.{passes-passed}
use Rattle.graph.proofs.Realizability.{table_target}
use Rattle.slices.specs.Slices.{all_zero}
use Rattle.slices.proofs.Zero.{all_zero-at, zeros-all_zero}
use Rattle.layout.specs.Layout.{most_vertices}
use Rattle.journal.specs.Journal.{journal_size, phase_taking, phase_laid, phase, journal_ok, jdm_of, table_of}
use Rattle.journal.proofs.Table.{jdm-table}
use Rattle.adjacency.specs.Adjacency.{adjacency_size, adjacency_ok, edge}
use Rattle.adjacency.specs.Clauses.{ZeroOutside}
use Rattle.adjacency.proofs.Facts.{adjacency_facts}
use Rattle.state.specs.State.{State}
use Rattle.state.specs.Valid.{lengths_ok, laid_ok, valid}
use Rattle.state.specs.Laid.{vertex_count, class_at}

-- how many edges the matrix holds
abbrev pub edge_total : State → ℕ
edge_total s = edges (vertex_count s) (edge s.adjacency)

-- cell (k, l) of the edges so far, at the classes laid out
abbrev pub cell_at : State → ℕ → ℕ → ℕ
cell_at s = jdm (vertex_count s) (class_at s) (edge s.adjacency)

-- a state in phase 1
pub record Laid (s : State) : Type 0 where
  pub passed : passes (jdm_of s.journal) ≡ true
  pub vertices-le : vertex_count s ≤ most_vertices
  pub adjacency-ok : adjacency_ok (vertex_count s) (class_at s) (jdm_of s.journal) s.adjacency ≡ true
  pub target : Target (vertex_count s) most_classes (class_at s) class_degree (jdm_of s.journal)
  pub partial : Partial (vertex_count s) most_classes (class_at s) class_degree (jdm_of s.journal) (edge s.adjacency)
  pub outside : ZeroOutside (vertex_count s) s.adjacency

-- a valid state: both lengths, the journal's check, and the matrix in either phase
pub record StateFacts (s : State) : Type 0 where
  pub journal_length : length s.journal ≡ journal_size
  pub adjacency_length : length s.adjacency ≡ adjacency_size
  pub journal-ok : journal_ok s.journal ≡ true
  pub empty : phase s.journal ≡ phase_taking → (p : ℕ) → get_or s.adjacency p 0 ≡ 0
  pub laid : phase s.journal ≡ phase_laid → Laid s

module _ (s : State) where
  pub lengths_journal : lengths_ok s ≡ true → length s.journal ≡ journal_size
  lengths_journal h = eqb-true (length s.journal) journal_size (and_left (eqb (length s.journal) journal_size) (eqb (length s.adjacency) adjacency_size) h)

  pub lengths_adjacency : lengths_ok s ≡ true → length s.adjacency ≡ adjacency_size
  lengths_adjacency h = eqb-true (length s.adjacency) adjacency_size (and_right (eqb (length s.journal) journal_size) (eqb (length s.adjacency) adjacency_size) h)

  pub lengths_both : length s.journal ≡ journal_size → length s.adjacency ≡ adjacency_size → lengths_ok s ≡ true
  lengths_both a b = and_both _ _ (eq-eqb (length s.journal) journal_size a) (eq-eqb (length s.adjacency) adjacency_size b)

  pub valid-journal : valid s ≡ true → journal_ok s.journal ≡ true
  valid-journal h = and_left (journal_ok s.journal) _ h

  -- the matrix in phase 0, and in phase 1
  matrix-zero : phase s.journal ≡ phase_taking → valid s ≡ true → all_zero s.adjacency ≡ true
  matrix-zero e h = rw (eq-eqb (phase s.journal) phase_taking e) at (and_right (journal_ok s.journal) _ h)

  matrix-laid : phase s.journal ≡ phase_laid → valid s ≡ true → laid_ok (table_of s.journal) s.adjacency ≡ true
  matrix-laid e h = rw e at (and_right (journal_ok s.journal) _ h)

  laid-tests : laid_ok (table_of s.journal) s.adjacency ≡ true → (passes (jdm_of s.journal) ≡ true) × (vertex_count s ≤ most_vertices)
      × (adjacency_ok (vertex_count s) (class_at s) (jdm_of s.journal) s.adjacency ≡ true)
  laid-tests h =
      let two = and_left (passes (jdm_of s.journal) && leb (vertex_count s) most_vertices) (adjacency_ok (vertex_count s) (class_at s) (jdm_of s.journal) s.adjacency) h in (
        and_left (passes (jdm_of s.journal)) (leb (vertex_count s) most_vertices) two,
        leb-true (vertex_count s) most_vertices (and_right (passes (jdm_of s.journal)) (leb (vertex_count s) most_vertices) two),
        and_right (passes (jdm_of s.journal) && leb (vertex_count s) most_vertices) (adjacency_ok (vertex_count s) (class_at s) (jdm_of s.journal) s.adjacency) h,
      )

  pub laid-facts : journal_ok s.journal ≡ true → laid_ok (table_of s.journal) s.adjacency ≡ true → Laid s
  laid-facts ok h =
      let t = laid-tests h in
      let a = adjacency_facts (vertex_count s) (class_at s) (jdm_of s.journal) s.adjacency t.2 in
      record {
        passed = t.0;
        vertices-le = t.1;
        adjacency-ok = t.2;
        target = table_target (table_of s.journal) (jdm-table s.journal ok) ((passes-passed (jdm_of s.journal)).0 t.0);
        partial = record { simple = a.simple; within = a.within; room = a.room };
        outside = a.outside;
      }

  pub valid-facts : lengths_ok s ≡ true → valid s ≡ true → StateFacts s
  valid-facts l h =
      record {
        journal_length = lengths_journal l;
        adjacency_length = lengths_adjacency l;
        journal-ok = valid-journal h;
        empty = λ e. all_zero-at s.adjacency (matrix-zero e h);
        laid = λ e. laid-facts (valid-journal h) (matrix-laid e h);
      }

  pub facts_valid_0 : phase s.journal ≡ phase_taking → journal_ok s.journal ≡ true → ((p : ℕ) → get_or s.adjacency p 0 ≡ 0) → valid s ≡ true
  facts_valid_0 e ok zeros =
      and_both (journal_ok s.journal) _ ok (rw (eq-eqb (phase s.journal) phase_taking e) (zeros-all_zero s.adjacency (λ p l. zeros p)))

  pub facts_valid_1 : phase s.journal ≡ phase_laid → journal_ok s.journal ≡ true → passes (jdm_of s.journal) ≡ true → vertex_count s ≤ most_vertices
      → adjacency_ok (vertex_count s) (class_at s) (jdm_of s.journal) s.adjacency ≡ true → valid s ≡ true
  facts_valid_1 e ok p n a =
      and_both (journal_ok s.journal) _ ok (rw e (and_both (passes (jdm_of s.journal) && leb (vertex_count s) most_vertices) _ (and_both _ _ p (le-leb _ _ n)) a))
