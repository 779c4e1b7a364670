-- Laying out: when a table is laid out, when it is turned down, and the state afterwards.
-- Assumes nothing.
use mathlib.Core.Path.{◌≡◌, refl, sym, ap, subst, ◌∙◌}
use mathlib.Core.Bool.{Bool, true, false, ◌&&◌, cond, true≢false}
use mathlib.Core.List.{List}
use mathlib.Core.Logic.{◌↔◌, ◌⊎◌, ⊎_elim}
use Prim.Native.Nat.{ℕ, ◌≤◌}
use native.Mathlib.Omega.{arith}
use lib.Dec.{eqb, leb}
use borrow.Author.Tests.{eqb-true, eq-eqb, leb-true, le-leb}
use Rattle.finite.proofs.All.{and_left, and_right, and_both}
use Rattle.graph.specs.Graph.{DegreeTable}
use Rattle.graph.specs.Tests.{passes, vertices}
use Rattle.graph.specs.Theorems.{Realized}
use Rattle.graph.proofs.Realizability.{realizability}
use Rattle.answer.specs.Numbers.{lay_out_numbers}
use Rattle.answer.specs.Refusals.{Verdict, Go, stopped}
use Rattle.answer.specs.declared.Cause.TheVariants.{TooManyVertices}
use Rattle.answer.specs.declared.Refusal.{Refusal}
use Rattle.answer.specs.declared.LayOutAnswer.{LayOutAnswer}
use Rattle.answer.specs.declared.LayOutAnswer.TheVariants.{LaidOut, Refused}
use Rattle.answer.proofs.Checks.{unless_stopped_passed}
use Rattle.layout.specs.Layout.{most_vertices, layout_verdict}
use Rattle.layout.proofs.Verdict.{layout_go, go_layout, layout_passed, layout_refused}
use Rattle.journal.specs.Journal.{phase_taking, phase, jdm_of, table_of, laid}
use Rattle.journal.proofs.Facts.{journal_facts}
use Rattle.journal.proofs.Laid.{length-laid, table_laid, phase-laid, valid-laid}
use Rattle.journal.proofs.Table.{jdm-table}
use Rattle.adjacency.proofs.Empty.{empty-ok}
use Rattle.state.specs.State.{State, with_journal}
use Rattle.state.specs.Checks.{phase_verdict}
use Rattle.state.specs.Laid.{vertex_count, class_at}
use Rattle.state.specs.Valid.{lengths_ok, valid}
use Rattle.state.proofs.Checks.{phase-passed, phase-go}
use Rattle.state.proofs.Facts.{valid-facts, lengths_journal, lengths_adjacency, lengths_both, valid-journal, facts_valid_1}
use Rattle.lay_out.specs.LayOut.{laid_out, lay_out_answer, after_lay_out, lay_out_after}

abbrev IsLaidOut : LayOutAnswer → Type 0
IsLaidOut (LaidOut n) = Unit {0}
IsLaidOut (Refused r) = ⊥

refused-not_laid_out : (r : Refusal) (n : ℕ) → Refused r ≡ LaidOut n → ⊥
refused-not_laid_out r n e = subst IsLaidOut (sym e) tt

-- what a call that is not refused passed
pub record LaidOutFacts (s : State) : Type 0 where
  pub lengths : lengths_ok s ≡ true
  pub is_valid : valid s ≡ true
  pub taking : phase s.journal ≡ phase_taking
  pub passed : passes (jdm_of s.journal) ≡ true
  pub small : vertex_count s ≤ most_vertices

-- the state is in phase 0, the table passes 9 to 11, and N is at most 200
abbrev pub lays_out : List ℕ → Bool
lays_out j = eqb (phase j) phase_taking && passes (jdm_of j) && leb (vertices (table_of j)) most_vertices

-- the state, laid
abbrev pub laid_state : State → State
laid_state s = with_journal s (laid s.journal)

abbrev pub is_laid_out : LayOutAnswer → Bool
is_laid_out (LaidOut n) = true
is_laid_out (Refused r) = false

module _ (s : State) where
  pub lay_out_facts : (n : ℕ) → lay_out_answer s ≡ LaidOut n → LaidOutFacts s
  lay_out_facts n e =
      let q = unless_stopped_passed (phase_verdict phase_taking s) Refused _ (LaidOut n) (λ r. refused-not_laid_out r n) e in
      let v = unless_stopped_passed (layout_verdict (table_of s.journal)) Refused _ (LaidOut n) (λ r. refused-not_laid_out r n) q.1 in
      let p = phase-passed phase_taking s q.0 in
      let t = layout_go (table_of s.journal) v.0 in
      record { lengths = p.0; is_valid = p.1; taking = p.2; passed = t.0; small = t.1 }

  -- on a valid state in phase 0 the tests 9 to 12 decide
  lay-out-verdict : lengths_ok s ≡ true → valid s ≡ true → phase s.journal ≡ phase_taking
      → lay_out_answer s ≡ laid_out (layout_verdict (table_of s.journal)) (vertex_count s)
  lay-out-verdict l v p = rw (phase-go phase_taking s l v p)

  pub facts_lay_out : LaidOutFacts s → lay_out_answer s ≡ LaidOut (vertex_count s)
  facts_lay_out f =
      lay-out-verdict f.lengths f.is_valid f.taking
      ∙ ap (λ (v : Verdict). laid_out v (vertex_count s)) (go_layout (table_of s.journal) f.passed f.small)

  -- the answer gives N
  pub lay_out_vertices : (n : ℕ) → lay_out_answer s ≡ LaidOut n → n ≡ vertex_count s
  lay_out_vertices n e = ap count (sym e ∙ facts_lay_out (lay_out_facts n e))
    where
      count : LayOutAnswer → ℕ
      count (LaidOut m) = m
      count (Refused r) = 0

  lays-out-facts : lengths_ok s ≡ true → valid s ≡ true → lays_out s.journal ≡ true → LaidOutFacts s
  lays-out-facts l v h =
      let t = leb (vertex_count s) most_vertices in
      let a = and_left (eqb (phase s.journal) phase_taking && passes (jdm_of s.journal)) t h in
      record {
        lengths = l;
        is_valid = v;
        taking = eqb-true (phase s.journal) phase_taking (and_left (eqb (phase s.journal) phase_taking) (passes (jdm_of s.journal)) a);
        passed = and_right (eqb (phase s.journal) phase_taking) (passes (jdm_of s.journal)) a;
        small = leb-true (vertex_count s) most_vertices (and_right (eqb (phase s.journal) phase_taking && passes (jdm_of s.journal)) t h);
      }

  laid-out-lays : (n : ℕ) → lay_out_answer s ≡ LaidOut n → lays_out s.journal ≡ true
  laid-out-lays n e =
      let f = lay_out_facts n e in
      and_both (eqb (phase s.journal) phase_taking && passes (jdm_of s.journal)) _
      (and_both _ _ (eq-eqb (phase s.journal) phase_taking f.taking) f.passed)
      (le-leb (vertex_count s) most_vertices f.small)

  -- On a valid state: laid out exactly where the table passes 9 to 12, and the journal then is in phase 1, else as it was.
  pub lay_out_laid_out : lengths_ok s ≡ true → valid s ≡ true
      → (is_laid_out (lay_out_answer s) ≡ lays_out s.journal) × (lay_out_after s ≡ cond (lays_out s.journal) (laid_state s) s)
  lay_out_laid_out l v = go (lay_out_answer s) refl (lays_out s.journal) refl
    where
      go : (a : LayOutAnswer) → lay_out_answer s ≡ a → (t : Bool) → lays_out s.journal ≡ t
          → (is_laid_out a ≡ t) × (after_lay_out a s ≡ cond t (laid_state s) s)
      go (LaidOut n) e true h = (refl, refl)
      go (LaidOut n) e false h = absurd (true≢false (sym (laid-out-lays n e) ∙ h))
      go (Refused r) e true h = absurd (refused-not_laid_out r _ (sym e ∙ facts_lay_out (lays-out-facts l v h)))
      go (Refused r) e false h = (refl, refl)

  -- the blocks add up to what they did
  pub lay_out_same_table : (a : LayOutAnswer) → table_of (after_lay_out a s).journal ≡ table_of s.journal
  lay_out_same_table (LaidOut n) = table_laid s.journal
  lay_out_same_table (Refused r) = refl

  pub lay_out_lengths : (a : LayOutAnswer) → lengths_ok s ≡ true → lengths_ok (after_lay_out a s) ≡ true
  lay_out_lengths (LaidOut n) l = lengths_both (laid_state s) (length-laid s.journal ∙ lengths_journal s l) (lengths_adjacency s l)
  lay_out_lengths (Refused r) l = l

  -- a valid state stays valid
  pub lay_out_valid : lengths_ok s ≡ true → valid s ≡ true → valid (lay_out_after s) ≡ true
  lay_out_valid l v = go (lay_out_answer s) refl
    where
      go : (a : LayOutAnswer) → lay_out_answer s ≡ a → valid (after_lay_out a s) ≡ true
      go (LaidOut n) e =
          let w = valid-facts s l v in
          let f = lay_out_facts n e in
          let said = sym (table_laid s.journal) in
          let small = subst (λ (t : DegreeTable). vertices t ≤ most_vertices) said f.small in
          facts_valid_1 (laid_state s) (phase-laid s.journal w.journal_length)
          (valid-laid s.journal w.journal_length (journal_facts s.journal w.journal-ok).phase-le ∙ w.journal-ok)
          (subst (λ (t : DegreeTable). passes t.cells ≡ true) said f.passed) small
          (empty-ok s.adjacency (w.empty f.taking) (vertex_count (laid_state s)) (class_at (laid_state s)) (jdm_of (laid_state s).journal)
          w.adjacency_length small)
      go (Refused r) e = v

  -- the number of a refusal for want of a graph
  abbrev pub IsWant : Type 0
  IsWant = (9 ≤ (lay_out_numbers (lay_out_answer s)).number) × ((lay_out_numbers (lay_out_answer s)).number ≤ 11)

  -- in phase 0 the tests 9, 10, 11 turn a table down exactly where it does not pass them
  module _ (l : lengths_ok s ≡ true) (v : valid s ≡ true) (p : phase s.journal ≡ phase_taking) where
    fails-want : passes (jdm_of s.journal) ≡ false → IsWant
    fails-want h =
        let r = layout_refused (table_of s.journal) h in
        rw (lay-out-verdict l v p ∙ ap (λ (w : Verdict). laid_out w (vertex_count s)) r.1) r.2

    want-fails : IsWant → passes (jdm_of s.journal) ≡ false
    want-fails w = go (passes (jdm_of s.journal)) refl
      where
        at : (d : Verdict) → layout_verdict (table_of s.journal) ≡ d → lay_out_answer s ≡ laid_out d (vertex_count s)
        at d e = lay-out-verdict l v p ∙ ap (λ (w : Verdict). laid_out w (vertex_count s)) e

        none : (layout_verdict (table_of s.journal) ≡ Go) ⊎ (layout_verdict (table_of s.journal) ≡ stopped TooManyVertices) → ⊥
        none = ⊎_elim (λ e. omega (arith, rw (at Go e) at w)) (λ e. omega (arith, rw (at (stopped TooManyVertices) e) at w))

        go : (t : Bool) → passes (jdm_of s.journal) ≡ t → t ≡ false
        go true e = absurd (none (layout_passed (table_of s.journal) e))
        go false e = refl

    pub lay_out_refused : IsWant ↔ (passes (jdm_of s.journal) ≡ false)
    lay_out_refused = (want-fails, fails-want)

    -- hence a refusal with 9, 10 or 11 is honest: it comes exactly where no simple graph has the table
    pub lay_out_honest : IsWant ↔ (Realized (jdm_of s.journal) → ⊥)
    lay_out_honest = (forth, back)
      where
        real : (passes (jdm_of s.journal) ≡ true) ↔ Realized (jdm_of s.journal)
        real = realizability (jdm_of s.journal) (jdm-table s.journal (valid-journal s v))

        forth : IsWant → Realized (jdm_of s.journal) → ⊥
        forth w r = true≢false (sym (real.1 r) ∙ want-fails w)

        back : (Realized (jdm_of s.journal) → ⊥) → IsWant
        back none = fails-want (go (passes (jdm_of s.journal)) refl)
          where
            go : (t : Bool) → passes (jdm_of s.journal) ≡ t → t ≡ false
            go true e = absurd (none (real.0 e))
            go false e = refl
