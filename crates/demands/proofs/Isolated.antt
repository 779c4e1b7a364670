-- Isolated vertices are the first ones of a laid state, and are left alone (specs/Isolated.antt).
-- Assumes nothing.
use mathlib.Core.Path.{◌≡◌, refl, ◌∙◌}
use mathlib.Core.Logic.{◌↔◌, ◌≢◌}
use Prim.Native.Nat.{ℕ, ◌+◌, ◌≤◌, ◌<◌}
use native.Mathlib.Omega.{arith}
use lib.Dec.{eqb}
use borrow.Author.Tests.{le-ltb}
use Rattle.finite.specs.Range.{sum_to}
use Rattle.finite.proofs.All.{and-false}
use Rattle.finite.proofs.Sum.{sum_to-none, sum_to-more, sum_to-term}
use Rattle.graph.specs.Graph.{degree}
use Rattle.graph.specs.Tests.{most_classes, class_count, Table, class_degree}
use Rattle.graph.proofs.Counts.{vertices-total}
use Rattle.graph.proofs.Numbering.{class_of-range}
use Rattle.journal.specs.Journal.{jdm_of, isolated_of, table_of}
use Rattle.journal.proofs.Table.{jdm-table}
use Rattle.adjacency.specs.Adjacency.{edge}
use Rattle.state.specs.State.{State}
use Rattle.state.specs.Laid.{vertex_count, class_at}
use Rattle.state.proofs.Facts.{cell_at, StateFacts, Laid, valid-facts}
use Rattle.swapping.proofs.Rule.{rule_met}
use Rattle.demands.specs.Isolated.{Alone, IsolatedAlone}

-- class 0 comes first
isolated-first : (s : State) (v : ℕ) → v < vertex_count s → (class_at s v ≡ 0) ↔ (v < isolated_of s.journal)
isolated-first s v h = (λ e. omega (arith, range.0 e, first), λ l. range.1 (omega (arith, first, none), omega (arith, first)))
  where
    none : sum_to 0 (class_count (table_of s.journal)) ≡ 0
    none = sum_to-none (class_count (table_of s.journal))

    first : sum_to (0 + 1) (class_count (table_of s.journal)) ≡ isolated_of s.journal
    first = sum_to-more (class_count (table_of s.journal)) 0 ∙ omega (arith, none)

    range : (class_at s v ≡ 0) ↔ (sum_to 0 (class_count (table_of s.journal)) ≤ v) × (v < sum_to (0 + 1) (class_count (table_of s.journal)))
    range = class_of-range most_classes (class_count (table_of s.journal)) v 0 (rw (← (vertices-total (table_of s.journal))) h)

module _ (s : State) (facts : StateFacts s) (laid : Laid s) (v : ℕ) (h : v < vertex_count s) (e : class_at s v ≡ 0) where
  table : Table (jdm_of s.journal)
  table = jdm-table s.journal facts.journal-ok

  no_edge : (u w : ℕ) → u ≡ v → w < vertex_count s → edge s.adjacency u w ≡ 0
  no_edge u w same l = rw same (omega (arith, sum_to-term (vertex_count s) (edge s.adjacency v) w l, laid.partial.room v h, e))

  -- it is no end of an edge, and every vertex of a swap is one
  no_end : (u w : ℕ) → u < vertex_count s → w < vertex_count s → edge s.adjacency u w ≡ 1 → (u ≢ v) × (w ≢ v)
  no_end u w p q linked = (
    λ same. omega (arith, linked, no_edge u w same q),
    λ same. omega (arith, linked, laid.partial.simple.symmetric u w p q, no_edge w u same p),
  )

  alone : Alone s v
  alone =
      record {
        no_edge = λ w l. no_edge v w refl l;
        no_cell = λ w. (
          le-ltb (cell_at s (class_at s v) (class_at s w)) _ (rw (e, table.none_of_0 (class_at s w)) (omega arith)),
          le-ltb (cell_at s (class_at s w) (class_at s v)) _ (rw (e, table.symmetric (class_at s w) 0, table.none_of_0 (class_at s w)) (omega arith)),
        );
        no_substitute = λ a other.
            rw (le-ltb (degree (vertex_count s) (edge s.adjacency) v) (class_degree (class_at s v)) (rw e (omega arith)), and-false (eqb (class_at s v) (class_at s a)));
        no_swap = λ x can.
            let c = rule_met x (vertex_count s) (class_at s) s.adjacency can in
            let p = no_end x.a x.b c.a_vertex c.b_vertex c.first in
            let q = no_end x.c x.d c.c_vertex c.d_vertex c.second in
            (p.0, p.1, q.0, q.1);
      }

pub isolated-alone : IsolatedAlone
isolated-alone s x v h =
    let facts = valid-facts s x.lengths x.is_valid in
    (isolated-first s v h, alone s facts (facts.laid x.phased) v h)
