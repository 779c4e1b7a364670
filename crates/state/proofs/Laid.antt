-- The verdict on a table, and the check of a laid state.
-- Assumes nothing.
use mathlib.Core.Path.{◌≡◌, refl, sym, subst, ◌∙◌}
use mathlib.Core.Bool.{Bool, true, false}
use mathlib.Core.List.{List}
use Prim.Native.Nat.{ℕ}
use lib.Dec.{leb}
use borrow.Author.Tests.{leb-true, le-leb}
use Rattle.std.specs.Prelude.{Ok, Err}
use Rattle.graph.specs.Graph.{DegreeTable}
use Rattle.graph.specs.Tests.{passes, vertices, vertex_class}
use Rattle.answer.specs.declared.Refusal.{Refusal}
use Rattle.answer.specs.Refusals.{Verdict, Go, Stop}
use Rattle.layout.specs.Layout.{most_vertices, layout_verdict}
use Rattle.layout.proofs.Verdict.{layout_go, go_layout}
use Rattle.adjacency.specs.Adjacency.{adjacency_ok}
use Rattle.state.specs.Valid.{laid_ok}

abbrev IsGo : Verdict → Type 0
IsGo (Ok _) = Unit {0}
IsGo (Err r) = ⊥

module _ (t : DegreeTable) (g : List ℕ) where
  pub laid-go : layout_verdict t ≡ Go → laid_ok t g ≡ adjacency_ok (vertices t) (vertex_class t) t.cells g
  laid-go e = rw ((layout_go t e).0, le-leb (vertices t) most_vertices (layout_go t e).1)

  -- a table that is turned down is not laid
  pub laid_stop : (r : Refusal) → layout_verdict t ≡ Stop r → laid_ok t g ≡ false
  laid_stop r e = go (passes t.cells) refl (leb (vertices t) most_vertices) refl
    where
      go : (p : Bool) → passes t.cells ≡ p → (q : Bool) → leb (vertices t) most_vertices ≡ q → laid_ok t g ≡ false
      go true a true b = absurd (subst IsGo (sym (go_layout t a (leb-true (vertices t) most_vertices b)) ∙ e) tt)
      go true a false b = rw (a, b)
      go false a q b = rw a
