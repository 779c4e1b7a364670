-- A table is laid out exactly where it passes the tests 9 to 11 and has at most 200 vertices.
-- Assumes nothing.
use mathlib.Core.Path.{◌≡◌, refl, ◌∙◌}
use mathlib.Core.Bool.{Bool, true, false, ◌&&◌, true≢false}
use mathlib.Core.Logic.{◌⊎◌, inl, inr}
use Prim.Native.Nat.{ℕ, ◌≤◌}
use native.Mathlib.Omega.{arith}
use lib.Dec.{eqb, leb}
use borrow.Author.Tests.{leb-true, le-leb}
use Rattle.finite.proofs.All.{and_left, and_right, and_both}
use Rattle.graph.specs.Graph.{DegreeTable}
use Rattle.graph.specs.Tests.{most_classes, first_odd, first_uneven, first_overfull, first_overfull_in, passes, vertices}
use Rattle.answer.specs.Numbers.{number_of}
use Rattle.answer.specs.Refusals.{Verdict, Go, Stop, refuse, stopped, unless}
use Rattle.answer.specs.declared.Cause.TheVariants.{OddDiagonal, RowNotDivisible, CellTooLarge, TooManyVertices}
use Rattle.answer.specs.declared.Refusal.{Refusal}
use Rattle.answer.proofs.Checks.{unless_go}
use Rattle.layout.specs.Layout.{most_vertices, layout_verdict}

-- one of the three tests before the number of vertices
abbrev pub IsTest : Refusal → Type 0
IsTest r = (9 ≤ number_of r.cause) × (number_of r.cause ≤ 11)

failed : (a b c : Bool) (r s t : Refusal) (rest : Verdict) → IsTest r → IsTest s → IsTest t → a && b && c ≡ false
    → (u : Refusal) × (unless a (Stop r) (unless b (Stop s) (unless c (Stop t) rest)) ≡ Stop u) × IsTest u
failed false b c r s t rest p q o e = (r, refl, p)
failed true false c r s t rest p q o e = (s, refl, q)
failed true true false r s t rest p q o e = (t, refl, o)
failed true true true r s t rest p q o e = absurd (true≢false e)

module _ (t : DegreeTable) where
  abbrev T : ℕ → ℕ → ℕ
  T = t.cells

  pub layout_go : layout_verdict t ≡ Go → (passes T ≡ true) × (vertices t ≤ most_vertices)
  layout_go e =
      let x = unless_go (eqb (first_odd T) most_classes) _ _ e in
      let y = unless_go (eqb (first_uneven T) most_classes) _ _ x.1 in
      let z = unless_go (eqb (first_overfull T) most_classes) _ _ y.1 in
      let n = unless_go (leb (vertices t) most_vertices) _ _ z.1 in
      (and_both _ _ (and_both _ _ x.0 y.0) z.0, leb-true _ _ n.0)

  -- where T passes, only the number of vertices is left to test
  layout-passes : passes T ≡ true → layout_verdict t ≡ unless (leb (vertices t) most_vertices) (stopped TooManyVertices) Go
  layout-passes e =
      let d = and_left (eqb (first_odd T) most_classes && eqb (first_uneven T) most_classes) (eqb (first_overfull T) most_classes) e in
      rw (
        and_left (eqb (first_odd T) most_classes) (eqb (first_uneven T) most_classes) d,
        and_right (eqb (first_odd T) most_classes) (eqb (first_uneven T) most_classes) d,
        and_right (eqb (first_odd T) most_classes && eqb (first_uneven T) most_classes) (eqb (first_overfull T) most_classes) e,
      )

  pub go_layout : passes T ≡ true → vertices t ≤ most_vertices → layout_verdict t ≡ Go
  go_layout e l = layout-passes e ∙ rw (le-leb (vertices t) most_vertices l)

  pub layout_passed : passes T ≡ true → (layout_verdict t ≡ Go) ⊎ (layout_verdict t ≡ stopped TooManyVertices)
  layout_passed e = go (leb (vertices t) most_vertices) (layout-passes e)
    where
      go : (b : Bool) → layout_verdict t ≡ unless b (stopped TooManyVertices) Go
          → (layout_verdict t ≡ Go) ⊎ (layout_verdict t ≡ stopped TooManyVertices)
      go true h = inl h
      go false h = inr h

  pub layout_refused : passes T ≡ false → (r : Refusal) × (layout_verdict t ≡ Stop r) × IsTest r
  layout_refused e =
      failed (eqb (first_odd T) most_classes) (eqb (first_uneven T) most_classes) (eqb (first_overfull T) most_classes)
      (refuse OddDiagonal (first_odd T) (first_odd T)) (refuse RowNotDivisible (first_uneven T) 0)
      (refuse CellTooLarge (first_overfull T) (first_overfull_in T (first_overfull T)))
      (unless (leb (vertices t) most_vertices) (stopped TooManyVertices) Go)
      (omega arith) (omega arith) (omega arith) e
