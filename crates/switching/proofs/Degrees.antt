-- The degrees beside the matrix stay right when an edge is added or removed.
-- Assumes nothing.
use mathlib.Core.Path.{◌≡◌, sym, ◌∙◌}
use mathlib.Core.Logic.{◌≢◌}
use mathlib.Core.List.{List}
use Prim.Native.Nat.{ℕ, ◌+◌, ◌-◌, ◌≤◌, ◌<◌}
use native.Mathlib.Decide.{ℕ_discrete, dec_lt}
use native.Mathlib.Omega.{arith}
use lib.ListN.{get_or, set, replicate, length-set, get_or-replicate}
use lib.Seq.{get_or-set_same, get_or-set_other, ext_get_or}
use Rattle.finite.specs.Range.{δ}
use Rattle.finite.proofs.Delta.{δ-self, δ-other}
use Rattle.finite.proofs.Fold.{fill_to-behind}
use Rattle.graph.specs.Graph.{AddsEdge, degree}
use Rattle.graph.specs.Tests.{most_degree}
use Rattle.graph.proofs.Update.{degree-adds}
use Rattle.layout.specs.Layout.{most_vertices}
use Rattle.adjacency.specs.Adjacency.{edge}
use Rattle.adjacency.specs.Inner.Degrees.{degrees_of}
use Rattle.adjacency.proofs.Degrees.{degrees_length, degrees_at, degrees_are}
use Rattle.switching.specs.Inner.Work.{with_edge, without_edge}

module _ (n : ℕ) (few : n ≤ most_vertices) where
  degrees-behind : (g : List ℕ) (v : ℕ) → n ≤ v → v < most_vertices → get_or (degrees_of n g) v 0 ≡ 0
  degrees-behind g v h l = fill_to-behind (degree n (edge g)) (replicate most_vertices 0) n v h ∙ get_or-replicate most_vertices v 0 0 l

  -- where only the degrees of x and y change, to p and q, the array with these two entries is that of the new matrix
  degrees-moved : (g g' : List ℕ) (x y p q : ℕ) → x < n → y < n → y ≢ x → degree n (edge g') x ≡ p → degree n (edge g') y ≡ q
      → ((v : ℕ) → v < n → v ≢ x → v ≢ y → degree n (edge g') v ≡ degree n (edge g) v)
      → set (set (degrees_of n g) x p) y q ≡ degrees_of n g'
  degrees-moved g g' x y p q xn yn h px qy others =
      ext_get_or 0 (set (set (degrees_of n g) x p) y q) (degrees_of n g')
      (length-set (set (degrees_of n g) x p) y q ∙ length-set (degrees_of n g) x p ∙ degrees_length n few g ∙ sym (degrees_length n few g'))
      (λ v l. at v (rw (length-set, length-set, degrees_length n few g) at l) (ℕ_discrete v x) (ℕ_discrete v y) (dec_lt v n))
    where
      at : (v : ℕ) → v < most_vertices → Dec (v ≡ x) → Dec (v ≡ y) → Dec (v < n)
          → get_or (set (set (degrees_of n g) x p) y q) v 0 ≡ get_or (degrees_of n g') v 0
      at v l i (yes e) m =
          rw e
          (get_or-set_same (set (degrees_of n g) x p) y q 0 (rw (length-set, degrees_length n few g) (omega arith)) ∙ sym qy ∙ sym (degrees_at n few g' y yn))
      at v l (yes e) (no j) m =
          rw e
          (get_or-set_other (set (degrees_of n g) x p) y x q 0 (λ s. h (sym s))
          ∙ get_or-set_same (degrees_of n g) x p 0 (rw (degrees_length n few g) (omega arith))
          ∙ sym px
          ∙ sym (degrees_at n few g' x xn))
      at v l (no i) (no j) (yes m) =
          get_or-set_other (set (degrees_of n g) x p) y v q 0 j
          ∙ get_or-set_other (degrees_of n g) x v p 0 i
          ∙ degrees_at n few g v m
          ∙ sym (others v m i j)
          ∙ sym (degrees_at n few g' v m)
      at v l (no i) (no j) (no m) =
          get_or-set_other (set (degrees_of n g) x p) y v q 0 j
          ∙ get_or-set_other (degrees_of n g) x v p 0 i
          ∙ degrees-behind g v (omega arith) l
          ∙ sym (degrees-behind g' v (omega arith) l)

-- What stands beside the matrix g, at the vertices x and y.
module _ {n : ℕ} (few : n ≤ most_vertices) (g : List ℕ) {degrees : List ℕ} (is : degrees ≡ degrees_of n g) {x y : ℕ} (xn : x < n) (yn : y < n) where
  -- they have few edges
  pub few_edges : degree n (edge g) x ≤ most_degree → degree n (edge g) y ≤ most_degree → (get_or degrees x 0 ≤ most_degree) × (get_or degrees y 0 ≤ most_degree)
  few_edges fx fy = (omega (arith, degrees_are n few g is x xn), omega (arith, degrees_are n few g is y yn))

  -- g' has the edge x – y besides
  module _ (g' : List ℕ) (distinct : x ≢ y) (adds : AddsEdge n (edge g) x y (edge g')) where
    more : (v : ℕ) → v < n → degree n (edge g') v ≡ degree n (edge g) v + (δ v x + δ v y)
    more = degree-adds n (edge g) (edge g') x y adds xn yn

    pub with-edge : with_edge degrees x y ≡ degrees_of n g'
    with-edge =
        rw is
        (degrees-moved n few g g' y x (get_or (degrees_of n g) y 0 + 1) (get_or (degrees_of n g) x 0 + 1) yn xn distinct
        (omega (arith, more y yn, degrees_at n few g y yn, δ-self y, δ-other y x (λ s. distinct (sym s))))
        (omega (arith, more x xn, degrees_at n few g x xn, δ-self x, δ-other x y distinct))
        (λ v vn p q. omega (arith, more v vn, δ-other v x q, δ-other v y p)))

  -- g' is g without the edge x – y
  module _ (g' : List ℕ) (distinct : x ≢ y) (removes : AddsEdge n (edge g') x y (edge g)) where
    less : (v : ℕ) → v < n → degree n (edge g) v ≡ degree n (edge g') v + (δ v x + δ v y)
    less = degree-adds n (edge g') (edge g) x y removes xn yn

    pub some_edge : (0 < get_or degrees x 0) × (0 < get_or degrees y 0)
    some_edge = (omega (arith, less x xn, degrees_are n few g is x xn, δ-self x), omega (arith, less y yn, degrees_are n few g is y yn, δ-self y))

    pub without-edge : without_edge degrees x y ≡ degrees_of n g'
    without-edge =
        rw is
        (degrees-moved n few g g' x y (get_or (degrees_of n g) x 0 - 1) (get_or (degrees_of n g) y 0 - 1) xn yn (λ s. distinct (sym s))
        (omega (arith, less x xn, degrees_at n few g x xn, δ-self x, δ-other x y distinct))
        (omega (arith, less y yn, degrees_at n few g y yn, δ-self y, δ-other y x (λ s. distinct (sym s))))
        (λ v vn p q. omega (arith, less v vn, δ-other v x p, δ-other v y q)))
