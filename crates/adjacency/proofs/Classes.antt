-- The checks depend on the classes of the vertices alone, and the array of a layout has the class of each vertex.
-- Assumes nothing.
use mathlib.Core.Path.{◌≡◌, ap, ap₂, sym, ◌∙◌}
use mathlib.Core.Bool.{Bool, false, ◌&&◌, true≢false}
use mathlib.Core.List.{List}
use mathlib.Core.Logic.{◌≢◌}
use Prim.Native.Nat.{ℕ, ◌≤◌, ◌<◌}
use native.Mathlib.Decide.{dec_lt}
use native.Mathlib.Omega.{arith}
use lib.Dec.{eqb, leb, ltb}
use borrow.Author.Tests.{lt-ltb, eq-eqb}
use lib.ListN.{replicate, length-replicate}
use Rattle.finite.specs.Range.{all_to}
use Rattle.finite.proofs.All.{and_both, all_to-cong}
use Rattle.finite.proofs.Fold.{fill_to-at}
use Rattle.graph.specs.Graph.{degree, jdm, DegreeTable}
use Rattle.graph.specs.Tests.{most_classes, vertices, vertex_class, class_count}
use Rattle.graph.proofs.Matrix.{jdm-classes}
use Rattle.graph.proofs.Numbering.{class_of-rises}
use Rattle.graph.proofs.Counts.{vertex-class}
use Rattle.layout.specs.Layout.{most_vertices}
use Rattle.layout.specs.Inner.Arrays.{classes_of, class_in}
use Rattle.adjacency.specs.Adjacency.{edge, degrees_within, cells_within, adjacency_ok, mirrored, zero_outside}

module _ (n : ℕ) (cls cls' : ℕ → ℕ) (same : (v : ℕ) → v < n → cls v ≡ cls' v) (g : List ℕ) where
  degrees_within-same : degrees_within n cls g ≡ degrees_within n cls' g
  degrees_within-same =
      all_to-cong (λ v. leb (degree n (edge g) v) (cls v)) (λ v. leb (degree n (edge g) v) (cls' v)) n
      (λ v l. ap (λ (k : ℕ). leb (degree n (edge g) v) k) (same v l))

  cells_within-same : (T : ℕ → ℕ → ℕ) → cells_within n cls T g ≡ cells_within n cls' T g
  cells_within-same T = all_to-cong (row cls) (row cls') most_classes (λ k h. all_to-cong (at cls k) (at cls' k) most_classes (λ l m. cell k l))
    where
      at : (ℕ → ℕ) → ℕ → ℕ → Bool
      at c k l = leb (jdm n c (edge g) k l) (T k l)

      row : (ℕ → ℕ) → ℕ → Bool
      row c k = all_to most_classes (at c k)

      cell : (k l : ℕ) → at cls k l ≡ at cls' k l
      cell k l = ap (λ (x : ℕ). leb x (T k l)) (jdm-classes n cls cls' (edge g) same k l)

  adjacency_ok-same : (T : ℕ → ℕ → ℕ) → adjacency_ok n cls T g ≡ adjacency_ok n cls' T g
  adjacency_ok-same T = ap₂ (λ (d c : Bool). mirrored n g && zero_outside n g && d && c) degrees_within-same (cells_within-same T)

-- the classes of a table's vertices, as the array has them
module _ (t : DegreeTable) (small : vertices t ≤ most_vertices) {n : ℕ} {classes : List ℕ} (en : n ≡ vertices t) (ec : classes ≡ classes_of t) where
  pub class-at : (v : ℕ) → v < n → class_in classes v ≡ vertex_class t v
  class-at v h = rw ec (fill_to-at (vertex_class t) (replicate most_vertices 0) (vertices t) v (rw length-replicate small) (rw en at h))

  pub class_below : (v : ℕ) → v < n → class_in classes v < most_classes
  class_below v h = rw (class-at v h) (vertex-class t v (rw en at h))

  pub class_rises : (v w : ℕ) → v ≤ w → w < n → class_in classes v ≤ class_in classes w
  class_rises v w h l = rw (class-at v (omega arith), class-at w l) (class_of-rises most_classes (class_count t) v w h)

  pub adjacency_ok-table : (T : ℕ → ℕ → ℕ) (g : List ℕ) → adjacency_ok n (class_in classes) T g ≡ adjacency_ok (vertices t) (vertex_class t) T g
  adjacency_ok-table T g =
      adjacency_ok-same n (class_in classes) (vertex_class t) class-at g T ∙ ap (λ (m : ℕ). adjacency_ok m (vertex_class t) T g) en

-- where classes rise and the first vertex not below class k is not of class k, no vertex is
pub class_absent : (n k start : ℕ) (cls : ℕ → ℕ) → ((v w : ℕ) → v ≤ w → w < n → cls v ≤ cls w)
    → ((w : ℕ) → w < start → cls w < k) → (start < n → k ≤ cls start)
    → ltb start n && eqb (cls start) k ≡ false → (v : ℕ) → v < n → cls v ≢ k
class_absent n k start cls rises below first t v l e = go (dec_lt v start)
  where
    go : Dec (v < start) → ⊥
    go (yes h) = omega (arith, below v h)
    go (no h) =
        let p : start < n = omega arith in
        let q : cls start ≡ k = omega (arith, rises start v (omega arith) l, first p) in
        true≢false (sym (and_both _ _ (lt-ltb start n p) (eq-eqb (cls start) k q)) ∙ t)
