-- N and the numbering of a table's vertices: the classes are the degrees, and the isolated vertices are class 0.
-- Assumes nothing.
use mathlib.Core.Path.{◌≡◌, sym, ap, ap₂, ◌∙◌, fun_ext}
use Prim.Native.Nat.{ℕ, ◌+◌, ◌≤◌, ◌<◌}
use native.Mathlib.Omega.{arith}
use borrow.Author.Tests.{le-ltb}
use Rattle.finite.proofs.Sum.{sum_to-none, sum_to-more, sum_to-cong, sum_to-split}
use Rattle.graph.specs.Graph.{size, DegreeTable}
use Rattle.graph.specs.Numbering.{total}
use Rattle.graph.specs.Tests.{least_class, most_degree, most_classes, count, class_count, vertices, vertex_class}
use Rattle.graph.proofs.Numbering.{class_of-below, class_of-size}

-- tables with the same cells and the same isolated vertices are the same
pub same_table : {t u : DegreeTable} → ((k l : ℕ) → t.cells k l ≡ u.cells k l) → t.isolated ≡ u.isolated → t ≡ u
same_table c i = ap₂ made (fun_ext (λ k. fun_ext (λ l. c k l))) i
  where
    made : (ℕ → ℕ → ℕ) → ℕ → DegreeTable
    made T n = record { cells = T; isolated = n }

module _ (t : DegreeTable) where
  -- a degree of the table has D(k) vertices
  pub count_at : (k : ℕ) → least_class ≤ k → class_count t k ≡ count t.cells k
  count_at k a = rw (le-ltb k least_class a)

  pub vertices-total : vertices t ≡ total most_classes (class_count t)
  vertices-total =
      sym (sum_to-split least_class most_degree (class_count t)
      ∙ omega (
        arith,
        sum_to-more (class_count t) 0,
        sum_to-none (class_count t),
        sum_to-cong most_degree (λ i. class_count t (least_class + i)) (λ i. count t.cells (least_class + i))
            (λ i h. count_at (least_class + i) (omega arith)),
      ))

  pub vertex-class : (v : ℕ) → v < vertices t → vertex_class t v < most_classes
  vertex-class v h = class_of-below most_classes (class_count t) v (rw (← vertices-total) h)

  pub class_size : (k : ℕ) → k < most_classes → size (vertices t) (vertex_class t) k ≡ class_count t k
  class_size k h = ap (λ (n : ℕ). size n (vertex_class t) k) vertices-total ∙ class_of-size most_classes (class_count t) k h
