-- The array of counts holds how many vertices each degree has, and none is above a row's most.
-- Assumes nothing.
use mathlib.Core.Path.{◌≡◌, sym, ap, ◌∙◌, fun_ext}
use mathlib.Core.List.{List}
use Prim.Native.Nat.{ℕ, zero, suc, ◌-◌, ◌*◌, ◌/◌, ◌≤◌, ◌<◌}
use native.Mathlib.Nat.{zero-div, div-le_self, mul-one, mul-sub, le-mul_of_pos_right}
use native.Mathlib.Decide.{dec_lt, ℕ_discrete}
use native.Mathlib.Omega.{arith}
use lib.ListN.{replicate, length-replicate, get_or-eq_default}
use borrow.Author.Tests.{le-ltb}
use Rattle.finite.proofs.Fold.{fill_to-at, fill_to-length}
use Rattle.finite.proofs.Sum.{sum_to-zero, sum_to-mono, sum_to-const}
use Rattle.graph.specs.Graph.{DegreeTable}
use Rattle.graph.specs.Numbering.{total}
use Rattle.graph.specs.Tests.{least_class, most_classes, row_sum, count, class_count, vertices}
use Rattle.graph.proofs.Counts.{count_at, vertices-total}
use Rattle.table.specs.Inner.Cells.{matrix_of, AtMost, cell_sum_most}
use Rattle.layout.specs.Inner.Arrays.{counts_of, count_in, table_in, Counts}
use Rattle.table.proofs.Matrix.{matrix_most}

pub count_in-below : (t : DegreeTable) (k : ℕ) → k < most_classes → count_in (counts_of t) k ≡ class_count t k
count_in-below t k l = fill_to-at (class_count t) (replicate most_classes 0) most_classes k (omega (arith, length-replicate {A = ℕ} most_classes 0)) l

count_in-above : (t : DegreeTable) (k : ℕ) → most_classes ≤ k → count_in (counts_of t) k ≡ 0
count_in-above t k l =
    get_or-eq_default (counts_of t) 0
    (omega (arith, fill_to-length (class_count t) (replicate most_classes 0) most_classes, length-replicate {A = ℕ} most_classes 0))

count-above : (c : List ℕ) (i k : ℕ) → most_classes ≤ k → class_count (table_in c i) k ≡ 0
count-above c i k l =
    count_at (table_in c i) k (omega arith)
    ∙ ap (λ (s : ℕ). s / k) (sum_to-zero most_classes (matrix_of c k) (λ i m. rw (le-ltb k most_classes l)))
    ∙ zero-div k

-- the counts as the array has them
pub counts_all : (c : List ℕ) (i : ℕ) → count_in (counts_of (table_in c i)) ≡ class_count (table_in c i)
counts_all c i = fun_ext (λ k. go k (dec_lt k most_classes))
  where
    go : (k : ℕ) → Dec (k < most_classes) → count_in (counts_of (table_in c i)) k ≡ class_count (table_in c i) k
    go k (yes l) = count_in-below (table_in c i) k l
    go k (no l) = count_in-above (table_in c i) k (omega arith) ∙ sym (count-above c i k (omega arith))

-- the counts of a table are such an array
pub counts_made : (c d : List ℕ) (i : ℕ) → d ≡ counts_of (table_in c i) → i ≤ cell_sum_most → Counts c d × (count_in d 0 ≡ i)
counts_made c d i e l =
    let first : count_in d 0 ≡ i = rw e (count_in-below (table_in c i) 0 (omega arith)) in
    (record { same = rw first e; few = rw first l }, first)

module _ (c d : List ℕ) (h : Counts c d) where
  pub counted : count_in d ≡ class_count (table_in c (count_in d 0))
  counted = ap count_in h.same ∙ counts_all c (count_in d 0)

  -- of a degree of the table it is D(k)
  pub counted-degree : (k : ℕ) → least_class ≤ k → count_in d k ≡ count (matrix_of c) k
  counted-degree k a = ap (λ (D : ℕ → ℕ). D k) counted ∙ count_at (table_in c (count_in d 0)) k a

  -- and their sum is N
  pub counted-total : total most_classes (count_in d) ≡ vertices (table_in c (count_in d 0))
  counted-total = ap (λ (D : ℕ → ℕ). total most_classes D) counted ∙ sym (vertices-total (table_in c (count_in d 0)))

row_sum-most : (m : ℕ) (c : List ℕ) → AtMost m c → (k : ℕ) → row_sum (matrix_of c) k ≤ most_classes * m
row_sum-most m c h k =
    omega (arith, sum_to-mono most_classes (matrix_of c k) (λ l. m) (λ l i. matrix_most m c h k l), sum_to-const m most_classes)

pub counts_most : (c d : List ℕ) → AtMost cell_sum_most c → Counts c d → AtMost (most_classes * cell_sum_most) d
counts_most c d h s k = go (ℕ_discrete k 0)
  where
    go : Dec (k ≡ 0) → count_in d k ≤ most_classes * cell_sum_most
    go (yes e) = rw e (omega (arith, s.few))
    go (no n) =
        omega (
          arith,
          counted-degree c d s k (omega arith),
          row_sum-most cell_sum_most c h k,
          div-le_self (row_sum (matrix_of c) k) k,
        )

-- the bound on the diagonal without a difference that could fall below 0
pub le_square : (d : ℕ) → d ≤ d * d
le_square zero = omega arith
le_square (suc d) = le-mul_of_pos_right (suc d) (omega arith)

pub square_less : (d : ℕ) → d * d - d ≡ d * (d - 1)
square_less d = sym (mul-sub d d 1 ∙ ap (λ (x : ℕ). d * d - x) (mul-one d))
