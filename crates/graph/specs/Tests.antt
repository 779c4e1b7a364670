-- Document 01's S(k), D(k) and its tests 9, 10 and 11, on a joint degree matrix ("Laying out"); N and the numbering of the vertices, on a degree table.
-- Rows and columns are classes of vertices. Today a class is a degree, and `class_degree` is the one place that says so.
-- Assumes nothing.
use Rattle.std.specs.Prelude.{◌≡◌, Bool, ◌&&◌, not, cond, ℕ, ◌+◌, ◌-◌, ◌/◌, ◌%◌, ◌≤◌, ◌<◌, eqb, ltb}
use Rattle.finite.specs.Range.{sum_to, lowest}
use Rattle.graph.specs.Graph.{DegreeTable}
use Rattle.graph.specs.Target.{cell_most}
use Rattle.graph.specs.Numbering.{class_of}

-- a degree of the table runs from 1 to 40
abbrev pub least_degree : ℕ
least_degree = 1

abbrev pub most_degree : ℕ
most_degree = 40

-- The classes are the numbers below `most_classes`. Those below `least_class` are of the isolated vertices, and have no cells.
abbrev pub most_classes : ℕ
most_classes = most_degree + 1

abbrev pub least_class : ℕ
least_class = least_degree

-- the degree that is laid out for the vertices of class k
abbrev pub class_degree : ℕ → ℕ
class_degree k = k

-- S(k), the sum of row k
abbrev pub row_sum : (ℕ → ℕ → ℕ) → ℕ → ℕ
row_sum T k = sum_to most_classes (T k)

-- D(k) = S(k) / k, the divisor being the degree, for a class with cells
abbrev pub count : (ℕ → ℕ → ℕ) → ℕ → ℕ
count T k = row_sum T k / class_degree k

-- how many vertices class k has: D(k), and of class 0 the isolated ones
abbrev pub class_count : DegreeTable → ℕ → ℕ
class_count t k = cond (ltb k least_class) t.isolated (count t.cells k)

-- N: the isolated vertices, and the sum of all D(k)
abbrev pub vertices : DegreeTable → ℕ
vertices t = t.isolated + sum_to (most_classes - least_class) (λ i. count t.cells (least_class + i))

-- the class of vertex v: vertices are numbered by rising class, so the isolated ones first
abbrev pub vertex_class : DegreeTable → ℕ → ℕ
vertex_class t = class_of most_classes (class_count t)

-- cell (k, k) is odd
abbrev pub odd : (ℕ → ℕ → ℕ) → ℕ → Bool
odd T k = not (eqb (T k k % 2) 0)

-- S(k) is not divisible by the degree
abbrev pub uneven : (ℕ → ℕ → ℕ) → ℕ → Bool
uneven T k = not (eqb (row_sum T k % class_degree k) 0)

-- cell (k, l) is above D(k) × D(l), or on the diagonal above D(k) × (D(k) - 1)
abbrev pub overfull : (ℕ → ℕ → ℕ) → ℕ → ℕ → Bool
overfull T k l = ltb (cell_most (count T) k l) (T k l)

-- where the tests first fail, lowest k and then lowest l first; past the classes where they pass
abbrev pub first_odd : (ℕ → ℕ → ℕ) → ℕ
first_odd T = lowest least_class most_classes (odd T)

abbrev pub first_uneven : (ℕ → ℕ → ℕ) → ℕ
first_uneven T = lowest least_class most_classes (uneven T)

abbrev pub first_overfull_in : (ℕ → ℕ → ℕ) → ℕ → ℕ
first_overfull_in T k = lowest least_class most_classes (overfull T k)

abbrev pub first_overfull : (ℕ → ℕ → ℕ) → ℕ
first_overfull T = lowest least_class most_classes (λ k. ltb (first_overfull_in T k) most_classes)

-- T passes 9, 10 and 11
abbrev pub passes : (ℕ → ℕ → ℕ) → Bool
passes T = eqb (first_odd T) most_classes && eqb (first_uneven T) most_classes && eqb (first_overfull T) most_classes

-- What passing 9, 10 and 11 says of each cell and each row (proofs/Passes.antt).
pub record Passed (T : ℕ → ℕ → ℕ) : Type 0 where
  -- 9: "every (k, k) even"
  pub even : (k : ℕ) → least_class ≤ k → k < most_classes → T k k % 2 ≡ 0
  -- 10: "every S(k) divisible by k"
  pub rows : (k : ℕ) → least_class ≤ k → k < most_classes → row_sum T k % class_degree k ≡ 0
  -- 11: "cell (k, l) at most D(k) × D(l), and cell (k, k) at most D(k) × (D(k) − 1)"
  pub fits : (k l : ℕ) → least_class ≤ k → k < most_classes → least_class ≤ l → l < most_classes → T k l ≤ cell_most (count T) k l

-- A table: symmetric, and 0 in the cells of degree 0 and of a degree above 40.
pub record Table (T : ℕ → ℕ → ℕ) : Type 0 where
  pub symmetric : (k l : ℕ) → T k l ≡ T l k
  pub none_of_0 : (l : ℕ) → T 0 l ≡ 0
  pub none_above : (k l : ℕ) → most_degree < k → T k l ≡ 0
