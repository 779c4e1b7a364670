-- The records of a degree table (document 01: survey; document 02, P1, gives it that of the isolated vertices).
-- Assumes nothing.
use Rattle.std.specs.Prelude.{cond, List, [], ◌∷◌, ◌++◌, ℕ, ◌/◌, ◌%◌, eqb, leb}
use Rattle.finite.specs.Range.{cat_to}
use Rattle.graph.specs.Graph.{DegreeTable}
use Rattle.graph.specs.Tests.{most_classes}

-- a record, where its count is not 0: k, l, and the count, low byte first
abbrev pub count_record : ℕ → ℕ → ℕ → List ℕ
count_record k l n = cond (eqb n 0) [] (k ∷ l ∷ n % 256 ∷ n / 256 ∷ [])

-- the record of cell (k, l), where k ≤ l
abbrev pub cell_record : (ℕ → ℕ → ℕ) → ℕ → ℕ → List ℕ
cell_record T k l = cond (leb k l) (count_record k l (T k l)) []

-- the records of a matrix, ascending
abbrev pub cell_records : (ℕ → ℕ → ℕ) → List ℕ
cell_records T = cat_to most_classes (λ k. cat_to most_classes (cell_record T k))

-- the records of a table: that of the isolated vertices first, where there are some
abbrev pub records_of : DegreeTable → List ℕ
records_of t = count_record 0 0 t.isolated ++ cell_records t.cells
