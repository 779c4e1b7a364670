-- What the cursors of the code's searches mean: rows and columns that are done need not be looked at again.
-- Assumes nothing.
use Rattle.std.specs.Prelude.{◌≡◌, Bool, false, ◌&&◌, not, List, ℕ, ◌<◌, eqb}
use Rattle.adjacency.specs.Adjacency.{edge}
use Rattle.completion.specs.Choice.{open_column}

-- w is not linked to v and is not v
abbrev pub free_column : List ℕ → ℕ → ℕ → Bool
free_column g v w = eqb (edge g v w) 0 && not (eqb v w)

-- no row of class k below v has an open column in cell (k, l)
abbrev pub RowsDone : ℕ → (ℕ → ℕ) → List ℕ → ℕ → ℕ → ℕ → Type 0
RowsDone n cls g k l v = (u w : ℕ) → u < v → w < n → cls u ≡ k → open_column cls g k l u w ≡ false

-- no column below w is open in row v of cell (k, l)
abbrev pub ColumnsDone : (ℕ → ℕ) → List ℕ → ℕ → ℕ → ℕ → ℕ → Type 0
ColumnsDone cls g k l v w = (x : ℕ) → x < w → open_column cls g k l v x ≡ false
