-- The open pairs as the code counts them: row by row, by the bytes of the matrix and by flags that say which cells are full. Row v has the pairs
-- of v with the vertices above it.
-- Assumes nothing.
use Rattle.std.specs.Prelude.{◌≡◌, Bool, ◌&&◌, List, ℕ, ◌+◌, ◌-◌, ◌*◌, ◌≤◌, ◌<◌, eqb, length, get_or}
use Rattle.finite.specs.Range.{bit, sum_to}
use Rattle.graph.specs.Tests.{most_classes}
use Rattle.adjacency.specs.Adjacency.{adjacency_size, side, edge}

-- one flag for each class and vertex: 1 where the cell of the class and the vertex's class is full
abbrev pub flags_size : ℕ
flags_size = most_classes * side

-- v, of class k, and w are not linked, and their cell is not full
abbrev pub is_free : List ℕ → List ℕ → ℕ → ℕ → ℕ → Bool
is_free g full k v w = eqb (edge g v w) 0 && eqb (get_or full (k * side + w) 0) 0

-- how many of the columns v + 1, .., w - 1 are free in row v
abbrev pub free_to : List ℕ → List ℕ → ℕ → ℕ → ℕ → ℕ
free_to g full k v w = sum_to (w - (v + 1)) (λ i. bit (is_free g full k v (v + 1 + i)))

-- a matrix of n vertices and flags: all bytes are 0 or 1
pub record Scannable (n : ℕ) (g full : List ℕ) : Type 0 where
  pub sized : length g ≡ adjacency_size
  pub flags : length full ≡ flags_size
  pub few : n ≤ side
  pub binary : (v w : ℕ) → v < n → w < n → edge g v w ≤ 1
  pub flag : (p : ℕ) → get_or full p 0 ≤ 1

-- how many rows one sum is over, and how many sums there are
abbrev pub rows_in_sum : ℕ
rows_in_sum = 8

abbrev pub sum_count : ℕ
sum_count = 25

-- how many open pairs the rows before v have together
abbrev pub open_to : List ℕ → ℕ → ℕ
open_to pairs v = sum_to v (λ i. get_or pairs i 0)

-- each row's count, and beside them the sums over eight rows
pub record Summed (pairs sums : List ℕ) : Type 0 where
  pub sized : length pairs ≡ side
  pub sums_sized : length sums ≡ sum_count
  pub few : (v : ℕ) → get_or pairs v 0 ≤ side
  pub summed : (b : ℕ) → b < sum_count → get_or sums b 0 ≡ sum_to rows_in_sum (λ i. get_or pairs (rows_in_sum * b + i) 0)
