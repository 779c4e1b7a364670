-- The vertices of a class stand next to each other, so a cell is the number of ones in a block of the adjacency matrix.
-- Assumes nothing.
use Rattle.std.specs.Prelude.{◌≡◌, List, ℕ, ◌+◌, ◌-◌, ◌≤◌, ◌<◌, ltb, get_or, replicate}
use Rattle.finite.specs.Range.{sum_to, lowest}
use Rattle.finite.specs.Inner.Fill.{fill_to}
use Rattle.graph.specs.Graph.{Graph, Simple}
use Rattle.graph.specs.Numbering.{total}
use Rattle.graph.specs.Tests.{most_classes}
use Rattle.layout.specs.Layout.{most_vertices}
use Rattle.layout.specs.Inner.Arrays.{count_in}
use Rattle.adjacency.specs.Adjacency.{edge}

-- the first vertex of each class, where class k has as many as the array says; behind them, the number of vertices
abbrev pub starts_of : List ℕ → List ℕ
starts_of counts = fill_to (most_classes + 1) (λ k. sum_to k (count_in counts)) (replicate (most_classes + 1) 0)

-- the array has the starts of the classes of n vertices
pub record Numbered (n : ℕ) (starts : List ℕ) : Type 0 where
  pub counts : List ℕ
  pub started : starts ≡ starts_of counts
  pub all : total most_classes (count_in counts) ≡ n

-- the class of vertex v: the first that starts no later and ends behind it
abbrev pub class_from : List ℕ → ℕ → ℕ
class_from starts v = lowest 0 most_classes (λ k. ltb v (get_or starts (k + 1) 0))

-- the vertices of class k are from, .., to - 1, all below n
pub record ClassRange (n : ℕ) (cls : ℕ → ℕ) (k from to : ℕ) : Type 0 where
  pub ordered : from ≤ to
  pub within : to ≤ n
  pub inside : (v : ℕ) → from ≤ v → v < to → cls v ≡ k
  pub only : (v : ℕ) → v < n → cls v ≡ k → (from ≤ v) × (v < to)

-- how many ones stand in rows top, .., bottom - 1 and columns left, .., right - 1
abbrev pub block_sum : Graph → ℕ → ℕ → ℕ → ℕ → ℕ
block_sum E top bottom left right = sum_to (bottom - top) (λ i. sum_to (right - left) (λ j. E (top + i) (left + j)))

-- how many of them stand below the diagonal, where rows and columns are from, .., to - 1
abbrev pub triangle_sum : Graph → ℕ → ℕ → ℕ
triangle_sum E from to = sum_to (to - from) (λ i. sum_to i (λ j. E (from + i) (from + j)))

-- the rows and columns are among the n vertices of a simple graph
pub record BlockOf (g : List ℕ) (top bottom left right : ℕ) : Type 0 where
  pub n : ℕ
  pub few : n ≤ most_vertices
  pub simple : Simple n (edge g)
  pub rows : (top ≤ bottom) × (bottom ≤ n)
  pub columns : (left ≤ right) × (right ≤ n)
