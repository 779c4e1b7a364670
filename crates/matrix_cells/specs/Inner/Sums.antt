-- What the checks of the adjacency matrix count by.
-- Assumes nothing.
use Rattle.std.specs.Prelude.{◌≡◌, List, ℕ, ◌+◌, ◌*◌, length, get_or}
use Rattle.finite.specs.Range.{δ, sum_to}
use Rattle.graph.specs.Graph.{Graph}
use Rattle.graph.specs.Tests.{most_classes}
use Rattle.adjacency.specs.Adjacency.{side}

-- one sum for each class and each vertex
abbrev pub sums_size : ℕ
sums_size = most_classes * side

-- s' is s with x i added at place at i, for each i below n
pub record Added (n : ℕ) (at x : ℕ → ℕ) (s s' : List ℕ) : Type 0 where
  pub long : length s' ≡ length s
  pub sums : (p : ℕ) → get_or s' p 0 ≡ get_or s p 0 + sum_to n (λ i. δ (at i) p * x i)

-- how many of the first m vertices have class k and an edge to w
abbrev pub class_edges : ℕ → (ℕ → ℕ) → Graph → ℕ → ℕ → ℕ
class_edges m cls E k w = sum_to m (λ v. δ (cls v) k * E v w)
