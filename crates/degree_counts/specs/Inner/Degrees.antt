-- What the code keeps while it goes through an edge list: the degrees that the edges so far make.
-- Assumes nothing.
use Rattle.std.specs.Prelude.{◌≡◌, List, ℕ, ◌+◌, ◌<◌, ltb, get_or, set}
use Rattle.finite.specs.Range.{lowest}
use Rattle.graph.specs.Graph.{Graph, degree, size}
use Rattle.graph.specs.Tests.{most_degree}

-- n more at place p
abbrev pub add_at : List ℕ → ℕ → ℕ → List ℕ
add_at t p n = set t p (get_or t p 0 + n)

-- the degrees after one edge x – y more
abbrev pub count_edge : ℕ → ℕ → List ℕ → List ℕ
count_edge x y d = add_at (add_at d x 1) y 1

-- the degree of v as the array has it
abbrev pub degree_in : List ℕ → ℕ → ℕ
degree_in d v = get_or d v 0

-- the array holds the degrees of E, a graph on n vertices
abbrev pub HasDegrees : List ℕ → ℕ → Graph → Type 0
HasDegrees d n E = (v : ℕ) → v < n → degree_in d v ≡ degree n E v

-- the lowest of n vertices whose degree in the array is over 40
abbrev pub first_above_in : List ℕ → ℕ → ℕ
first_above_in d n = lowest 0 n (λ v. ltb most_degree (degree_in d v))

-- how many of n vertices have degree 0 in the array
abbrev pub isolated_in : List ℕ → ℕ → ℕ
isolated_in d n = size n (degree_in d) 0
