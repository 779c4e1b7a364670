-- The degrees that the vertices have so far, as they stand beside the matrix.
-- Assumes nothing.
use Rattle.std.specs.Prelude.{List, ℕ, replicate}
use Rattle.finite.specs.Inner.Fill.{fill_to}
use Rattle.graph.specs.Graph.{degree}
use Rattle.layout.specs.Layout.{most_vertices}
use Rattle.adjacency.specs.Adjacency.{edge}

-- the degrees of the n vertices, in an array of 200 with zeros behind them
abbrev pub degrees_of : ℕ → List ℕ → List ℕ
degrees_of n g = fill_to n (degree n (edge g)) (replicate most_vertices 0)
