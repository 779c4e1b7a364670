-- What the code keeps while it goes through an edge list: the cells that the edges so far make.
-- Assumes nothing.
use Rattle.std.specs.Prelude.{◌≡◌, List, ℕ, ◌<◌}
use Rattle.graph.specs.Graph.{Graph, jdm, times_counted}
use Rattle.graph.specs.Tests.{most_classes}
use Rattle.table.specs.Inner.Cells.{matrix_of, place}
use Rattle.degree_counts.specs.Inner.Degrees.{add_at}

-- the cells after one edge more, between vertices of degrees a and b
abbrev pub count_cell : ℕ → ℕ → List ℕ → List ℕ
count_cell a b c = add_at c (place a b) (times_counted a b)

-- the array holds the matrix of E, a graph on n vertices, at the classes cls
abbrev pub HasCells : List ℕ → ℕ → (ℕ → ℕ) → Graph → Type 0
HasCells c n cls E = (k l : ℕ) → k < most_classes → l < most_classes → matrix_of c k l ≡ jdm n cls E k l
