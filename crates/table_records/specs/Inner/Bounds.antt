-- How high a cell is at most, and how many bytes the records are at most.
-- Assumes nothing.
use Rattle.std.specs.Prelude.{List, ℕ, ◌+◌, ◌*◌, ◌≤◌}
use Rattle.graph.specs.Tests.{most_degree}
use Rattle.table.specs.Block.{record_size}
use Rattle.table.specs.Inner.Cells.{cells_size, matrix_of}
use Rattle.layout.specs.Layout.{most_vertices}

-- the most that a cell reaches: 200 vertices of degree 40
abbrev pub cell_most_own : ℕ
cell_most_own = most_vertices * most_degree

abbrev pub CellsSmall : List ℕ → Type 0
CellsSmall c = (k l : ℕ) → matrix_of c k l ≤ cell_most_own

-- the most bytes that the records of cells take: 4 for each of 41 × 41
abbrev pub cell_records_most : ℕ
cell_records_most = record_size * cells_size

-- and with the record of isolated vertices
abbrev pub records_most : ℕ
records_most = record_size * (cells_size + 1)
