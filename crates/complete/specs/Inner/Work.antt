-- What completing cell by cell may rely on.
-- Assumes nothing.
use Rattle.std.specs.Prelude.{List, ℕ, ◌≤◌, ◌<◌}
use Rattle.graph.specs.Tests.{most_classes}
use Rattle.adjacency.specs.Adjacency.{edge}
use Rattle.table.specs.Inner.Cells.{matrix_of}
use Rattle.classes.specs.Inner.Block.{block_sum, BlockOf}
use Rattle.cell_filling.specs.declared.pair.Cell.{Cell}

-- what a cell misses can be counted: its ranges are ranges of vertices, and it does not hold more than the table
pub record Countable (g cells : List ℕ) (c : Cell) : Type 0 where
  pub first : c.k < most_classes
  pub second : c.l < most_classes
  pub block : BlockOf g c.rows.from c.rows.to c.columns.from c.columns.to
  pub within : block_sum (edge g) c.rows.from c.rows.to c.columns.from c.columns.to ≤ matrix_of cells c.k c.l
