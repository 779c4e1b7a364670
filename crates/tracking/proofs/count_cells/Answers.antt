-- `tracking::count_cells` meets its contract: before row k all cells of the rows before it are counted.
use Rattle.tracking.proofs.Cells.{counted_none}
use Rattle.tracking.proofs.count_cells.Goals as goal

pub loop-k-init : goal.loop-k-init
loop-k-init c = let p = c.requires in counted_none p.0 _ _ p.1 p.2
