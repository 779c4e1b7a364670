-- `tracking::count_row` meets its contract: before cell (k, l) all cells before it are counted.
use Rattle.tracking.proofs.Cells.{counted-row}
use Rattle.tracking.proofs.count_row.Goals as goal

pub loop-l-init : goal.loop-l-init
loop-l-init c = counted-row c.requires.0 c.args.k c.requires.2 c.requires.1
