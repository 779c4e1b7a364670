-- `tracking::count_cells` meets its contract: before row k all cells of the rows before it are counted.
use Rattle.tracking.specs.Inner.Track.{cell_place, Counted}
use Rattle.tracking.proofs.count_cells.Given as goal

abbrev pub invariant-loop-k : goal.invariant-loop-k
invariant-loop-k l = Counted (cell_place l.k 0) l.plan.n l.plan.cells.now l.plan.starts.now l.adjacency l.have l.full
