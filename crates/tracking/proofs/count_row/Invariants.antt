-- `tracking::count_row` meets its contract: before cell (k, l) all cells before it are counted.
use Rattle.tracking.specs.Inner.Track.{cell_place, Counted}
use Rattle.tracking.proofs.count_row.Given as goal

abbrev pub invariant-loop-l : goal.invariant-loop-l
invariant-loop-l l = Counted (cell_place l.k l.l) l.plan.n l.plan.cells.now l.plan.starts.now l.adjacency l.have l.full
