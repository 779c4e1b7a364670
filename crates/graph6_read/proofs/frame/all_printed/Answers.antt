-- `graph6_read::frame::all_printed` meets its contract: the flag is the test of the bytes passed.
use Rattle.finite.proofs.All.{all_to-none, all_to-more}
use Rattle.graph6_read.proofs.frame.all_printed.Goals as goal

pub loop-x-init : goal.loop-x-init
loop-x-init c = rw all_to-none

pub loop-x-preserved : goal.loop-x-preserved
loop-x-preserved c = rw (all_to-more, c.loop-x.invariant, c.up_to-ok.ensures)
