-- `matrix_check::row_mirrored` meets its contract: the flag is the test of the pairs passed.
use native.Mathlib.Omega.{arith}
use Rattle.finite.proofs.All.{all_to-none, all_to-more}
use Rattle.matrix_check.proofs.row_mirrored.Goals as goal

pub loop-w-init : goal.loop-w-init
loop-w-init c = (omega arith, rw all_to-none)

pub loop-w-preserved : goal.loop-w-preserved
loop-w-preserved c = (omega arith, rw (all_to-more, c.loop-w.invariant.1, c.pair_ok-ok.ensures))
