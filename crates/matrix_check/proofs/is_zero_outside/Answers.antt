-- `matrix_check::is_zero_outside` meets its contract: the flag is the test of the rows passed.
use native.Mathlib.Omega.{arith}
use Rattle.finite.proofs.All.{all_to-none, all_to-more}
use Rattle.matrix_check.proofs.is_zero_outside.Goals as goal

pub loop-v-init : goal.loop-v-init
loop-v-init c = (omega arith, rw all_to-none)

pub loop-v-preserved : goal.loop-v-preserved
loop-v-preserved c = (omega arith, rw (all_to-more, c.loop-v.invariant.1, c.row_end_zero-ok.ensures))
