-- `slices::ones` meets its contract: before byte i, sum is that of the bytes before it, and no more than i.
use native.Mathlib.Omega.{arith}
use Rattle.finite.proofs.Sum.{sum_to-none, sum_to-more}
use Rattle.slices.proofs.ones.Goals as goal

pub loop-x-init : goal.loop-x-init
loop-x-init c = rw sum_to-none (omega arith, omega arith, omega arith)

pub loop-x-preserved : goal.loop-x-preserved
loop-x-preserved c = (omega arith, rw sum_to-more (omega arith), omega (arith, c.requires.1 c.loop-x.x-index (omega arith)))
