-- `matrix_check::is_mirrored` meets its contract: the rows passed are mirrored.
use mathlib.Core.Path.{sym, ◌∙◌}
use native.Mathlib.Omega.{arith}
use Rattle.finite.proofs.All.{all_to-none, all_to-more, all_to-fails, and_both}
use Rattle.matrix_check.proofs.is_mirrored.Goals as goal

pub loop-v-init : goal.loop-v-init
loop-v-init c = (omega arith, all_to-none _)

pub returns-then-not-row_mirrored : goal.returns-then-not-row_mirrored
returns-then-not-row_mirrored c = sym (all_to-fails _ _ _ c.loop-v-test.true (sym c.row_mirrored.ensures ∙ c.if-not-row_mirrored.true))

pub loop-v-preserved : goal.loop-v-preserved
loop-v-preserved c = (omega arith, rw all_to-more (and_both _ _ c.loop-v.invariant.1 (sym c.row_mirrored.ensures ∙ c.if-not-row_mirrored.false)))
