-- `journal::slots_ok` meets its contract: the slots passed are ok.
use mathlib.Core.Path.{sym, ◌∙◌}
use native.Mathlib.Omega.{arith}
use Rattle.finite.proofs.All.{all_to-none, all_to-more, all_to-fails}
use Rattle.journal.proofs.slots_ok.Goals as goal

pub loop-i-init : goal.loop-i-init
loop-i-init c = (omega arith, all_to-none _)

pub returns-then-not-slot_ok : goal.returns-then-not-slot_ok
returns-then-not-slot_ok c = sym (all_to-fails _ _ _ c.loop-i-test.true (sym c.slot_ok.ensures ∙ c.if-not-slot_ok.true))

pub loop-i-preserved : goal.loop-i-preserved
loop-i-preserved c = (omega arith, rw (all_to-more, c.loop-i.invariant.1) (sym c.slot_ok.ensures ∙ c.if-not-slot_ok.false))
