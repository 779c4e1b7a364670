-- `switching::choose_transfer` meets its contract: what is left to search has the answer of the whole.
use mathlib.Core.Path.{sym, ◌∙◌}
use native.Mathlib.Omega.{arith}
use Rattle.finite.proofs.Lowest.{lowest-end, lowest-here, lowest-next, lowest-skip}
use Rattle.switching.proofs.choose_transfer.Goals as goal

pub loop-t-init : goal.loop-t-init
loop-t-init c =
    let s = c.skip_transfers-t.ensures in
    (s.0, lowest-skip _ _ _ _ (omega arith) s.0 (λ i _ l. s.1 i l))

pub returns-then-can_transfer : goal.returns-then-can_transfer
returns-then-can_transfer c = sym (c.loop-t.invariant.1 ∙ lowest-here _ _ _ (omega arith) (sym c.can_transfer.ensures ∙ c.if-can_transfer.true))

pub loop-t-preserved : goal.loop-t-preserved
loop-t-preserved c = (omega arith, c.loop-t.invariant.1 ∙ lowest-next _ _ _ (omega arith) (sym c.can_transfer.ensures ∙ c.if-can_transfer.false))

pub returns : goal.returns
returns c = sym (c.loop-t.invariant.1 ∙ lowest-end _ _ _ c.loop-t-test.false)
