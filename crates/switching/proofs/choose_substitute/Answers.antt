-- `switching::choose_substitute` meets its contract: what is left to search has the answer of the whole class.
use mathlib.Core.Path.{sym, ◌∙◌}
use native.Mathlib.Omega.{arith}
use Rattle.finite.proofs.Lowest.{lowest-next}
use Rattle.switching.proofs.Substitute.{else_found, else_none}
use Rattle.switching.proofs.choose_substitute.Goals as goal

pub returns-then-can_stand_in : goal.returns-then-can_stand_in
returns-then-can_stand_in c =
    else_found _ _ _ _ _ c.loop-b.invariant c.loop-b-test.true
    (sym c.can_stand_in.ensures ∙ c.if-can_stand_in.true)

pub loop-b-preserved : goal.loop-b-preserved
loop-b-preserved c =
    c.loop-b.invariant
    ∙ lowest-next _ _ _ (omega arith) (sym c.can_stand_in.ensures ∙ c.if-can_stand_in.false)

pub returns : goal.returns
returns c = else_none _ _ _ _ _ c.loop-b.invariant c.loop-b-test.false
