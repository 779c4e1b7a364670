-- `progress::advance` meets its contract: what is left to search has the answer of the whole.
use mathlib.Core.Path.{sym, ◌∙◌}
use native.Mathlib.Omega.{arith}
use borrow.Author.Tests.{lt-ltb, le-ltb}
use Rattle.finite.proofs.Lowest.{lowest-here, lowest-next}
use Rattle.progress.proofs.Searched.{searched_all}
use Rattle.progress.proofs.advance.Goals as goal

pub returns-then-degrees-i : goal.returns-then-degrees-i
returns-then-degrees-i c = sym (c.loop-i.invariant ∙ lowest-here _ _ _ (omega arith) (lt-ltb _ _ c.if-degrees-i.true))

pub loop-i-preserved : goal.loop-i-preserved
loop-i-preserved c = c.loop-i.invariant ∙ lowest-next _ _ _ (omega arith) (le-ltb _ _ c.if-degrees-i.false)

pub returns : goal.returns
returns c = c.max.ensures ∙ searched_all _ _ _ _ c.loop-i.invariant c.loop-i-test.false (λ h. omega arith)
