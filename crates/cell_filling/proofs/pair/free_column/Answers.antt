-- `cell_filling::pair::free_column` meets its contract: what is left to search has the answer of the whole.
use mathlib.Core.Path.{sym, ◌∙◌}
use native.Mathlib.Omega.{arith}
use Rattle.finite.proofs.Lowest.{lowest-here, lowest-next}
use Rattle.progress.proofs.Searched.{searched_all}
use Rattle.cell_filling.proofs.pair.free_column.Goals as goal

pub returns-then-is_free : goal.returns-then-is_free
returns-then-is_free c = sym (c.loop-w.invariant ∙ lowest-here _ _ _ (omega arith) (sym c.is_free.ensures ∙ c.if-is_free.true))

pub loop-w-preserved : goal.loop-w-preserved
loop-w-preserved c = c.loop-w.invariant ∙ lowest-next _ _ _ (omega arith) (sym c.is_free.ensures ∙ c.if-is_free.false)

pub returns : goal.returns
returns c = c.max.ensures ∙ searched_all _ _ _ _ c.loop-w.invariant c.loop-w-test.false (λ h. omega arith)
