-- `runner::without_x` meets its contract.
use mathlib.Core.Path.{sym, ◌∙◌}
use Rattle.shuffled_completion.proofs.Answers.{with_x-completed, with_x-refused}
use Rattle.runner.proofs.without_x.Goals as goal

pub returns-in-Completed : goal.returns-in-Completed
returns-in-Completed c = λ x a e. sym (with_x-completed x a _ _ _ _ (sym e ∙ c.in-Completed.is)).0

pub returns-in-Refused : goal.returns-in-Refused
returns-in-Refused c = λ x a e. sym (with_x-refused x a _ (sym e ∙ c.in-Refused.is))
