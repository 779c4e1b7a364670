-- Both ways of completing: what each ends in. The checks before it, its answer, what it leaves and its records are the same for each
-- (crates/completion/specs/Complete.antt).
-- Assumes nothing.
use Rattle.std.specs.Prelude.{List, ℕ}
use Rattle.answer.specs.declared.CompleteAnswer.{CompleteAnswer}
use Rattle.answer.specs.declared.Choice.{Choice}
use Rattle.answer.specs.declared.Choice.TheVariants.{Lowest, Picked}
use Rattle.state.specs.State.{State}
use Rattle.loan.specs.Loan.{Loan}
use Rattle.completion.specs.Complete.{Ran, completed, ran_answer, ran_after, ran_output}
use Rattle.shuffled_completion.specs.Shuffle.{shuffled}

abbrev pub outcome : Choice → State → Ran
outcome Lowest s = completed s
outcome (Picked x) s = (shuffled s x).ran

-- completing by a choice, for an output of m bytes, or for one that is lent as `out`
abbrev pub choice_answer : Choice → Loan → ℕ → CompleteAnswer
choice_answer f b m = ran_answer (outcome f b.state) b m

abbrev pub choice_after : Choice → Loan → ℕ → Loan
choice_after f b m = ran_after (outcome f b.state) b m

abbrev pub choice_output : Choice → Loan → List ℕ → List ℕ
choice_output f b out = ran_output (outcome f b.state) b out
