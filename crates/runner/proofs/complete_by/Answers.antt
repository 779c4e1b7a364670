-- `runner::complete_by` meets its contract.
use mathlib.Core.Path.{ap, ◌∙◌}
use Prim.Native.Nat.{ℕ}
use lib.ListN.{length}
use Rattle.answer.specs.declared.Choice.TheVariants.{Lowest}
use Rattle.loan.specs.Loan.{loan_of}
use Rattle.completion.specs.Complete.{ran_answer, ran_after}
use Rattle.shuffled_completion.specs.Outcome.{choice_answer, choice_after}
use Rattle.shuffled_completion.specs.Shuffle.{shuffled}
use Rattle.runner.proofs.complete_by.Goals as goal

pub returns-in-Lowest-clause-value : goal.returns-in-Lowest-clause-value
returns-in-Lowest-clause-value c =
    let a = c.args in
    let b = loan_of a.journal.now a.adjacency.now a.log.now in
    rw c.in-Lowest.is (c.complete.ensures.value ∙ ap (choice_answer Lowest b) c.requires)

pub returns-in-Lowest-clause-adjacency_after : goal.returns-in-Lowest-clause-adjacency_after
returns-in-Lowest-clause-adjacency_after c =
    let a = c.args in
    let b = loan_of a.journal.now a.adjacency.now a.log.now in
    rw c.in-Lowest.is (c.complete.ensures.adjacency_after ∙ ap (λ (m : ℕ). (choice_after Lowest b m).state.adjacency) c.requires)

pub returns-in-Picked-clause-value : goal.returns-in-Picked-clause-value
returns-in-Picked-clause-value c =
    let a = c.args in
    let b = loan_of a.journal.now a.adjacency.now a.log.now in
    let r = shuffled b.state c.in-Picked.x in
    rw c.in-Picked.is
    (c.without_x.ensures r.x (ran_answer r.ran b (length a.records.now)) c.complete_shuffled.ensures.value
    ∙ ap (ran_answer r.ran b) c.requires)

pub returns-in-Picked-clause-adjacency_after : goal.returns-in-Picked-clause-adjacency_after
returns-in-Picked-clause-adjacency_after c =
    let a = c.args in
    let b = loan_of a.journal.now a.adjacency.now a.log.now in
    let r = shuffled b.state c.in-Picked.x in
    rw c.in-Picked.is
    (c.complete_shuffled.ensures.adjacency_after ∙ ap (λ (m : ℕ). (ran_after r.ran b m).state.adjacency) c.requires)
