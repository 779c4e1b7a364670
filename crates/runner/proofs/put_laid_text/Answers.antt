-- `runner::put_laid_text` meets its contract.
use lib.ListN.{length-replicate}
use Rattle.state.specs.State.{state_of}
use Rattle.runner.proofs.Said.{says, says_line, said_refused, said_completed, completed-laid}
use Rattle.runner.proofs.put_laid_text.Goals as goal

pub complete_by-answer-requires : goal.complete_by-answer-requires
complete_by-answer-requires c = rw length-replicate

pub put_state_text-requires : goal.put_state_text-requires
put_state_text-requires c =
    let a = c.args in
    let e = c.complete_by-answer.ensures in (
      completed-laid a.form a.choice (state_of a.journal.now a.adjacency.now) a.n _ _ e.value e.adjacency_after _ _ _ c.in-Completed.is,
      c.requires.0,
      c.requires.1,
    )

pub returns-in-Refused : goal.returns-in-Refused
returns-in-Refused c =
    let a = c.args in
    let e = c.complete_by-answer.ensures in
    let w = says_line _ _ a.output.now _ _
    (said_refused a.form a.choice (state_of a.journal.now a.adjacency.now) a.n _ _ e.value e.adjacency_after _ c.in-Refused.is)
    (c.put_refused.ensures.value, c.put_refused.ensures.out_after) in
    record { value = w.0; output_after = w.1 }

pub returns-in-Completed : goal.returns-in-Completed
returns-in-Completed c =
    let a = c.args in
    let e = c.complete_by-answer.ensures in
    let w = says _ _ a.output.now _ _
    (said_completed a.form a.choice (state_of a.journal.now a.adjacency.now) a.n _ _ e.value e.adjacency_after _ _ _ c.in-Completed.is)
    (c.put_state_text.ensures.value, c.put_state_text.ensures.output_after) in
    record { value = w.0; output_after = w.1 }
