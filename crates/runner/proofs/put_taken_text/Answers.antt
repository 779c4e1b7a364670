-- `runner::put_taken_text` meets its contract.
use Rattle.state.specs.State.{state_of}
use Rattle.runner.proofs.Said.{says, says_line, said_not_laid, said_laid, laid-n}
use Rattle.runner.proofs.put_taken_text.Goals as goal

pub put_laid_text-requires : goal.put_laid_text-requires
put_laid_text-requires c =
    let a = c.args in
    let l = c.lay_out-answer.ensures in
    (laid-n a.form a.choice (state_of a.journal.now a.adjacency.now) _ _ (l.value, l.journal_after) _ c.in-LaidOut.is, c.requires)

pub returns-in-Refused : goal.returns-in-Refused
returns-in-Refused c =
    let a = c.args in
    let l = c.lay_out-answer.ensures in
    let w = says_line _ _ a.output.now _ _
    (said_not_laid a.form a.choice (state_of a.journal.now a.adjacency.now) _ _ (l.value, l.journal_after) _ c.in-Refused.is)
    (c.put_refused.ensures.value, c.put_refused.ensures.out_after) in
    record { value = w.0; output_after = w.1 }

pub returns-in-LaidOut : goal.returns-in-LaidOut
returns-in-LaidOut c =
    let a = c.args in
    let l = c.lay_out-answer.ensures in
    let w = says _ _ a.output.now _ _
    (said_laid a.form a.choice (state_of a.journal.now a.adjacency.now) _ _ (l.value, l.journal_after) _ c.in-LaidOut.is)
    (c.put_laid_text.ensures.value, c.put_laid_text.ensures.output_after) in
    record { value = w.0; output_after = w.1 }
