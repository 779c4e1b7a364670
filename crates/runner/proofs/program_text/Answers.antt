-- `runner::program_text` meets its contract.
use Rattle.std.proofs.Common.{rules}
use Rattle.state.specs.State.{cleared}
use Rattle.runner.specs.Program.{text_from}
use Rattle.runner.proofs.Said.{says, says_line, said_stopped, said_taken, says_fits}
use Rattle.runner.proofs.program_text.Goals as goal

pub returns-in-Err : goal.returns-in-Err
returns-in-Err c =
    let a = c.args in
    let t = c.take_all.ensures in
    let w = says_fits a.form a.choice cleared a.input.now a.output.now _ _ (search rules)
    (says_line (text_from a.form a.choice cleared a.input.now) _ a.output.now _ _
    (said_stopped a.form a.choice cleared a.input.now _ _ (t.value, t.journal_after) _ c.in-Err.is)
    (c.put_refused.ensures.value, c.put_refused.ensures.out_after)) in
    record { value = w.0; prefix_len = w.1.0; output_after = w.1.1 }

pub returns-in-Ok : goal.returns-in-Ok
returns-in-Ok c =
    let a = c.args in
    let t = c.take_all.ensures in
    let w = says_fits a.form a.choice cleared a.input.now a.output.now _ _ (search rules)
    (says (text_from a.form a.choice cleared a.input.now) _ a.output.now _ _
    (said_taken a.form a.choice cleared a.input.now _ _ (t.value, t.journal_after) c.in-Ok.is)
    (c.put_taken_text.ensures.value, c.put_taken_text.ensures.output_after)) in
    record { value = w.0; prefix_len = w.1.0; output_after = w.1.1 }
