-- What the program prints, for every input (document 01, "The program `replica`"): "reads records from standard input, cuts them into blocks of
-- 64 bytes (the last may be shorter), numbered from 0, lays out, finishes and prints"; "On a refusal it prints only" that. Document 02 adds the form, lines
-- as before or one line of graph6 (P5), the second way to complete (P7), and a log, which the program lends too, all zero (P8).
-- Assumes nothing.
use Rattle.std.specs.Prelude.{List, ℕ, ◌*◌, Ok, Err}
use Rattle.answer.specs.Refusals.{Verdict}
use Rattle.answer.specs.declared.LayOutAnswer.{LayOutAnswer}
use Rattle.answer.specs.declared.LayOutAnswer.TheVariants.{LaidOut, Refused as LayOutRefused}
use Rattle.answer.specs.declared.CompleteAnswer.{CompleteAnswer}
use Rattle.answer.specs.declared.CompleteAnswer.TheVariants.{Completed, Refused as CompleteRefused}
use Rattle.answer.specs.declared.Choice.{Choice}
use Rattle.state.specs.State.{State, cleared}
use Rattle.swap_log.specs.Log.{empty_log}
use Rattle.loan.specs.Loan.{Loan}
use Rattle.lay_out.specs.LayOut.{lay_out_answer, lay_out_after}
use Rattle.join_records.specs.Record.{join_record_size}
use Rattle.completion.specs.Complete.{most_edges, ran_answer, after_ran}
use Rattle.shuffled_completion.specs.Outcome.{outcome}
use Rattle.options.specs.declared.Form.{Form}
use Rattle.text.specs.Text.{refused_line}
use Rattle.input_blocks.specs.Blocks.{take_all}
use Rattle.state_text.specs.StateText.{state_text}

-- the room that completing is lent: a record for each edge that a layout can have
abbrev pub join_records_most : ℕ
join_records_most = join_record_size * most_edges

-- after completing
abbrev pub completed_text : Form → CompleteAnswer → ℕ → State → List ℕ
completed_text form (Completed joins switches written) n s = state_text form n switches s
completed_text form (CompleteRefused r) n s = refused_line r

-- the state with the program's own log
abbrev pub with_own_log : State → Loan
with_own_log s = record { state = s; log = empty_log }

-- after laying out
abbrev pub laid_text : Form → Choice → LayOutAnswer → State → List ℕ
laid_text form choice (LaidOut n) s =
    let r = outcome choice s in
    let a = ran_answer r (with_own_log s) join_records_most in
    completed_text form a n (after_ran a r (with_own_log s)).state
laid_text form choice (LayOutRefused r) s = refused_line r

-- after taking
abbrev pub taken_text : Form → Choice → Verdict → State → List ℕ
taken_text form choice (Ok _) s = laid_text form choice (lay_out_answer s) (lay_out_after s)
taken_text form choice (Err r) s = refused_line r

-- from a state s
abbrev pub text_from : Form → Choice → State → List ℕ → List ℕ
text_from form choice s input = taken_text form choice (take_all s input).verdict (take_all s input).state

-- the program's text: the journal and the matrix are all zero at first
abbrev pub program_text : Form → Choice → List ℕ → List ℕ
program_text form choice input = text_from form choice cleared input
