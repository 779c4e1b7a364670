-- Every text of the program fits the array that holds it.
-- Assumes nothing.
use mathlib.Core.Path.{◌≡◌, refl, sym, ap, ◌∙◌}
use Prim.Native.Nat.{ℕ, ◌≤◌}
use lib.ListN.{length}
use Rattle.std.specs.Prelude.{Ok, Err}
use Rattle.answer.specs.Refusals.{Verdict}
use Rattle.answer.specs.declared.LayOutAnswer.{LayOutAnswer}
use Rattle.answer.specs.declared.LayOutAnswer.TheVariants.{LaidOut, Refused as LayOutRefused}
use Rattle.answer.specs.declared.CompleteAnswer.{CompleteAnswer}
use Rattle.answer.specs.declared.CompleteAnswer.TheVariants.{Completed, Refused as CompleteRefused}
use Rattle.answer.specs.declared.Choice.{Choice}
use Rattle.state.specs.State.{State, with_matrix}
use Rattle.state.specs.Valid.{ValidLaid}
use Rattle.state.specs.Laid.{vertex_count}
use Rattle.loan.specs.Valid.{LaidLoan}
use Rattle.loan.proofs.Laid.{laid-state, altered-laid}
use Rattle.graph.specs.Tests.{vertices}
use Rattle.journal.proofs.Laid.{table_laid}
use Rattle.lay_out.specs.LayOut.{lay_out_answer, after_lay_out, lay_out_after}
use Rattle.lay_out.proofs.LayOut.{lay_out_vertices}
use Rattle.completion.specs.Complete.{after_ran}
use Rattle.completion.proofs.Entry.{completed-facts}
use Rattle.shuffled_completion.specs.Outcome.{outcome, choice_answer}
use Rattle.shuffled_completion.proofs.Works.{outcome-works}
use Rattle.options.specs.declared.Form.{Form}
use Rattle.state_text.specs.StateText.{text_most}
use Rattle.state_text.proofs.Room.{state_fits, refused-fits}
use Rattle.runner.specs.Program.{join_records_most, with_own_log, completed_text, laid_text, taken_text}

-- a valid laid state is valid with the program's own log, and where completing goes on, so is the state
pub own_laid : (s : State) → ValidLaid s → LaidLoan (with_own_log s)
own_laid s v = altered-laid (with_own_log s) s.adjacency v

pub own_valid : (choice : Choice) (s : State) (joins switches written : ℕ)
    → choice_answer choice (with_own_log s) join_records_most ≡ Completed joins switches written → ValidLaid s
own_valid choice s joins switches written e =
    laid-state (with_own_log s) (completed-facts (with_own_log s) (outcome choice s) join_records_most joins switches written e).loan

completed-fits : (form : Form) (choice : Choice) (s : State) (n : ℕ) → n ≡ vertex_count s → length (laid_text form choice (LaidOut n) s) ≤ text_most
completed-fits form choice s n count = go (choice_answer choice (with_own_log s) join_records_most) refl
  where
    go : (a : CompleteAnswer) → choice_answer choice (with_own_log s) join_records_most ≡ a
        → length (completed_text form a n (after_ran a (outcome choice s) (with_own_log s)).state) ≤ text_most
    go (Completed joins switches written) e =
        let f = own_valid choice s joins switches written e in
        state_fits (with_matrix s (outcome choice s).adjacency) (outcome-works choice s f).state form n switches count
    go (CompleteRefused r) e = refused-fits r

-- what laying out answers is the N of the state
pub laid-count : (s : State) (n : ℕ) → lay_out_answer s ≡ LaidOut n → n ≡ vertex_count (lay_out_after s)
laid-count s n e =
    lay_out_vertices s n e ∙ ap vertices (sym (table_laid s.journal)) ∙ ap (λ (a : LayOutAnswer). vertex_count (after_lay_out a s)) (sym e)

-- every text fits
pub text_fits : (form : Form) (choice : Choice) (v : Verdict) (s : State) → length (taken_text form choice v s) ≤ text_most
text_fits form choice (Err r) s = refused-fits r
text_fits form choice (Ok _) s = go (lay_out_answer s) refl
  where
    go : (a : LayOutAnswer) → lay_out_answer s ≡ a → length (laid_text form choice a (lay_out_after s)) ≤ text_most
    go (LaidOut n) e = completed-fits form choice (lay_out_after s) n (laid-count s n e)
    go (LayOutRefused r) e = refused-fits r
