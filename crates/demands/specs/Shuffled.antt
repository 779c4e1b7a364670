-- Shuffled completing (document 02, P7: shuffled finishing): "For each starting x the table is met in as many joins as were missing." The entry's answer is that of the
-- completing that x picks, and x besides: x after as many steps as joins.
-- Assumes nothing.
use Rattle.std.specs.Prelude.{◌≡◌, true, List, ℕ, ◌*◌, ◌≤◌, length, take}
use Rattle.answer.specs.declared.Refusal.{Refusal}
use Rattle.answer.specs.declared.CompleteAnswer.TheVariants as Complete
use Rattle.answer.specs.declared.ShuffleAnswer.TheVariants.{Completed, Refused}
use Rattle.answer.specs.declared.Choice.TheVariants.{Picked}
use Rattle.journal.specs.Journal.{table_of}
use Rattle.loan.specs.Loan.{Loan}
use Rattle.loan.specs.Valid.{LaidLoan}
use Rattle.join_records.specs.Record.{join_record_size}
use Rattle.completion.specs.Complete.{missing, log_after}
use Rattle.shuffled_completion.specs.Choice.{steps_x}
use Rattle.shuffled_completion.specs.Shuffle.{shuffle_answer, shuffle_after, shuffle_output}
use Rattle.shuffled_completion.specs.Outcome.{choice_answer}
use Rattle.demands.specs.Calls.{complete, changed}
use Rattle.demands.specs.Matrix.{ShortFor, HasTable}
use Rattle.demands.specs.Playback.{play}

-- a valid laid state, with any valid log, from x on, into an output with room: the records, played onto the matrix of before, fit it and give the matrix of after
pub record Shuffles (s : Loan) (x : ℕ) (out : List ℕ) : Type 0 where
  pub joins : ℕ
  pub switches : ℕ
  pub answer : shuffle_answer s x (length out) ≡ Completed joins switches (join_record_size * joins) (steps_x joins x)
  pub made : joins ≡ missing s.state
  pub has_table : HasTable (table_of s.state.journal) (shuffle_after s x (length out)).state
  pub played : play (take (join_record_size * joins) (shuffle_output s x out)) s.state.adjacency
      ≡ record { adjacency = (shuffle_after s x (length out)).state.adjacency; fitted = true }
  pub log-after : (shuffle_after s x (length out)).log ≡ log_after joins s.log

-- x comes back as it came, and no byte changes, of the log neither
pub record LeftAlone (s : Loan) (x : ℕ) (out : List ℕ) : Type 0 where
  pub answer : shuffle_answer s x (length out) ≡ Completed 0 0 0 x
  pub same_state : shuffle_after s x (length out) ≡ s
  pub same_output : shuffle_output s x out ≡ out

pub record ShuffledCompleting : Type 0 where
  pub shuffles : (s : Loan) (x : ℕ) (out : List ℕ) → LaidLoan s → join_record_size * missing s.state ≤ length out → Shuffles s x out
  -- a complete state, in which no cell is short, whatever the output
  pub complete_already : (s : Loan) (x : ℕ) (out : List ℕ) → LaidLoan s → ((k l : ℕ) → ShortFor (table_of s.state.journal) s.state k l → ⊥) → LeftAlone s x out
  -- the entry is the completing of the list of calls that x picks: it is refused where that is, and leaves what that leaves
  pub refused : (s : Loan) (x : ℕ) (out : List ℕ) (r : Refusal) →
      shuffle_answer s x (length out) ≡ Refused r → choice_answer (Picked x) s (length out) ≡ Complete.Refused r
  pub same_state : (s : Loan) (x : ℕ) (out : List ℕ) → shuffle_after s x (length out) ≡ changed s (complete (Picked x) out)
