-- When a loan is valid: the state is (document 01: sound), and so is the log beside it.
-- Assumes nothing.
use Rattle.std.specs.Prelude.{◌≡◌, Bool, true, ◌&&◌, cond, List, ℕ, eqb, length}
use Rattle.slices.specs.Slices.{all_zero}
use Rattle.journal.specs.Journal.{phase_taking, phase_laid, phase}
use Rattle.state.specs.State.{State}
use Rattle.state.specs.Valid.{lengths_ok, valid}
use Rattle.state.specs.Laid.{vertex_count, class_at}
use Rattle.swap_log.specs.Log.{log_size, log_ok}
use Rattle.loan.specs.Loan.{Loan}

-- each has its length
abbrev pub loan_lengths_ok : Loan → Bool
loan_lengths_ok b = lengths_ok b.state && eqb (length b.log) log_size

-- the log l beside the state s: while blocks are taken only the empty one, laid out one whose records can be taken back
abbrev pub log_valid : State → List ℕ → Bool
log_valid s l = cond (eqb (phase s.journal) phase_taking) (all_zero l) (log_ok (vertex_count s) (class_at s) s.adjacency l)

abbrev pub loan_valid : Loan → Bool
loan_valid b = valid b.state && log_valid b.state b.log

-- a valid loan
pub record ValidLoan (b : Loan) : Type 0 where
  pub lengths : loan_lengths_ok b ≡ true
  pub is_valid : loan_valid b ≡ true

-- a valid loan, laid out
pub record LaidLoan (b : Loan) : Type 0 where
  pub lengths : loan_lengths_ok b ≡ true
  pub is_valid : loan_valid b ≡ true
  pub phased : phase b.state.journal ≡ phase_laid
