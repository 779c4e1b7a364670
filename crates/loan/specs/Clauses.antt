-- A valid loan clause by clause: document 01's sentence on a sound bench (crates/state/specs/Clauses.antt), and document 02's on the log (P8): "A log of
-- wrong length is 1; one of another shape, or whose records can't be legally undone, last first, is 2." `loan_valid` tests exactly this
-- (proofs/Clauses.antt `loan_by_clauses`).
-- Assumes nothing.
use Rattle.std.specs.Prelude.{◌≡◌, true, ◌↔◌, ℕ, ◌<◌, length, get_or}
use Rattle.state.specs.Clauses.{Lengths, StateClauses}
use Rattle.state.specs.Laid.{vertex_count, class_at}
use Rattle.swap_log.specs.Clauses.{LogClauses}
use Rattle.loan.specs.Loan.{Loan}
use Rattle.loan.specs.Valid.{loan_lengths_ok, loan_valid}

-- "A lent log of 4,098 bytes"
pub record LoanLengths (b : Loan) : Type 0 where
  pub state_lengths : Lengths b.state
  pub log_length : length b.log ≡ 4098

pub record LoanClauses (b : Loan) : Type 0 where
  pub state_clauses : StateClauses b.state
  -- in stage 0 the log is empty: no record can be undone in a grid without links
  pub taking : get_or b.state.journal 0 0 ≡ 0 → (p : ℕ) → p < 4098 → get_or b.log p 0 ≡ 0
  -- in stage 1 its records can be undone from the grid
  pub laid : get_or b.state.journal 0 0 ≡ 1 → LogClauses (vertex_count b.state) (class_at b.state) b.state.adjacency b.log

pub record LoanByClauses : Type 0 where
  pub lengths : (b : Loan) → (loan_lengths_ok b ≡ true) ↔ LoanLengths b
  pub is_valid : (b : Loan) → LoanLengths b → (loan_valid b ≡ true) ↔ LoanClauses b
