-- What the calls are lent that change a laid state's matrix, and clearing: the state, and what belongs to it besides, which is the log of swaps (document
-- 02, P8: "It belongs to the bench"). All other calls that are lent a state are lent the state alone.
-- Assumes nothing.
use Rattle.std.specs.Prelude.{List, ℕ}
use Rattle.state.specs.State.{State, state_of, with_matrix, cleared}
use Rattle.swapping.specs.declared.Swap.{Swap}
use Rattle.swapping.specs.Swap.{swap_bytes, undoing}
use Rattle.swap_log.specs.Log.{empty_log, logged, last_swap, unlogged}

pub record Loan : Type 0 where
  pub state : State
  pub log : List ℕ

-- the loan that three lists are
abbrev pub loan_of : List ℕ → List ℕ → List ℕ → Loan
loan_of j g l = record { state = state_of j g; log = l }

-- the loan with another state
abbrev pub with_state : Loan → State → Loan
with_state b s = record { state = s; log = b.log }

-- the matrix altered by another call than a swap or its taking back: the log is emptied
abbrev pub altered : Loan → List ℕ → Loan
altered b g = record { state = with_matrix b.state g; log = empty_log }

-- a swap made, and written as the log's last record
abbrev pub swapped_loan : Loan → Swap → Loan
swapped_loan b x = record { state = with_matrix b.state (swap_bytes b.state.adjacency x); log = logged b.log x }

-- the swap of the log's last record taken back, and the record with it
abbrev pub undone_loan : Loan → Loan
undone_loan b =
    record { state = with_matrix b.state (swap_bytes b.state.adjacency (undoing (last_swap b.log))); log = unlogged b.log }

-- just cleared
abbrev pub cleared_loan : Loan
cleared_loan = record { state = cleared; log = empty_log }
