-- What is proved of loans (proofs/Laid.antt, proofs/Swapped.antt).
-- Assumes nothing.
use Rattle.std.specs.Prelude.{◌≡◌, true, List, ℕ, ◌+◌, ◌<◌}
use Rattle.answer.specs.Refusals.{Go}
use Rattle.graph.specs.Graph.{degree, edges, jdm}
use Rattle.journal.specs.Journal.{phase_laid}
use Rattle.adjacency.specs.Adjacency.{edge}
use Rattle.state.specs.State.{with_matrix}
use Rattle.state.specs.Checks.{phase_verdict}
use Rattle.state.specs.Valid.{ValidLaid}
use Rattle.state.specs.Laid.{vertex_count, class_at}
use Rattle.swapping.specs.declared.Swap.{Swap}
use Rattle.swapping.specs.Swap.{can_swap}
use Rattle.swap_log.specs.Log.{most_swaps, swap_count, replay}
use Rattle.swap_log.specs.Theorems as Log
use Rattle.loan.specs.Loan.{Loan, altered, swapped_loan, undone_loan}
use Rattle.loan.specs.Valid.{LaidLoan}
use Rattle.loan.specs.Checks.{laid_verdict}

-- "the grid it began with", as the log tells it
abbrev pub began_with : Loan → List ℕ
began_with b = Log.began (vertex_count b.state) (class_at b.state) b.state.adjacency b.log

-- what a swap or its taking back leaves as it was: every cell, every degree, the number of edges, the grid that the log began with
pub record Preserves (b b' : Loan) : Type 0 where
  pub laid : LaidLoan b'
  pub cells : (k l : ℕ) → jdm (vertex_count b.state) (class_at b.state) (edge b'.state.adjacency) k l
      ≡ jdm (vertex_count b.state) (class_at b.state) (edge b.state.adjacency) k l
  pub degrees : (v : ℕ) → v < vertex_count b.state → degree (vertex_count b.state) (edge b'.state.adjacency) v
      ≡ degree (vertex_count b.state) (edge b.state.adjacency) v
  pub count : edges (vertex_count b.state) (edge b'.state.adjacency) ≡ edges (vertex_count b.state) (edge b.state.adjacency)
  pub beginning : began_with b' ≡ began_with b

-- the rule of a swap on a loan
abbrev pub allows : Loan → Swap → Type 0
allows b x = can_swap (vertex_count b.state) (class_at b.state) b.state.adjacency x ≡ true

pub record LoanWorks : Type 0 where
  -- its verdict goes on only where the state's does
  pub verdict : (b : Loan) → laid_verdict b ≡ Go → phase_verdict phase_laid b.state ≡ Go
  -- a matrix altered in any other way, where the state stays valid: the empty log is valid beside it
  pub altering : (b : Loan) (g : List ℕ) → LaidLoan b → ValidLaid (with_matrix b.state g) → LaidLoan (altered b g)
  pub swapping : (b : Loan) (x : Swap) → LaidLoan b → allows b x → swap_count b.log < most_swaps → Preserves b (swapped_loan b x)
  -- taken back at once, matrix and log are what they were, byte for byte
  pub back : (b : Loan) (x : Swap) → LaidLoan b → allows b x → swap_count b.log < most_swaps → undone_loan (swapped_loan b x) ≡ b
  pub undoing : (b : Loan) → LaidLoan b → 0 < swap_count b.log → Preserves b (undone_loan b)
  -- the records, made again on the grid that the log began with, give the matrix
  pub replayed : (b : Loan) → LaidLoan b → replay b.log (swap_count b.log) (began_with b) ≡ b.state.adjacency
