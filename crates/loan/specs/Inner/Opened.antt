-- A loan is checked once: what the check goes by before it looks at a laid matrix and its log.
-- Assumes nothing.
use Rattle.std.specs.Prelude.{Bool, true, ◌&&◌, cond, eqb, length}
use Rattle.answer.specs.Refusals.{Verdict, Go, Stop, stopped, unless, unless_stopped}
use Rattle.answer.specs.declared.Cause.TheVariants.{WrongLength, InvalidState, WrongPhase}
use Rattle.slices.specs.Slices.{all_zero}
use Rattle.journal.specs.Journal.{phase_taking, phase_laid, phase, table_of}
use Rattle.state.specs.Valid.{laid_ok}
use Rattle.state.specs.Laid.{vertex_count, class_at}
use Rattle.state.specs.Inner.Opened.{front_verdict}
use Rattle.swap_log.specs.Log.{log_size, log_ok}
use Rattle.loan.specs.Loan.{Loan}

-- the check 1, of 2 all but a laid matrix and its log, and 3
abbrev pub loan_front : Loan → Verdict
loan_front b =
    unless (eqb (length b.log) log_size) (stopped WrongLength)
    (unless_stopped (front_verdict b.state) Stop
    (unless (cond (eqb (phase b.state.journal) phase_taking) (all_zero b.log) true) (stopped InvalidState)
    (unless (eqb (phase b.state.journal) phase_laid) (stopped WrongPhase) Go)))

-- what is left of 2
abbrev pub loan_opens : Loan → Bool
loan_opens b =
    laid_ok (table_of b.state.journal) b.state.adjacency && log_ok (vertex_count b.state) (class_at b.state) b.state.adjacency b.log
