-- The checks with which the calls begin that are lent a loan, as verdicts.
-- Assumes nothing.
use Rattle.std.specs.Prelude.{eqb}
use Rattle.answer.specs.Refusals.{Verdict, Go, Stop, stopped, unless, unless_stopped}
use Rattle.answer.specs.declared.Cause.TheVariants.{WrongLength, InvalidState, WrongPhase}
use Rattle.journal.specs.Journal.{phase_laid, phase}
use Rattle.loan.specs.Loan.{Loan}
use Rattle.loan.specs.Valid.{loan_lengths_ok, loan_valid}

-- the checks 1, of all lengths, and 2
abbrev pub loan_verdict : Loan → Verdict
loan_verdict b = unless (loan_lengths_ok b) (stopped WrongLength) (unless (loan_valid b) (stopped InvalidState) Go)

-- and 3: these calls need a laid state
abbrev pub laid_verdict : Loan → Verdict
laid_verdict b = unless_stopped (loan_verdict b) Stop (unless (eqb (phase b.state.journal) phase_laid) (stopped WrongPhase) Go)
