-- Taking the last swap back (document 02, P8): "Taking back undoes the last"; "25 for taking back from an empty" log.
-- Assumes nothing.
use Rattle.std.specs.Prelude.{List, ℕ, ltb}
use Rattle.answer.specs.Refusals.{refuse, unless, unless_stopped}
use Rattle.answer.specs.declared.Cause.TheVariants.{LogEmpty}
use Rattle.answer.specs.declared.UndoAnswer.{UndoAnswer}
use Rattle.answer.specs.declared.UndoAnswer.TheVariants.{Undone, Refused}
use Rattle.swap_log.specs.Log.{swap_count}
use Rattle.loan.specs.Loan.{Loan, undone_loan}
use Rattle.loan.specs.Checks.{laid_verdict}

-- with a valid log l: the check 25
abbrev pub undo_logged : List ℕ → UndoAnswer
undo_logged l = unless (ltb 0 (swap_count l)) (Refused (refuse LogEmpty 0 0)) Undone

-- the checks 1, 2, 3 before it
abbrev pub undo_answer : Loan → UndoAnswer
undo_answer b = unless_stopped (laid_verdict b) Refused (undo_logged b.log)

-- what was lent, afterwards: the last swap is taken back, and its record is gone
abbrev pub after_undo : UndoAnswer → Loan → Loan
after_undo Undone b = undone_loan b
after_undo (Refused r) b = b

abbrev pub undo_after : Loan → Loan
undo_after b = after_undo (undo_answer b) b
