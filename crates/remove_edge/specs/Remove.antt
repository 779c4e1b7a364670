-- Removing an edge (document 01: lift).
-- Assumes nothing.
use Rattle.std.specs.Prelude.{ℕ, eqb}
use Rattle.answer.specs.Refusals.{refuse, unless, unless_stopped}
use Rattle.answer.specs.declared.Cause.TheVariants.{EdgeAbsent}
use Rattle.answer.specs.declared.RemoveAnswer.{RemoveAnswer}
use Rattle.answer.specs.declared.RemoveAnswer.TheVariants.{Removed, Refused}
use Rattle.adjacency.specs.Adjacency.{edge, set_edge}
use Rattle.state.specs.State.{State}
use Rattle.state.specs.Checks.{pair_verdict}
use Rattle.state.specs.Laid.{vertex_count}
use Rattle.loan.specs.Loan.{Loan, altered}
use Rattle.loan.specs.Checks.{laid_verdict}

-- on a valid laid state: the checks 13, 14, then 17
abbrev pub remove_laid : State → ℕ → ℕ → RemoveAnswer
remove_laid s v w =
    unless_stopped (pair_verdict (vertex_count s) v w) Refused
    (unless (eqb (edge s.adjacency v w) 1) (Refused (refuse EdgeAbsent 0 0))
    Removed)

-- the checks 1, 2, 3 before them
abbrev pub remove_answer : Loan → ℕ → ℕ → RemoveAnswer
remove_answer b v w = unless_stopped (laid_verdict b) Refused (remove_laid b.state v w)

-- what was lent, afterwards: the edge is gone, and the log is empty
abbrev pub after_remove : RemoveAnswer → Loan → ℕ → ℕ → Loan
after_remove Removed b v w = altered b (set_edge b.state.adjacency v w 0)
after_remove (Refused r) b v w = b

abbrev pub remove_after : Loan → ℕ → ℕ → Loan
remove_after b v w = after_remove (remove_answer b v w) b v w
