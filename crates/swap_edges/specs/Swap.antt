-- Swapping two edges (document 02, P8): "Answers: 3 for either in stage 0; 23 for a swap against the rule, after 13; then 24 for a full log".
-- Assumes nothing.
use Rattle.std.specs.Prelude.{List, ℕ, ltb}
use Rattle.answer.specs.Refusals.{refuse, unless, unless_stopped}
use Rattle.answer.specs.declared.Cause.TheVariants.{NoSuchVertex, SwapNotAllowed, LogFull}
use Rattle.answer.specs.declared.SwapAnswer.{SwapAnswer}
use Rattle.answer.specs.declared.SwapAnswer.TheVariants.{Swapped, Refused}
use Rattle.state.specs.State.{State}
use Rattle.state.specs.Laid.{vertex_count, class_at}
use Rattle.swapping.specs.declared.Swap.{Swap}
use Rattle.swapping.specs.Swap.{are_vertices, is_allowed}
use Rattle.swap_log.specs.Log.{most_swaps, swap_count}
use Rattle.loan.specs.Loan.{Loan, swapped_loan}
use Rattle.loan.specs.Checks.{laid_verdict}

-- on a valid laid state with the log l: the check 13 of all four vertices, then 23, then 24
abbrev pub swap_laid : State → List ℕ → Swap → SwapAnswer
swap_laid s l x =
    unless (are_vertices (vertex_count s) x) (Refused (refuse NoSuchVertex 0 0))
    (unless (is_allowed (class_at s) s.adjacency x) (Refused (refuse SwapNotAllowed 0 0))
    (unless (ltb (swap_count l) most_swaps) (Refused (refuse LogFull 0 0))
    Swapped))

-- the checks 1, 2, 3 before them
abbrev pub swap_answer : Loan → Swap → SwapAnswer
swap_answer b x = unless_stopped (laid_verdict b) Refused (swap_laid b.state b.log x)

-- what was lent, afterwards: the edges are swapped, and the log has one record more, the vertices as they are named
abbrev pub after_swap : SwapAnswer → Loan → Swap → Loan
after_swap Swapped b x = swapped_loan b x
after_swap (Refused r) b x = b

abbrev pub swap_after : Loan → Swap → Loan
swap_after b x = after_swap (swap_answer b x) b x
