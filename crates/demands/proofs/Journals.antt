-- The calls on the matrix leave the journal as it is.
-- Assumes nothing.
use mathlib.Core.Path.{◌≡◌, refl}
use Prim.Native.Nat.{ℕ}
use Rattle.answer.specs.declared.AddAnswer.{AddAnswer}
use Rattle.answer.specs.declared.AddAnswer.TheVariants as Add
use Rattle.answer.specs.declared.RemoveAnswer.{RemoveAnswer}
use Rattle.answer.specs.declared.RemoveAnswer.TheVariants as Remove
use Rattle.answer.specs.declared.SwapAnswer.{SwapAnswer}
use Rattle.answer.specs.declared.SwapAnswer.TheVariants as Swap
use Rattle.answer.specs.declared.UndoAnswer.{UndoAnswer}
use Rattle.answer.specs.declared.UndoAnswer.TheVariants as Undo
use Rattle.answer.specs.declared.CompleteAnswer.{CompleteAnswer}
use Rattle.answer.specs.declared.CompleteAnswer.TheVariants as Complete
use Rattle.answer.specs.declared.Choice.{Choice}
use Rattle.swapping.specs.declared.Swap.{Swap}
use Rattle.loan.specs.Loan.{Loan}
use Rattle.add_edge.specs.Add.{add_answer, after_add, add_after}
use Rattle.remove_edge.specs.Remove.{remove_answer, after_remove, remove_after}
use Rattle.swap_edges.specs.Swap.{swap_answer, after_swap, swap_after}
use Rattle.undo_swap.specs.Undo.{undo_answer, after_undo, undo_after}
use Rattle.completion.specs.Complete.{after_ran}
use Rattle.shuffled_completion.specs.Outcome.{outcome, choice_answer, choice_after}

pub add-journal : (s : Loan) (v w : ℕ) → (add_after s v w).state.journal ≡ s.state.journal
add-journal s v w = go (add_answer s v w)
  where
    go : (a : AddAnswer) → (after_add a s v w).state.journal ≡ s.state.journal
    go (Add.Added switches) = refl
    go (Add.Refused r) = refl

pub remove-journal : (s : Loan) (v w : ℕ) → (remove_after s v w).state.journal ≡ s.state.journal
remove-journal s v w = go (remove_answer s v w)
  where
    go : (a : RemoveAnswer) → (after_remove a s v w).state.journal ≡ s.state.journal
    go Remove.Removed = refl
    go (Remove.Refused r) = refl

pub complete-journal : (f : Choice) (s : Loan) (m : ℕ) → (choice_after f s m).state.journal ≡ s.state.journal
complete-journal f s m = go (choice_answer f s m)
  where
    go : (a : CompleteAnswer) → (after_ran a (outcome f s.state) s).state.journal ≡ s.state.journal
    go (Complete.Completed joins switches n) = refl
    go (Complete.Refused r) = refl

pub swap-journal : (s : Loan) (x : Swap) → (swap_after s x).state.journal ≡ s.state.journal
swap-journal s x = go (swap_answer s x)
  where
    go : (a : SwapAnswer) → (after_swap a s x).state.journal ≡ s.state.journal
    go Swap.Swapped = refl
    go (Swap.Refused r) = refl

pub undo-journal : (s : Loan) → (undo_after s).state.journal ≡ s.state.journal
undo-journal s = go (undo_answer s)
  where
    go : (a : UndoAnswer) → (after_undo a s).state.journal ≡ s.state.journal
    go Undo.Undone = refl
    go (Undo.Refused r) = refl
