-- Swaps, and taking them back (document 02, P8): "Swaps keep every cell, and after any mix of swaps and takings-back the grid is what the log says from the grid
-- it began with. Join, lift and finish are given the log too and empty it when they alter the grid".
-- Assumes nothing.
use Rattle.std.specs.Prelude.{◌≡◌, Bool, true, false, ◌&&◌, cond, List, [], ◌∷◌, ℕ, ◌<◌, eqb, length}
use Rattle.answer.specs.declared.AddAnswer.{AddAnswer}
use Rattle.answer.specs.declared.AddAnswer.TheVariants as Add
use Rattle.answer.specs.declared.RemoveAnswer.{RemoveAnswer}
use Rattle.answer.specs.declared.RemoveAnswer.TheVariants as Remove
use Rattle.answer.specs.declared.CompleteAnswer.{CompleteAnswer}
use Rattle.answer.specs.declared.CompleteAnswer.TheVariants as Complete
use Rattle.answer.specs.declared.SwapAnswer.TheVariants.{Swapped}
use Rattle.answer.specs.declared.UndoAnswer.TheVariants.{Undone}
use Rattle.state.specs.State.{empty_matrix}
use Rattle.swapping.specs.declared.Swap.{Swap}
use Rattle.swap_log.specs.Log.{most_swaps, swap_count, empty_log, replay}
use Rattle.loan.specs.Loan.{Loan, cleared_loan}
use Rattle.loan.specs.Valid.{LaidLoan}
use Rattle.loan.specs.Theorems.{began_with, Preserves, allows}
use Rattle.add_edge.specs.Add.{add_answer, add_after}
use Rattle.remove_edge.specs.Remove.{remove_answer, remove_after}
use Rattle.swap_edges.specs.Swap.{swap_answer, swap_after}
use Rattle.undo_swap.specs.Undo.{undo_answer, undo_after}
use Rattle.shuffled_completion.specs.Outcome.{choice_answer, choice_after}
use Rattle.demands.specs.Calls.{Change, take, lay_out_call, add, remove, complete, swap, undo, Call, changes, reads, changed, after_all}

-- "the grid it began with": g until now, g' where the answer says that the call altered the grid
abbrev pub since_add : AddAnswer → List ℕ → List ℕ → List ℕ
since_add (Add.Added switches) g g' = g'
since_add (Add.Refused r) g g' = g

abbrev pub since_remove : RemoveAnswer → List ℕ → List ℕ → List ℕ
since_remove Remove.Removed g g' = g'
since_remove (Remove.Refused r) g g' = g

abbrev pub since_complete : CompleteAnswer → List ℕ → List ℕ → List ℕ
since_complete (Complete.Completed joins switches n) g g' = cond (eqb joins 0) g g'
since_complete (Complete.Refused r) g g' = g

-- after a call: swaps and takings-back keep it
abbrev pub since : List ℕ → Loan → Change → List ℕ
since g s (take number b) = g
since g s lay_out_call = g
since g s (add v w) = since_add (add_answer s v w) g (add_after s v w).state.adjacency
since g s (remove v w) = since_remove (remove_answer s v w) g (remove_after s v w).state.adjacency
since g s (complete f out) = since_complete (choice_answer f s (length out)) g (choice_after f s (length out)).state.adjacency
since g s (swap x) = g
since g s undo = g

-- after a list of calls
abbrev pub since_all : List ℕ → Loan → List Call → List ℕ
since_all g s [] = g
since_all g s (changes c ∷ cs) = since_all (since g s c) (changed s c) cs
since_all g s (reads q ∷ cs) = since_all g s cs

-- The log tells how the matrix came from g: its records, made in order on g, give the matrix, and all taken back, the last first, give g again.
pub record Tells (s : Loan) (g : List ℕ) : Type 0 where
  pub replayed : replay s.log (swap_count s.log) g ≡ s.state.adjacency
  pub taken_back : began_with s ≡ g

-- a swap, or a taking-back
abbrev pub is_swap : Change → Bool
is_swap (take number b) = false
is_swap lay_out_call = false
is_swap (add v w) = false
is_swap (remove v w) = false
is_swap (complete f out) = false
is_swap (swap x) = true
is_swap undo = true

-- "any mix of swaps and takings-back", and calls that read
abbrev pub only_swaps : List Call → Bool
only_swaps [] = true
only_swaps (changes c ∷ cs) = is_swap c && only_swaps cs
only_swaps (reads q ∷ cs) = only_swaps cs

pub record Swaps : Type 0 where
  -- A swap comes exactly where the loan is valid and laid, the rule is met and the log has room; a taking-back where the log has a record.
  pub swaps : (s : Loan) (x : Swap) → LaidLoan s → allows s x → swap_count s.log < most_swaps → swap_answer s x ≡ Swapped
  pub undoes : (s : Loan) → LaidLoan s → 0 < swap_count s.log → undo_answer s ≡ Undone
  -- Each keeps every cell, every degree, the number of edges, validity, and the grid that the log began with.
  pub swap_keeps : (s : Loan) (x : Swap) → swap_answer s x ≡ Swapped → LaidLoan s × allows s x × Preserves s (swap_after s x)
  pub undo_keeps : (s : Loan) → undo_answer s ≡ Undone → LaidLoan s × Preserves s (undo_after s)
  -- Taken back, a swap leaves matrix and log as they were, byte for byte.
  pub swap_undone : (s : Loan) (x : Swap) → swap_answer s x ≡ Swapped → (undo_answer (swap_after s x) ≡ Undone) × (undo_after (swap_after s x) ≡ s)
  -- After every list of calls from a cleared loan the log tells how the matrix came from the grid that it began with ..
  pub tells : (calls : List Call) → Tells (after_all cleared_loan calls) (since_all empty_matrix cleared_loan calls)
  -- .. and after any mix of swaps and takings-back from any valid laid state with any valid log.
  pub mixed : (s : Loan) → LaidLoan s → (calls : List Call) → only_swaps calls ≡ true →
      LaidLoan (after_all s calls) × Tells (after_all s calls) (began_with s)
  -- Of the other calls, on any state and log: one that leaves the matrix leaves the log, and one that alters the matrix empties the log.
  pub kept : (s : Loan) (c : Change) → is_swap c ≡ false →
      (changed s c).state.adjacency ≡ s.state.adjacency → (changed s c).log ≡ s.log
  pub emptied : (s : Loan) (c : Change) → is_swap c ≡ false →
      ((changed s c).state.adjacency ≡ s.state.adjacency → ⊥) → (changed s c).log ≡ empty_log
