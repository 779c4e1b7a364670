-- Demand 2: "A finished bench, touched by these entries alone since its last clear, holds a simple graph whose table, counted by equation (1)
-- of the 2K construction paper, equals in every cell the sum of the blocks answered as taken or held since then, each block number once"; and
-- (document 02, P1) exactly as many of its vertices have no edge as those blocks add up to.
-- Assumes nothing.
use Rattle.std.specs.Prelude.{◌≡◌, Bool, true, false, ◌&&◌, not, cond, List, [], ◌∷◌, ◌++◌, ℕ, ◌+◌, length}
use Rattle.answer.specs.declared.AddAnswer.{AddAnswer}
use Rattle.answer.specs.declared.AddAnswer.TheVariants as Add
use Rattle.answer.specs.declared.RemoveAnswer.{RemoveAnswer}
use Rattle.answer.specs.declared.RemoveAnswer.TheVariants as Remove
use Rattle.answer.specs.declared.CompleteAnswer.TheVariants.{Completed}
use Rattle.answer.specs.declared.Choice.{Choice}
use Rattle.graph.specs.Graph.{DegreeTable}
use Rattle.answer.specs.Numbers.{one_of}
use Rattle.table.specs.Block.{block_cell, block_isolated}
use Rattle.journal.specs.Journal.{phase_laid, phase}
use Rattle.loan.specs.Loan.{Loan, with_state, cleared_loan}
use Rattle.take_block.specs.Take.{take_answer, take_after}
use Rattle.lay_out.specs.LayOut.{lay_out_after}
use Rattle.add_edge.specs.Add.{add_answer, add_after}
use Rattle.remove_edge.specs.Remove.{remove_answer, remove_after}
use Rattle.swap_edges.specs.Swap.{swap_after}
use Rattle.undo_swap.specs.Undo.{undo_after}
use Rattle.shuffled_completion.specs.Outcome.{choice_answer, choice_after}
use Rattle.demands.specs.Calls.{Change, take, lay_out_call, add, remove, complete, swap, undo, Call, changes, reads, changed, after_all}
use Rattle.demands.specs.Matrix.{ShortFor, HasTable}
use Rattle.demands.specs.Accepted.{accepted, AcceptedIn}

-- What the blocks answered as taken or held by these calls add up to, each block number once: `adds b` is what block b adds, `seen` are the
-- numbers that came already.
abbrev pub answered : (List ℕ → ℕ) → List ℕ → Loan → List Call → ℕ
answered adds seen s [] = 0
answered adds seen s (changes (take number b) ∷ cs) =
    let next = with_state s (take_after s.state number b) in
    let rest = answered adds seen next cs in
    let more = answered adds (number ∷ seen) next cs in
    cond (accepted (take_answer s.state number b) && not (one_of number seen)) (adds b + more) rest
answered adds seen s (changes lay_out_call ∷ cs) = answered adds seen (with_state s (lay_out_after s.state)) cs
answered adds seen s (changes (add v w) ∷ cs) = answered adds seen (add_after s v w) cs
answered adds seen s (changes (remove v w) ∷ cs) = answered adds seen (remove_after s v w) cs
answered adds seen s (changes (complete f out) ∷ cs) = answered adds seen (choice_after f s (length out)) cs
answered adds seen s (changes (swap x) ∷ cs) = answered adds seen (swap_after s x) cs
answered adds seen s (changes undo ∷ cs) = answered adds seen (undo_after s) cs
answered adds seen s (reads q ∷ cs) = answered adds seen s cs

-- the sum since the clear: in each cell, and of the isolated vertices
abbrev pub answered_sum : List Call → DegreeTable
answered_sum calls =
    record { cells = λ k l. answered (λ b. block_cell b k l) [] cleared_loan calls; isolated = answered block_isolated [] cleared_loan calls }

abbrev pub add_refused : AddAnswer → Bool
add_refused (Add.Added switches) = false
add_refused (Add.Refused r) = true

abbrev pub remove_refused : RemoveAnswer → Bool
remove_refused Remove.Removed = false
remove_refused (Remove.Refused r) = true

-- nothing was added or removed: every join and every lift was refused, by a call and by all of them. Swaps and their takings-back keep every cell.
abbrev pub quietly : Loan → Change → Bool
quietly s (take number b) = true
quietly s lay_out_call = true
quietly s (add v w) = add_refused (add_answer s v w)
quietly s (remove v w) = remove_refused (remove_answer s v w)
quietly s (complete f out) = true
quietly s (swap x) = true
quietly s undo = true

abbrev pub quiet : Loan → List Call → Bool
quiet s [] = true
quiet s (changes c ∷ cs) = quietly s c && quiet (changed s c) cs
quiet s (reads q ∷ cs) = quiet s cs

pub record Demand2 : Type 0 where
  -- completed: calls since the clear, a completing that was not refused, and calls after it that added and removed nothing, swaps among them
  pub completed : (before rest : List Call) (f : Choice) (out : List ℕ) (joins switches n : ℕ) →
      let s = after_all cleared_loan before in
      choice_answer f s (length out) ≡ Completed joins switches n →
      quiet (choice_after f s (length out)) rest ≡ true →
      HasTable (answered_sum (before ++ changes (complete f out) ∷ rest)) (after_all (choice_after f s (length out)) rest).state
  -- complete in any way, "touched by these entries alone since its last clear": laid, and no cell is short
  pub none_short : (calls : List Call) →
      let s = (after_all cleared_loan calls).state in
      let t = answered_sum calls in
      phase s.journal ≡ phase_laid → ((k l : ℕ) → ShortFor t s k l → ⊥) → HasTable t s
  -- "each block number once": the blocks answered as taken or held under one number are one block
  pub once : (calls : List Call) (number : ℕ) (b b' : List ℕ) → AcceptedIn calls number b → AcceptedIn calls number b' → b ≡ b'
