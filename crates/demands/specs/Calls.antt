-- Calls as data, and what is lent after a list of them: each call is lent the state as the call before left it, and with it, where the call is lent one, the
-- one log (document 02, P8: "one log, lent throughout since the clear that emptied it").
-- Assumes nothing.
use Rattle.std.specs.Prelude.{List, [], ◌∷◌, ℕ, length}
use Rattle.answer.specs.declared.Choice.{Choice}
use Rattle.swapping.specs.declared.Swap.{Swap}
use Rattle.loan.specs.Loan.{Loan, with_state}
use Rattle.take_block.specs.Take.{take_after}
use Rattle.lay_out.specs.LayOut.{lay_out_after}
use Rattle.add_edge.specs.Add.{add_after}
use Rattle.remove_edge.specs.Remove.{remove_after}
use Rattle.swap_edges.specs.Swap.{swap_after}
use Rattle.undo_swap.specs.Undo.{undo_after}
use Rattle.shuffled_completion.specs.Outcome.{choice_after}

-- The calls that may change the state, with any arguments. Completing is by either choice of pairs. A list of bytes is a block, or an output as it is
-- lent, with room or without.
pub data Change : Type 0 where
  take : ℕ → List ℕ → Change
  lay_out_call : Change
  add : ℕ → ℕ → Change
  remove : ℕ → ℕ → Change
  complete : Choice → List ℕ → Change
  swap : Swap → Change
  undo : Change

-- The calls that read: the state, or, as a survey and both of graph6, only what they are given.
pub data Reading : Type 0 where
  read_back_call : ℕ → Reading
  list : List ℕ → Reading
  figures : Reading
  survey : List ℕ → ℕ → List ℕ → Reading
  write_graph6 : List ℕ → ℕ → List ℕ → Reading
  read_graph6 : List ℕ → List ℕ → Reading

-- the calls that demand 3 lists, swaps and takings-back among them (document 02, P8), and the reading ones between them
pub data Call : Type 0 where
  changes : Change → Call
  reads : Reading → Call

-- what is lent after a call that may change it; taking and laying out are not lent the log
abbrev pub changed : Loan → Change → Loan
changed s (take number b) = with_state s (take_after s.state number b)
changed s lay_out_call = with_state s (lay_out_after s.state)
changed s (add v w) = add_after s v w
changed s (remove v w) = remove_after s v w
changed s (complete f out) = choice_after f s (length out)
changed s (swap x) = swap_after s x
changed s undo = undo_after s

-- after any call: one that reads leaves it
abbrev pub after : Loan → Call → Loan
after s (changes c) = changed s c
after s (reads q) = s

-- after a list of calls
abbrev pub after_all : Loan → List Call → Loan
after_all s [] = s
after_all s (c ∷ cs) = after_all (after s c) cs
