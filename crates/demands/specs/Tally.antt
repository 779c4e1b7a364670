-- The tally of document 01, "Demand 3, over a whole list of calls". It is told each call's arguments, and the answers of joins,
-- lifts and finishes, and nothing else. Swaps and takings-back alter nothing in it (document 02, P8).
-- Assumes nothing.
use Rattle.std.specs.Prelude.{Bool, true, false, ◌&&◌, not, cond, List, [], ◌∷◌, ℕ, ◌+◌, ◌-◌, eqb, ltb, leb, length}
use Rattle.answer.specs.declared.AddAnswer.{AddAnswer}
use Rattle.answer.specs.declared.AddAnswer.TheVariants as Add
use Rattle.answer.specs.declared.RemoveAnswer.{RemoveAnswer}
use Rattle.answer.specs.declared.RemoveAnswer.TheVariants as Remove
use Rattle.answer.specs.declared.CompleteAnswer.{CompleteAnswer}
use Rattle.answer.specs.declared.CompleteAnswer.TheVariants as Complete
use Rattle.graph.specs.Graph.{DegreeTable, empty_table}
use Rattle.graph.specs.Tests.{passes, vertices}
use Rattle.table.specs.Block.{most_blocks, well_formed, plus}
use Rattle.layout.specs.Layout.{most_vertices, wanted}
use Rattle.add_edge.specs.Add.{add_answer}
use Rattle.remove_edge.specs.Remove.{remove_answer}
use Rattle.shuffled_completion.specs.Outcome.{choice_answer}
use Rattle.loan.specs.Loan.{Loan}
use Rattle.demands.specs.Calls.{Change, take, lay_out_call, add, remove, complete, swap, undo, Call, changes, reads, changed}

-- what the tally is told of a call; of one that reads, nothing
pub data Told : Type 0 where
  told_take : ℕ → List ℕ → Told
  told_lay_out : Told
  told_add : AddAnswer → Told
  told_remove : RemoveAnswer → Told
  told_complete : CompleteAnswer → Told
  told_else : Told

abbrev pub told : Loan → Change → Told
told s (take number b) = told_take number b
told s lay_out_call = told_lay_out
told s (add v w) = told_add (add_answer s v w)
told s (remove v w) = told_remove (remove_answer s v w)
told s (complete f out) = told_complete (choice_answer f s (length out))
told s (swap x) = told_else
told s undo = told_else

-- a block count, a table (T and, beside it, the isolated vertices), laid or not, and an edge count
pub record Tally : Type 0 where
  pub blocks : ℕ
  pub table : DegreeTable
  pub laid : Bool
  pub edges : ℕ

-- at first 0, all 0, not laid, 0
abbrev pub no_tally : Tally
no_tally = record { blocks = 0; table = empty_table; laid = false; edges = 0 }

-- A block that 4 and 5 let pass, numbered as the block count, while not laid and with that count below the most.
abbrev pub adds_block : Tally → ℕ → List ℕ → Bool
adds_block t number b = well_formed b && eqb number t.blocks && not t.laid && ltb t.blocks most_blocks

-- one block more, its records are added to T and to the isolated vertices
abbrev pub with_block : Tally → List ℕ → Tally
with_block t b =
    record { blocks = t.blocks + 1; table = plus t.table b; laid = t.laid; edges = t.edges }

-- laying out, while not laid, with T passing the tests 9 to 12
abbrev pub lays_out : Tally → Bool
lays_out t = not t.laid && passes t.table.cells && leb (vertices t.table) most_vertices

abbrev pub now_laid : Tally → Tally
now_laid t = record { blocks = t.blocks; table = t.table; laid = true; edges = t.edges }

abbrev pub with_edges : Tally → ℕ → Tally
with_edges t m = record { blocks = t.blocks; table = t.table; laid = t.laid; edges = m }

abbrev pub tally : Tally → Told → Tally
tally t (told_take number b) = cond (adds_block t number b) (with_block t b) t
tally t told_lay_out = cond (lays_out t) (now_laid t) t
tally t (told_add (Add.Added switches)) = with_edges t (t.edges + 1)
tally t (told_add (Add.Refused r)) = t
tally t (told_remove Remove.Removed) = with_edges t (t.edges - 1)
tally t (told_remove (Remove.Refused r)) = t
tally t (told_complete (Complete.Completed joins switches n)) = with_edges t (t.edges + joins)
tally t (told_complete (Complete.Refused r)) = t
tally t told_else = t

-- the missing edges: half the sum of all cells of T, less the edge count
abbrev pub missing_edges : Tally → ℕ
missing_edges t = wanted t.table.cells - t.edges

-- the tally after a list of calls from the loan s
abbrev pub tally_all : Loan → Tally → List Call → Tally
tally_all s t [] = t
tally_all s t (changes c ∷ cs) = tally_all (changed s c) (tally t (told s c)) cs
tally_all s t (reads q ∷ cs) = tally_all s t cs
