-- What a call hands back: its answer in document 01's numbers, and its output afterwards.
-- Assumes nothing.
use Rattle.std.specs.Prelude.{List, [], ◌∷◌, ◌++◌, ℕ, length}
use Rattle.answer.specs.Numbers.{Numbers, JoinNumbers, take_numbers, lay_out_numbers, add_numbers, remove_numbers, swap_numbers, undo_numbers, complete_numbers, shuffle_numbers, length_numbers, written_numbers, read_numbers, figures_numbers}
use Rattle.answer.specs.declared.Choice.TheVariants.{Lowest, Picked}
use Rattle.state.specs.State.{State}
use Rattle.loan.specs.Loan.{Loan}
use Rattle.take_block.specs.Take.{take_answer}
use Rattle.held_block.specs.Held.{length_answer, held_part}
use Rattle.lay_out.specs.LayOut.{lay_out_answer}
use Rattle.figures.specs.Figures.{figures_answer}
use Rattle.add_edge.specs.Add.{add_answer}
use Rattle.remove_edge.specs.Remove.{remove_answer}
use Rattle.swap_edges.specs.Swap.{swap_answer}
use Rattle.undo_swap.specs.Undo.{undo_answer}
use Rattle.edge_list.specs.List.{list_answer, list_output}
use Rattle.jdm_of_edges.specs.Survey.{survey_answer, survey_output}
use Rattle.graph6_write.specs.Write.{write_answer, write_output}
use Rattle.graph6_read.specs.Read.{read_answer, read_output}
use Rattle.completion.specs.Complete.{complete_answer, complete_output}
use Rattle.shuffled_completion.specs.Shuffle.{shuffle_answer, shuffle_output}
use Rattle.demands.specs.Calls.{Change, take, lay_out_call, add, remove, complete, swap, undo, Reading, read_back_call, list, figures, survey, write_graph6, read_graph6, Call, changes, reads}

-- answers as lists of numbers
abbrev pub six : Numbers → List ℕ
six n = n.number ∷ n.first ∷ n.second ∷ n.third ∷ n.fourth ∷ n.fifth ∷ []

abbrev pub nine : JoinNumbers → List ℕ
nine n = n.number ∷ n.first ∷ n.second ∷ n.a1 ∷ n.b1 ∷ n.t1 ∷ n.a2 ∷ n.b2 ∷ n.t2 ∷ []

-- the answer in numbers, then the bytes of the output, or of the part that is read back
abbrev pub change_answer : Loan → Change → List ℕ
change_answer s (take number b) = six (take_numbers (take_answer s.state number b))
change_answer s lay_out_call = six (lay_out_numbers (lay_out_answer s.state))
change_answer s (add v w) = nine (add_numbers (add_answer s v w))
change_answer s (remove v w) = six (remove_numbers (remove_answer s v w))
change_answer s (complete Lowest out) = six (complete_numbers (complete_answer s (length out))) ++ complete_output s out
change_answer s (complete (Picked x) out) = six (shuffle_numbers (shuffle_answer s x (length out))) ++ shuffle_output s x out
change_answer s (swap x) = six (swap_numbers (swap_answer s x))
change_answer s undo = six (undo_numbers (undo_answer s))

abbrev pub reading_answer : State → Reading → List ℕ
reading_answer s (read_back_call number) = six (length_numbers (length_answer s number)) ++ held_part s number
reading_answer s (list out) = six (written_numbers (list_answer s (length out))) ++ list_output s out
reading_answer s figures = six (figures_numbers (figures_answer s))
reading_answer s (survey e total out) = six (written_numbers (survey_answer e total (length out))) ++ survey_output (survey_answer e total (length out)) e total out
reading_answer s (write_graph6 e total out) = six (written_numbers (write_answer e total (length out))) ++ write_output (write_answer e total (length out)) e total out
reading_answer s (read_graph6 text out) = six (read_numbers (read_answer text (length out))) ++ read_output (read_answer text (length out)) text out

abbrev pub answer_of : Loan → Call → List ℕ
answer_of s (changes c) = change_answer s c
answer_of s (reads q) = reading_answer s.state q
