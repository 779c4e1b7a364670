-- Demand 1, for every entry and every input: a refusal's number is one that the entry may give, and it leaves every lent list, the log among them, and output
-- as it was; an output's bytes past the written part are as before. That each entry ends is what its proved code says.
-- Assumes nothing.
use Rattle.std.specs.Prelude.{◌≡◌, true, List, [], ◌∷◌, ℕ, ◌*◌, length, drop}
use Rattle.answer.specs.Numbers.{number_of, one_of}
use Rattle.answer.specs.declared.Refusal.{Refusal}
use Rattle.answer.specs.declared.ClearAnswer.TheVariants as Clear
use Rattle.answer.specs.declared.TakeAnswer.TheVariants as Take
use Rattle.answer.specs.declared.LengthAnswer.TheVariants as Len
use Rattle.answer.specs.declared.LayOutAnswer.TheVariants as LayOut
use Rattle.answer.specs.declared.FiguresAnswer.TheVariants as Figs
use Rattle.answer.specs.declared.AddAnswer.TheVariants as Add
use Rattle.answer.specs.declared.RemoveAnswer.TheVariants as Remove
use Rattle.answer.specs.declared.SwapAnswer.TheVariants as Swap
use Rattle.answer.specs.declared.UndoAnswer.TheVariants as Undo
use Rattle.answer.specs.declared.CompleteAnswer.TheVariants as Complete
use Rattle.answer.specs.declared.ShuffleAnswer.TheVariants as Shuffle
use Rattle.answer.specs.declared.WrittenAnswer.TheVariants as Write
use Rattle.answer.specs.declared.ReadAnswer.TheVariants as Read
use Rattle.answer.specs.declared.Choice.TheVariants.{Lowest, Picked}
use Rattle.state.specs.State.{State}
use Rattle.swapping.specs.declared.Swap.{Swap}
use Rattle.loan.specs.Loan.{Loan}
use Rattle.clear.specs.Clear.{clear_answer, clear_after}
use Rattle.take_block.specs.Take.{take_answer, take_after}
use Rattle.held_block.specs.Held.{length_answer, held_part}
use Rattle.lay_out.specs.LayOut.{lay_out_answer, lay_out_after}
use Rattle.figures.specs.Figures.{figures_answer}
use Rattle.add_edge.specs.Add.{add_answer, add_after}
use Rattle.remove_edge.specs.Remove.{remove_answer, remove_after}
use Rattle.swap_edges.specs.Swap.{swap_answer, swap_after}
use Rattle.undo_swap.specs.Undo.{undo_answer, undo_after}
use Rattle.edge_list.specs.List.{list_answer, list_output}
use Rattle.jdm_of_edges.specs.Survey.{survey_answer, survey_output}
use Rattle.graph6_write.specs.Write.{write_answer, write_output}
use Rattle.graph6_read.specs.Read.{read_answer, read_output}
use Rattle.join_records.specs.Record.{join_record_size}
use Rattle.completion.specs.Complete.{complete_answer, complete_after, complete_output}
use Rattle.demands.specs.Calls as Calls
use Rattle.demands.specs.Calls.{Call, changes, reads, take, lay_out_call, add, remove, complete, swap, undo, read_back_call, list, figures, survey, write_graph6, read_graph6}
use Rattle.shuffled_completion.specs.Shuffle.{shuffle_answer, shuffle_after, shuffle_output}

-- The numbers that a refusal of the call may carry, in the order of its checks.
abbrev pub allowed : Call → List ℕ
allowed (changes (take number b)) = 1 ∷ 2 ∷ 4 ∷ 5 ∷ 6 ∷ 7 ∷ 3 ∷ 8 ∷ []
allowed (changes lay_out_call) = 1 ∷ 2 ∷ 3 ∷ 9 ∷ 10 ∷ 11 ∷ 12 ∷ []
allowed (changes (add v w)) = 1 ∷ 2 ∷ 3 ∷ 13 ∷ 14 ∷ 15 ∷ 16 ∷ []
allowed (changes (remove v w)) = 1 ∷ 2 ∷ 3 ∷ 13 ∷ 14 ∷ 17 ∷ []
allowed (changes (complete f out)) = 1 ∷ 2 ∷ 3 ∷ 18 ∷ []
allowed (changes (swap x)) = 1 ∷ 2 ∷ 3 ∷ 13 ∷ 23 ∷ 24 ∷ []
allowed (changes undo) = 1 ∷ 2 ∷ 3 ∷ 25 ∷ []
allowed (reads (read_back_call number)) = 1 ∷ 2 ∷ 6 ∷ []
allowed (reads (list out)) = 1 ∷ 2 ∷ 3 ∷ 18 ∷ []
allowed (reads figures) = 1 ∷ 2 ∷ []
allowed (reads (survey e total out)) = 19 ∷ 20 ∷ 18 ∷ []
allowed (reads (write_graph6 e total out)) = 19 ∷ 18 ∷ []
allowed (reads (read_graph6 text out)) = 22 ∷ 21 ∷ 18 ∷ []

-- the refusal's number is one of these
abbrev pub CarriesOneOf : Refusal → List ℕ → Type 0
CarriesOneOf r numbers = one_of (number_of r.cause) numbers ≡ true

-- nothing past the first n bytes changed
abbrev pub SamePast : ℕ → List ℕ → List ℕ → Type 0
SamePast n before after = (length after ≡ length before) × (drop n after ≡ drop n before)

pub record Demand1 : Type 0 where
  pub clear : (s : Loan) (r : Refusal) → clear_answer s ≡ Clear.Refused r → CarriesOneOf r (1 ∷ []) × (clear_after s ≡ s)
  pub take : (s : State) (number : ℕ) (b : List ℕ) (r : Refusal) → take_answer s number b ≡ Take.Refused r →
      CarriesOneOf r (allowed (changes (take number b))) × (take_after s number b ≡ s)
  pub held : (s : State) (number : ℕ) (r : Refusal) → length_answer s number ≡ Len.Refused r →
      CarriesOneOf r (allowed (reads (read_back_call number))) × (held_part s number ≡ [])
  pub lay_out : (s : State) (r : Refusal) → lay_out_answer s ≡ LayOut.Refused r → CarriesOneOf r (allowed (changes lay_out_call)) × (lay_out_after s ≡ s)
  pub add : (s : Loan) (v w : ℕ) (r : Refusal) → add_answer s v w ≡ Add.Refused r →
      CarriesOneOf r (allowed (changes (add v w))) × (add_after s v w ≡ s)
  pub remove : (s : Loan) (v w : ℕ) (r : Refusal) → remove_answer s v w ≡ Remove.Refused r →
      CarriesOneOf r (allowed (changes (remove v w))) × (remove_after s v w ≡ s)
  pub swap : (s : Loan) (x : Swap) (r : Refusal) → swap_answer s x ≡ Swap.Refused r →
      CarriesOneOf r (allowed (changes (swap x))) × (swap_after s x ≡ s)
  pub undo : (s : Loan) (r : Refusal) → undo_answer s ≡ Undo.Refused r → CarriesOneOf r (allowed (changes undo)) × (undo_after s ≡ s)
  pub complete : (s : Loan) (out : List ℕ) (r : Refusal) → complete_answer s (length out) ≡ Complete.Refused r →
      CarriesOneOf r (allowed (changes (complete Lowest out))) × (complete_after s (length out) ≡ s) × (complete_output s out ≡ out)
  pub complete_written : (s : Loan) (out : List ℕ) (joins switches n : ℕ) → complete_answer s (length out) ≡ Complete.Completed joins switches n →
      (n ≡ join_record_size * joins) × SamePast n out (complete_output s out)
  pub shuffle : (s : Loan) (x : ℕ) (out : List ℕ) (r : Refusal) → shuffle_answer s x (length out) ≡ Shuffle.Refused r →
      CarriesOneOf r (allowed (changes (Calls.complete (Picked x) out))) × (shuffle_after s x (length out) ≡ s) × (shuffle_output s x out ≡ out)
  pub shuffle_written : (s : Loan) (x : ℕ) (out : List ℕ) (joins switches n y : ℕ) →
      shuffle_answer s x (length out) ≡ Shuffle.Completed joins switches n y →
      (n ≡ join_record_size * joins) × SamePast n out (shuffle_output s x out)
  pub list : (s : State) (out : List ℕ) (r : Refusal) → list_answer s (length out) ≡ Write.Refused r →
      CarriesOneOf r (allowed (reads (list out))) × (list_output s out ≡ out)
  pub list_written : (s : State) (out : List ℕ) (n : ℕ) → list_answer s (length out) ≡ Write.Written n → SamePast n out (list_output s out)
  pub survey : (e : List ℕ) (total : ℕ) (out : List ℕ) (r : Refusal) → survey_answer e total (length out) ≡ Write.Refused r →
      CarriesOneOf r (allowed (reads (survey e total out))) × (survey_output (survey_answer e total (length out)) e total out ≡ out)
  pub survey_written : (e : List ℕ) (total : ℕ) (out : List ℕ) (n : ℕ) → survey_answer e total (length out) ≡ Write.Written n →
      SamePast n out (survey_output (survey_answer e total (length out)) e total out)
  pub graph6_write : (e : List ℕ) (total : ℕ) (out : List ℕ) (r : Refusal) → write_answer e total (length out) ≡ Write.Refused r →
      CarriesOneOf r (allowed (reads (write_graph6 e total out))) × (write_output (write_answer e total (length out)) e total out ≡ out)
  pub graph6_written : (e : List ℕ) (total : ℕ) (out : List ℕ) (n : ℕ) → write_answer e total (length out) ≡ Write.Written n →
      SamePast n out (write_output (write_answer e total (length out)) e total out)
  pub graph6_read : (t out : List ℕ) (r : Refusal) → read_answer t (length out) ≡ Read.Refused r →
      CarriesOneOf r (allowed (reads (read_graph6 t out))) × (read_output (read_answer t (length out)) t out ≡ out)
  pub graph6_read_out : (t out : List ℕ) (n total : ℕ) → read_answer t (length out) ≡ Read.Read n total →
      SamePast n out (read_output (read_answer t (length out)) t out)
  pub figures : (s : State) (r : Refusal) → figures_answer s ≡ Figs.Refused r → CarriesOneOf r (allowed (reads figures))
