-- A case is tried past the checks 1 and 2: a reached state is valid, so that they pass, and what is left of the definitions is computed.
-- Assumes nothing.
use mathlib.Core.Path.{◌≡◌, refl, ap, ◌∙◌}
use mathlib.Core.Bool.{Bool, true, false, ◌&&◌, cond}
use mathlib.Core.List.{List, [], ◌∷◌, ◌++◌}
use Prim.Native.Nat.{ℕ}
use lib.Dec.{eqb, ltb}
use lib.ListN.{length}
use borrow.Author.Tests.{eqb-true}
use Rattle.answer.specs.Refusals.{Verdict, Go, refuse, stopped, unless, unless_stopped}
use Rattle.answer.specs.Numbers.{take_numbers, lay_out_numbers, add_numbers, remove_numbers, swap_numbers, undo_numbers, complete_numbers, shuffle_numbers, length_numbers, written_numbers, read_numbers, figures_numbers}
use Rattle.answer.specs.declared.Cause.TheVariants.{WrongPhase, BlockNumber}
use Rattle.answer.specs.declared.LengthAnswer.{LengthAnswer}
use Rattle.answer.specs.declared.LengthAnswer.TheVariants as Len
use Rattle.answer.specs.declared.LayOutAnswer.{LayOutAnswer}
use Rattle.answer.specs.declared.LayOutAnswer.TheVariants as LayOut
use Rattle.answer.specs.declared.FiguresAnswer.TheVariants as Figs
use Rattle.answer.specs.declared.AddAnswer.{AddAnswer}
use Rattle.answer.specs.declared.AddAnswer.TheVariants as Add
use Rattle.answer.specs.declared.RemoveAnswer.{RemoveAnswer}
use Rattle.answer.specs.declared.RemoveAnswer.TheVariants as Remove
use Rattle.answer.specs.declared.SwapAnswer.{SwapAnswer}
use Rattle.answer.specs.declared.SwapAnswer.TheVariants as Swap
use Rattle.answer.specs.declared.UndoAnswer.{UndoAnswer}
use Rattle.answer.specs.declared.UndoAnswer.TheVariants as Undo
use Rattle.answer.specs.declared.CompleteAnswer.{CompleteAnswer}
use Rattle.answer.specs.declared.CompleteAnswer.TheVariants as Complete
use Rattle.answer.specs.declared.WrittenAnswer.{WrittenAnswer}
use Rattle.answer.specs.declared.WrittenAnswer.TheVariants as Write
use Rattle.answer.specs.declared.Choice.TheVariants.{Lowest, Picked}
use Rattle.finite.specs.Range.{δ, sum_to, all_to, low_from, lowest, cat_to, iterate}
use Rattle.graph.specs.Graph.{jdm, edges}
use Rattle.graph.specs.Tests.{vertices}
use Rattle.layout.specs.Layout.{layout_verdict}
use Rattle.journal.specs.Journal.{phase_taking, phase, blocks, slot_length, table_of}
use Rattle.state.specs.State.{State}
use Rattle.state.specs.Checks.{state_verdict}
use Rattle.state.specs.Laid.{vertex_count}
use Rattle.state.proofs.Checks.{state_go}
use Rattle.state.proofs.Facts.{valid-facts}
use Rattle.swapping.specs.declared.Swap.{Swap}
use Rattle.loan.specs.Loan.{Loan, with_state, cleared_loan}
use Rattle.loan.specs.Checks.{loan_verdict}
use Rattle.take_block.specs.Take.{take_on_valid, after_take}
use Rattle.held_block.specs.Held.{part_held}
use Rattle.lay_out.specs.LayOut.{laid_out, after_lay_out}
use Rattle.figures.specs.Figures.{figures_of}
use Rattle.add_edge.specs.Add.{add_laid, after_add}
use Rattle.remove_edge.specs.Remove.{remove_laid, after_remove}
use Rattle.swap_edges.specs.Swap.{swap_laid, after_swap}
use Rattle.undo_swap.specs.Undo.{undo_logged, after_undo}
use Rattle.edge_list.specs.List.{list_laid, output_listed}
use Rattle.edge_list.proofs.List.{zeros-none}
use Rattle.jdm_of_edges.specs.Survey.{survey_answer, survey_output}
use Rattle.graph6_write.specs.Write.{write_answer, write_output}
use Rattle.graph6_read.specs.Read.{read_answer, read_output}
use Rattle.completion.specs.Complete.{Ran, completed, ran_laid, after_ran, output_ran}
use Rattle.shuffled_completion.specs.Shuffle.{shuffled, with_x}
use Rattle.shuffled_completion.specs.Outcome.{outcome}
use Rattle.demands.specs.Calls.{Change, take, lay_out_call, add, remove, complete, swap, undo, Reading, read_back_call, list, figures, survey, write_graph6, read_graph6, Call, changes, reads, changed, after}
use Rattle.demands.specs.Answers.{six, nine, answer_of}
use Rattle.demands.specs.Tally.{Tally, no_tally, told, tally}
use Rattle.trying.specs.Cases.{Step, Case, same_list, edges_of, runs, has_edges, all_hold, LogCase, begins_log, logs_hold, smallest, SmallestHolds}
use Rattle.demands.specs.Reach.{Reach}
use Rattle.demands.proofs.Reach.{reach_cleared, after_call, reached_lengths, reached_valid}

-- The answers past the checks 1 and 2.
abbrev phase_rest : ℕ → State → Verdict
phase_rest p s = unless (eqb (phase s.journal) p) (stopped WrongPhase) Go

abbrev lay_out_rest : State → LayOutAnswer
lay_out_rest s =
    unless_stopped (phase_rest 0 s) LayOut.Refused (laid_out (layout_verdict (table_of s.journal)) (vertices (table_of s.journal)))

abbrev add_rest : State → ℕ → ℕ → AddAnswer
add_rest s v w = unless_stopped (phase_rest 1 s) Add.Refused (add_laid s v w)

abbrev remove_rest : State → ℕ → ℕ → RemoveAnswer
remove_rest s v w = unless_stopped (phase_rest 1 s) Remove.Refused (remove_laid s v w)

abbrev swap_rest : Loan → Swap → SwapAnswer
swap_rest s x = unless_stopped (phase_rest 1 s.state) Swap.Refused (swap_laid s.state s.log x)

abbrev undo_rest : Loan → UndoAnswer
undo_rest s = unless_stopped (phase_rest 1 s.state) Undo.Refused (undo_logged s.log)

abbrev complete_rest : Ran → State → ℕ → CompleteAnswer
complete_rest r s m = unless_stopped (phase_rest 1 s) Complete.Refused (ran_laid r s m)

abbrev length_rest : State → ℕ → LengthAnswer
length_rest s number =
    unless (ltb number (blocks s.journal)) (Len.Refused (refuse BlockNumber 0 0)) (Len.Length (slot_length s.journal number))

abbrev list_rest : State → ℕ → WrittenAnswer
list_rest s m = unless_stopped (phase_rest 1 s) Write.Refused (list_laid s m)

abbrev change_rest : Loan → Change → List ℕ
change_rest s (take number b) = six (take_numbers (take_on_valid s.state.journal number b))
change_rest s lay_out_call = six (lay_out_numbers (lay_out_rest s.state))
change_rest s (add v w) = nine (add_numbers (add_rest s.state v w))
change_rest s (remove v w) = six (remove_numbers (remove_rest s.state v w))
change_rest s (complete Lowest out) =
    let r = completed s.state in
    let a = complete_rest r s.state (length out) in
    six (complete_numbers a) ++ output_ran a r out
change_rest s (complete (Picked x) out) =
    let r = shuffled s.state x in
    let a = complete_rest r.ran s.state (length out) in
    six (shuffle_numbers (with_x r.x a)) ++ output_ran a r.ran out
change_rest s (swap x) = six (swap_numbers (swap_rest s x))
change_rest s undo = six (undo_numbers (undo_rest s))

abbrev reading_rest : State → Reading → List ℕ
reading_rest s (read_back_call number) = let a = length_rest s number in six (length_numbers a) ++ part_held a s.journal number
reading_rest s (list out) = let a = list_rest s (length out) in six (written_numbers a) ++ output_listed a s out
reading_rest s figures = six (figures_numbers (Figs.Reported (figures_of (eqb (phase s.journal) phase_taking) s)))
reading_rest s (survey e total out) = let a = survey_answer e total (length out) in six (written_numbers a) ++ survey_output a e total out
reading_rest s (write_graph6 e total out) = let a = write_answer e total (length out) in six (written_numbers a) ++ write_output a e total out
reading_rest s (read_graph6 text out) = let a = read_answer text (length out) in six (read_numbers a) ++ read_output a text out

abbrev answer_rest : Loan → Call → List ℕ
answer_rest s (changes c) = change_rest s c
answer_rest s (reads q) = reading_rest s.state q

abbrev changed_rest : Loan → Change → Loan
changed_rest s (take number b) = with_state s (after_take (take_on_valid s.state.journal number b) s.state b)
changed_rest s lay_out_call = with_state s (after_lay_out (lay_out_rest s.state) s.state)
changed_rest s (add v w) = after_add (add_rest s.state v w) s v w
changed_rest s (remove v w) = after_remove (remove_rest s.state v w) s v w
changed_rest s (complete f out) = let r = outcome f s.state in after_ran (complete_rest r s.state (length out)) r s
changed_rest s (swap x) = after_swap (swap_rest s x) s x
changed_rest s undo = after_undo (undo_rest s) s

abbrev after_rest : Loan → Call → Loan
after_rest s (changes c) = changed_rest s c
after_rest s (reads q) = s

-- on a reached loan both checks pass
module _ (s : Loan) (t : Tally) (r : Reach s t) where
  checked : state_verdict s.state ≡ Go
  checked = state_go s.state (reached_lengths s t r) (reached_valid s t r)

  lent : loan_verdict s ≡ Go
  lent = rw (r.lengths, r.is_valid)

  answer-rest : (c : Call) → answer_of s c ≡ answer_rest s c
  answer-rest (changes (take number b)) = rw checked
  answer-rest (changes lay_out_call) = rw checked
  answer-rest (changes (add v w)) = rw lent
  answer-rest (changes (remove v w)) = rw lent
  answer-rest (changes (complete Lowest out)) = rw lent
  answer-rest (changes (complete (Picked x) out)) = rw lent
  answer-rest (changes (swap x)) = rw lent
  answer-rest (changes undo) = rw lent
  answer-rest (reads (read_back_call number)) = rw checked
  answer-rest (reads (list out)) = rw checked
  answer-rest (reads figures) = rw checked
  answer-rest (reads (survey e total out)) = refl
  answer-rest (reads (write_graph6 e total out)) = refl
  answer-rest (reads (read_graph6 text out)) = refl

  changed-rest : (c : Change) → changed s c ≡ changed_rest s c
  changed-rest (take number b) = rw checked
  changed-rest lay_out_call = rw checked
  changed-rest (add v w) = rw lent
  changed-rest (remove v w) = rw lent
  changed-rest (complete f out) = rw lent
  changed-rest (swap x) = rw lent
  changed-rest undo = rw lent

-- in phase 0 there are no edges, so that none need be looked for
abbrev edges_rest : Loan → List ℕ
edges_rest s = cond (eqb (phase s.state.journal) phase_taking) [] (edges_of s)

edges-rest : (s : Loan) (t : Tally) → Reach s t → edges_of s ≡ edges_rest s
edges-rest s t r = go (eqb (phase s.state.journal) phase_taking) refl
  where
    go : (b : Bool) → eqb (phase s.state.journal) phase_taking ≡ b → edges_of s ≡ cond b [] (edges_of s)
    go true e =
        zeros-none (vertex_count s.state) s.state.adjacency
        ((valid-facts s.state (reached_lengths s t r) (reached_valid s t r)).empty (eqb-true (phase s.state.journal) phase_taking e))
    go false e = refl

abbrev runs_rest : (Loan → Bool) → Loan → List Step → Bool
runs_rest ends s [] = ends s
runs_rest ends s (x ∷ xs) = same_list (answer_rest s x.call) x.answer && runs_rest ends (after_rest s x.call) xs

-- whatever is tested in the end, where the two tests agree on what is reached
module _ (p q : Loan → Bool) (same : (s : Loan) (t : Tally) → Reach s t → p s ≡ q s) where
  runs-rest : (xs : List Step) (s : Loan) (t : Tally) → Reach s t → runs p s xs ≡ runs_rest q s xs
  runs-rest [] s t r = same s t r
  runs-rest (x ∷ xs) s t r =
      ap (λ (n : List ℕ). same_list n x.answer && runs p (after s x.call) xs) (answer-rest s t r x.call)
      ∙ ap (λ (b : Bool). same_list (answer_rest s x.call) x.answer && b) (next x.call (λ s' t' r'. runs-rest xs s' t' r'))
    where
      next : (c : Call) → ((s' : Loan) (t' : Tally) → Reach s' t' → runs p s' xs ≡ runs_rest q s' xs)
          → runs p (after s c) xs ≡ runs_rest q (after_rest s c) xs
      next (changes c) rest =
          rest (changed s c) (tally t (told s c)) (after_call s t r c) ∙ ap (λ (s' : Loan). runs_rest q s' xs) (changed-rest s t r c)
      next (reads q) rest = rest s t r

abbrev edges_end : List ℕ → Loan → Bool
edges_end es s = same_list (edges_rest s) es

edges-end : (es : List ℕ) (s : Loan) (t : Tally) → Reach s t → has_edges es s ≡ edges_end es s
edges-end es s t r = ap (λ (e : List ℕ). same_list e es) (edges-rest s t r)

abbrev pub all_rest : List Case → Bool
all_rest [] = true
all_rest (c ∷ cs) = runs_rest (edges_end c.edges) cleared_loan c.steps && all_rest cs

pub all-rest : (cs : List Case) → all_hold cs ≡ all_rest cs
all-rest [] = refl
all-rest (c ∷ cs) =
    ap (λ (b : Bool). b && all_hold cs)
    (runs-rest (has_edges c.edges) (edges_end c.edges) (edges-end c.edges) c.steps cleared_loan no_tally reach_cleared)
    ∙ ap (λ (b : Bool). runs_rest (edges_end c.edges) cleared_loan c.steps && b) (all-rest cs)

-- and with the log
abbrev log_end : LogCase → Loan → Bool
log_end c s = edges_end c.case.edges s && begins_log c.log s

abbrev pub logs_rest : List LogCase → Bool
logs_rest [] = true
logs_rest (c ∷ cs) = runs_rest (log_end c) cleared_loan c.case.steps && logs_rest cs

pub logs-rest : (cs : List LogCase) → logs_hold cs ≡ logs_rest cs
logs-rest [] = refl
logs-rest (c ∷ cs) =
    ap (λ (b : Bool). b && logs_hold cs)
    (runs-rest (λ s. has_edges c.case.edges s && begins_log c.log s) (log_end c)
    (λ s t r. ap (λ (b : Bool). b && begins_log c.log s) (edges-end c.case.edges s t r)) c.case.steps cleared_loan no_tally reach_cleared)
    ∙ ap (λ (b : Bool). runs_rest (log_end c) cleared_loan c.case.steps && b) (logs-rest cs)

smallest-computed : all_rest smallest ≡ true
unfolding δ sum_to all_to low_from lowest cat_to iterate jdm edges
smallest-computed = refl

pub smallest-holds : SmallestHolds
smallest-holds = all-rest smallest ∙ smallest-computed
