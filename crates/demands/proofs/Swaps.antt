-- Swaps, and taking them back (specs/Swaps.antt): what each keeps, that the log tells how the matrix came to be, and that it is emptied exactly where another
-- call alters the matrix.
-- Assumes nothing.
use mathlib.Core.Path.{◌≡◌, refl, sym, ap, subst, ◌∙◌}
use mathlib.Core.Bool.{true, false, cond, true≢false}
use mathlib.Core.List.{List, [], ◌∷◌}
use Prim.Native.Nat.{ℕ}
use native.Mathlib.Decide.{ℕ_discrete}
use native.Mathlib.Omega.{arith}
use lib.Dec.{eqb}
use lib.ListN.{length}
use borrow.Author.Tests.{ne_eqb}
use Rattle.finite.proofs.All.{and_left, and_right}
use Rattle.finite.proofs.Fold.{fold_to-none}
use Rattle.answer.specs.declared.TakeAnswer.{TakeAnswer}
use Rattle.answer.specs.declared.TakeAnswer.TheVariants as Take
use Rattle.answer.specs.declared.LayOutAnswer.{LayOutAnswer}
use Rattle.answer.specs.declared.LayOutAnswer.TheVariants as LayOut
use Rattle.answer.specs.declared.AddAnswer.{AddAnswer}
use Rattle.answer.specs.declared.AddAnswer.TheVariants as Add
use Rattle.answer.specs.declared.RemoveAnswer.{RemoveAnswer}
use Rattle.answer.specs.declared.RemoveAnswer.TheVariants as Remove
use Rattle.answer.specs.declared.CompleteAnswer.{CompleteAnswer}
use Rattle.answer.specs.declared.CompleteAnswer.TheVariants as Complete
use Rattle.answer.specs.declared.SwapAnswer.{SwapAnswer}
use Rattle.answer.specs.declared.SwapAnswer.TheVariants as Swap
use Rattle.answer.specs.declared.UndoAnswer.{UndoAnswer}
use Rattle.answer.specs.declared.UndoAnswer.TheVariants as Undo
use Rattle.answer.specs.declared.Choice.{Choice}
use Rattle.graph.specs.Graph.{edges}
use Rattle.journal.specs.Journal.{phase_taking, phase_laid, phase}
use Rattle.adjacency.specs.Adjacency.{edge}
use Rattle.state.specs.State.{State, with_matrix, empty_matrix}
use Rattle.state.specs.Laid.{vertex_count, class_at}
use Rattle.state.proofs.Facts.{edge_total, valid-journal}
use Rattle.state.proofs.Front.{two_phases}
use Rattle.swapping.specs.declared.Swap.{Swap}
use Rattle.swapping.specs.Swap.{swap_bytes}
use Rattle.swap_log.specs.Log.{swap_count, swap_at, empty_log, replay}
use Rattle.swap_log.proofs.Valid.{log_works, empty_log-zero, began-zero}
use Rattle.loan.specs.Loan.{Loan, with_state, swapped_loan, undone_loan, cleared_loan}
use Rattle.loan.specs.Valid.{ValidLoan, LaidLoan}
use Rattle.loan.specs.Theorems.{began_with, Preserves, allows}
use Rattle.loan.proofs.Laid.{loan-valid, taking_empty, laid-state, laid-log}
use Rattle.loan.proofs.Swapped.{swap-preserves, swap-back, undo-preserves, loan_works}
use Rattle.take_block.specs.Take.{take_answer, after_take}
use Rattle.take_block.proofs.Take.{taken-facts}
use Rattle.lay_out.specs.LayOut.{lay_out_answer, after_lay_out}
use Rattle.lay_out.proofs.LayOut.{lay_out_facts}
use Rattle.add_edge.specs.Add.{add_answer, after_add}
use Rattle.add_edge.proofs.Add.{added-facts, add-works}
use Rattle.remove_edge.specs.Remove.{remove_answer, after_remove}
use Rattle.remove_edge.proofs.Remove.{removed-facts, remove-works}
use Rattle.swap_edges.specs.Swap.{swap_answer, after_swap, swap_after}
use Rattle.swap_edges.proofs.Swap.{SwapFacts, swapped-facts, facts_swapped}
use Rattle.undo_swap.specs.Undo.{undo_answer, after_undo, undo_after}
use Rattle.undo_swap.proofs.Undo.{undone-facts, facts_undone}
use Rattle.completion.specs.Complete.{Ran, after_ran}
use Rattle.completion.proofs.Entry.{completed-facts}
use Rattle.shuffled_completion.specs.Outcome.{outcome, choice_answer}
use Rattle.shuffled_completion.proofs.Works.{outcome-works}
use Rattle.demands.specs.Calls.{Change, take, lay_out_call, add, remove, complete, swap, undo, Call, changes, reads, changed, after_all}
use Rattle.demands.specs.Tally.{Tally, no_tally, told, tally}
use Rattle.demands.specs.Reach.{Reach}
use Rattle.demands.specs.Swaps.{since_add, since_remove, since_complete, since, since_all, Tells, is_swap, only_swaps, Swaps}
use Rattle.demands.proofs.Choices.{no_joins}
use Rattle.demands.proofs.Reach.{reach, reach_cleared, after_call, reached_loan}

-- A swap that was made, and one that was taken back.
module _ (s : Loan) where
  after-undone : undo_answer s ≡ Undo.Undone → undo_after s ≡ undone_loan s
  after-undone e = ap (λ (a : UndoAnswer). after_undo a s) e

  undo_keeps : undo_answer s ≡ Undo.Undone → LaidLoan s × Preserves s (undo_after s)
  undo_keeps e =
      let f = undone-facts s e in
      (f.loan, subst (Preserves s) (sym (after-undone e)) (undo-preserves s f.loan f.some))

  module _ (x : Swap) (e : swap_answer s x ≡ Swap.Swapped) where
    after-swapped : swap_after s x ≡ swapped_loan s x
    after-swapped = ap (λ (a : SwapAnswer). after_swap a s x) e

    swap_keeps : LaidLoan s × allows s x × Preserves s (swap_after s x)
    swap_keeps =
        let f = swapped-facts s x e in
        (f.loan, f.allowed, subst (Preserves s) (sym after-swapped) (swap-preserves s f.loan x f.allowed f.room))

    swap_undone : (undo_answer (swap_after s x) ≡ Undo.Undone) × (undo_after (swap_after s x) ≡ s)
    swap_undone =
        subst (λ (b : Loan). (undo_answer b ≡ Undo.Undone) × (undo_after b ≡ s)) (sym after-swapped)
        (undone, ap (λ (a : UndoAnswer). after_undo a (swapped_loan s x)) undone ∙ swap-back s f.loan x f.allowed f.room)
      where
        f : SwapFacts s x
        f = swapped-facts s x e

        undone : undo_answer (swapped_loan s x) ≡ Undo.Undone
        undone =
            let w = log_works.swapped (vertex_count s.state) (class_at s.state) s.state.adjacency s.log x (laid-log s f.loan) f.allowed f.room in
            facts_undone (swapped_loan s x)
            (record { loan = (swap-preserves s f.loan x f.allowed f.room).laid; some = omega (arith, w.counted) })

-- beside an empty log the matrix is the one it began with
empty-began : (s : Loan) → s.log ≡ empty_log → began_with s ≡ s.state.adjacency
empty-began s e = began-zero (vertex_count s.state) (class_at s.state) s.state.adjacency s.log (λ p. rw e (empty_log-zero p))

-- the records, made again on the matrix that the log began with, give the matrix, in either phase
replays : (s : Loan) → ValidLoan s → replay s.log (swap_count s.log) (began_with s) ≡ s.state.adjacency
replays s v = go (ℕ_discrete (phase s.state.journal) phase_laid)
  where
    go : Dec (phase s.state.journal ≡ phase_laid) → replay s.log (swap_count s.log) (began_with s) ≡ s.state.adjacency
    go (yes p) = loan_works.replayed s (record { lengths = v.lengths; is_valid = v.is_valid; phased = p })
    go (no p) =
        let taking : phase s.state.journal ≡ phase_taking = omega (arith, two_phases s.state (valid-journal s.state (loan-valid s v.is_valid).0), p) in
        let e = taking_empty s v taking in
        let none : swap_count s.log ≡ 0 = omega (arith, ap swap_count e, empty_log-zero 0, empty_log-zero 1) in
        ap (λ (m : ℕ). replay s.log m (began_with s)) none
        ∙ fold_to-none (λ i h. swap_bytes h (swap_at s.log i)) (began_with s)
        ∙ empty-began s e

tells_from : (s : Loan) (g : List ℕ) → ValidLoan s → began_with s ≡ g → Tells s g
tells_from s g v e = record { replayed = ap (replay s.log (swap_count s.log)) (sym e) ∙ replays s v; taken_back = e }

-- Each call keeps what the log began with, or begins it anew.
module _ (s : Loan) (v : ValidLoan s) (g : List ℕ) (began : began_with s ≡ g) where
  -- while blocks are taken the log is empty, before and after
  same-matrix : (s' : State) → phase s.state.journal ≡ phase_taking → s'.adjacency ≡ s.state.adjacency → began_with (with_state s s') ≡ g
  same-matrix s' p e = empty-began (with_state s s') (taking_empty s v p) ∙ e ∙ sym (empty-began s (taking_empty s v p)) ∙ began

  since-take : (number : ℕ) (b : List ℕ) → began_with (changed s (take number b)) ≡ g
  since-take number b = go (take_answer s.state number b) refl
    where
      go : (a : TakeAnswer) → take_answer s.state number b ≡ a → began_with (with_state s (after_take a s.state b)) ≡ g
      go (Take.Taken m) e = same-matrix (after_take (Take.Taken m) s.state b) (taken-facts s.state number b m e).taking refl
      go Take.Held e = began
      go (Take.Refused q) e = began

  since-lay_out : began_with (changed s lay_out_call) ≡ g
  since-lay_out = go (lay_out_answer s.state) refl
    where
      go : (a : LayOutAnswer) → lay_out_answer s.state ≡ a → began_with (with_state s (after_lay_out a s.state)) ≡ g
      go (LayOut.LaidOut n) e = same-matrix (after_lay_out (LayOut.LaidOut n) s.state) (lay_out_facts s.state n e).taking refl
      go (LayOut.Refused q) e = began

  since-added : (x y : ℕ) (a : AddAnswer) → began_with (after_add a s x y) ≡ since_add a g (after_add a s x y).state.adjacency
  since-added x y (Add.Added m) = empty-began (after_add (Add.Added m) s x y) refl
  since-added x y (Add.Refused q) = began

  since-removed : (x y : ℕ) (a : RemoveAnswer) → began_with (after_remove a s x y) ≡ since_remove a g (after_remove a s x y).state.adjacency
  since-removed x y Remove.Removed = empty-began (after_remove Remove.Removed s x y) refl
  since-removed x y (Remove.Refused q) = began

  since-completed : (f : Choice) (m : ℕ) (a : CompleteAnswer) → choice_answer f s m ≡ a
      → began_with (after_ran a (outcome f s.state) s) ≡ since_complete a g (after_ran a (outcome f s.state) s).state.adjacency
  since-completed f m (Complete.Completed joins switches n) e = go (ℕ_discrete joins 0)
    where
      r : Ran
      r = outcome f s.state

      go : Dec (joins ≡ 0) → began_with (after_ran (Complete.Completed joins switches n) (outcome f s.state) s)
          ≡ cond (eqb joins 0) g (outcome f s.state).adjacency
      go (yes z) =
          let none = no_joins s.state f (sym (completed-facts s r m joins switches n e).joins_are ∙ z) in
          rw (z, none) began
      go (no z) = rw (ne_eqb joins 0 z) (empty-began (record { state = with_matrix s.state (outcome f s.state).adjacency; log = empty_log }) refl)
  since-completed f m (Complete.Refused q) e = began

  since-swapped : (x : Swap) (a : SwapAnswer) → swap_answer s x ≡ a → began_with (after_swap a s x) ≡ g
  since-swapped x Swap.Swapped e = let f = swapped-facts s x e in (swap-preserves s f.loan x f.allowed f.room).beginning ∙ began
  since-swapped x (Swap.Refused q) e = began

  since-undone : (a : UndoAnswer) → undo_answer s ≡ a → began_with (after_undo a s) ≡ g
  since-undone Undo.Undone e = let f = undone-facts s e in (undo-preserves s f.loan f.some).beginning ∙ began
  since-undone (Undo.Refused q) e = began

  since-call : (c : Change) → began_with (changed s c) ≡ since g s c
  since-call (take number b) = since-take number b
  since-call lay_out_call = since-lay_out
  since-call (add x y) = since-added x y (add_answer s x y)
  since-call (remove x y) = since-removed x y (remove_answer s x y)
  since-call (complete f out) = since-completed f (length out) (choice_answer f s (length out)) refl
  since-call (swap x) = since-swapped x (swap_answer s x) refl
  since-call undo = since-undone (undo_answer s) refl

-- over a whole list
since-calls : (calls : List Call) (s : Loan) (t : Tally) → Reach s t → (g : List ℕ) → began_with s ≡ g → began_with (after_all s calls) ≡ since_all g s calls
since-calls [] s t r g e = e
since-calls (changes c ∷ cs) s t r g e =
    since-calls cs (changed s c) (tally t (told s c)) (after_call s t r c) (since g s c) (since-call s (reached_loan s t r) g e c)
since-calls (reads q ∷ cs) s t r g e = since-calls cs s t r g e

tells : (calls : List Call) → Tells (after_all cleared_loan calls) (since_all empty_matrix cleared_loan calls)
tells calls =
    tells_from (after_all cleared_loan calls) (since_all empty_matrix cleared_loan calls) (reached_loan (after_all cleared_loan calls) _ (reach calls))
    (since-calls calls cleared_loan no_tally reach_cleared empty_matrix (empty-began cleared_loan refl))

-- any mix of swaps and takings-back
mix_call : (s : Loan) → LaidLoan s → (c : Change) → is_swap c ≡ true → LaidLoan (changed s c) × (began_with (changed s c) ≡ began_with s)
mix_call s v (take number b) h = absurd (true≢false (sym h))
mix_call s v lay_out_call h = absurd (true≢false (sym h))
mix_call s v (add x y) h = absurd (true≢false (sym h))
mix_call s v (remove x y) h = absurd (true≢false (sym h))
mix_call s v (complete f out) h = absurd (true≢false (sym h))
mix_call s v (swap x) h = go (swap_answer s x) refl
  where
    go : (a : SwapAnswer) → swap_answer s x ≡ a → LaidLoan (after_swap a s x) × (began_with (after_swap a s x) ≡ began_with s)
    go Swap.Swapped e = let f = swapped-facts s x e in let p = swap-preserves s f.loan x f.allowed f.room in (p.laid, p.beginning)
    go (Swap.Refused q) e = (v, refl)
mix_call s v undo h = go (undo_answer s) refl
  where
    go : (a : UndoAnswer) → undo_answer s ≡ a → LaidLoan (after_undo a s) × (began_with (after_undo a s) ≡ began_with s)
    go Undo.Undone e = let f = undone-facts s e in let p = undo-preserves s f.loan f.some in (p.laid, p.beginning)
    go (Undo.Refused q) e = (v, refl)

mix : (calls : List Call) (s : Loan) → LaidLoan s → only_swaps calls ≡ true → LaidLoan (after_all s calls) × (began_with (after_all s calls) ≡ began_with s)
mix [] s v h = (v, refl)
mix (changes c ∷ cs) s v h =
    let p = mix_call s v c (and_left (is_swap c) (only_swaps cs) h) in
    let r = mix cs (changed s c) p.0 (and_right (is_swap c) (only_swaps cs) h) in
    (r.0, r.1 ∙ p.1)
mix (reads q ∷ cs) s v h = mix cs s v h

-- What another call does to matrix and log: it leaves both, or alters the matrix and empties the log.
data Fate (s s' : Loan) : Type 0 where
  left : s'.state.adjacency ≡ s.state.adjacency → s'.log ≡ s.log → Fate s s'
  anew : (s'.state.adjacency ≡ s.state.adjacency → ⊥) → s'.log ≡ empty_log → Fate s s'

-- another number of edges is another matrix
other_count : (s : Loan) (g : List ℕ) → (edge_total (with_matrix s.state g) ≡ edge_total s.state → ⊥) → g ≡ s.state.adjacency → ⊥
other_count s g h e = h (ap (λ (m : List ℕ). edges (vertex_count s.state) (edge m)) e)

module _ (s : Loan) where
  fate : (c : Change) → is_swap c ≡ false → Fate s (changed s c)
  fate (take number b) h = go (take_answer s.state number b)
    where
      go : (a : TakeAnswer) → Fate s (with_state s (after_take a s.state b))
      go (Take.Taken m) = left refl refl
      go Take.Held = left refl refl
      go (Take.Refused q) = left refl refl
  fate lay_out_call h = go (lay_out_answer s.state)
    where
      go : (a : LayOutAnswer) → Fate s (with_state s (after_lay_out a s.state))
      go (LayOut.LaidOut n) = left refl refl
      go (LayOut.Refused q) = left refl refl
  fate (add x y) h = go (add_answer s x y) refl
    where
      go : (a : AddAnswer) → add_answer s x y ≡ a → Fate s (after_add a s x y)
      go (Add.Added m) e =
          let w = add-works s x y (added-facts s x y m e).0 in
          anew (other_count s (after_add (Add.Added m) s x y).state.adjacency (λ same. omega (arith, same, w.one_more))) refl
      go (Add.Refused q) e = left refl refl
  fate (remove x y) h = go (remove_answer s x y) refl
    where
      go : (a : RemoveAnswer) → remove_answer s x y ≡ a → Fate s (after_remove a s x y)
      go Remove.Removed e =
          let w = remove-works s x y (removed-facts s x y e) in
          anew (other_count s (after_remove Remove.Removed s x y).state.adjacency (λ same. omega (arith, same, w.one_less))) refl
      go (Remove.Refused q) e = left refl refl
  fate (complete f out) h = go (choice_answer f s (length out)) refl
    where
      go : (a : CompleteAnswer) → choice_answer f s (length out) ≡ a → Fate s (after_ran a (outcome f s.state) s)
      go (Complete.Completed joins switches n) e = by-joins (ℕ_discrete joins 0)
        where
          by-joins : Dec (joins ≡ 0) → Fate s (after_ran (Complete.Completed joins switches n) (outcome f s.state) s)
          by-joins (yes z) =
              let c = completed-facts s (outcome f s.state) (length out) joins switches n e in
              left (ap (λ (r : Ran). r.adjacency) (no_joins s.state f (sym c.joins_are ∙ z))) (rw z)
          by-joins (no z) =
              let c = completed-facts s (outcome f s.state) (length out) joins switches n e in
              let w = outcome-works f s.state (laid-state s c.loan) in
              anew (other_count s (outcome f s.state).adjacency (λ same. z (omega (arith, same, w.more, c.joins_are)))) (rw (ne_eqb joins 0 z))
      go (Complete.Refused q) e = left refl refl
  fate (swap x) h = absurd (true≢false h)
  fate undo h = absurd (true≢false h)

fate_kept : (s s' : Loan) → Fate s s' → s'.state.adjacency ≡ s.state.adjacency → s'.log ≡ s.log
fate_kept s s' (left m l) e = l
fate_kept s s' (anew m l) e = absurd (m e)

fate_emptied : (s s' : Loan) → Fate s s' → (s'.state.adjacency ≡ s.state.adjacency → ⊥) → s'.log ≡ empty_log
fate_emptied s s' (left m l) e = absurd (e m)
fate_emptied s s' (anew m l) e = l

pub swaps-and_undos : Swaps
swaps-and_undos =
    record {
      swaps = λ s x v can room. facts_swapped s x (record { loan = v; allowed = can; room = room });
      undoes = λ s v some. facts_undone s (record { loan = v; some = some });
      swap_keeps = swap_keeps;
      undo_keeps = undo_keeps;
      swap_undone = swap_undone;
      tells = tells;
      mixed = λ s v calls h.
          let m = mix calls s v h in
          (m.0, tells_from (after_all s calls) (began_with s) (record { lengths = m.0.lengths; is_valid = m.0.is_valid }) m.1);
      kept = λ s c h. fate_kept s (changed s c) (fate s c h);
      emptied = λ s c h. fate_emptied s (changed s c) (fate s c h);
    }
