-- After every list of calls from a cleared loan state and log are valid and agree with the tally, and no call leaves valid ones invalid
-- (specs/Reach.antt).
-- Assumes nothing.
use mathlib.Core.Path.{◌≡◌, refl, sym, ap, ◌∙◌}
use mathlib.Core.Bool.{Bool, true, false, ◌&&◌, not, cond, true≢false}
use mathlib.Core.List.{List, [], ◌∷◌, ◌++◌}
use Prim.Native.Nat.{ℕ, ◌+◌, ◌-◌}
use native.Mathlib.Omega.{arith}
use lib.Dec.{eqb, ltb, leb}
use lib.ListN.{length}
use Rattle.answer.specs.declared.TakeAnswer.{TakeAnswer}
use Rattle.answer.specs.declared.TakeAnswer.TheVariants.{Taken, Held, Refused}
use Rattle.answer.specs.declared.LayOutAnswer.{LayOutAnswer}
use Rattle.answer.specs.declared.LayOutAnswer.TheVariants.{LaidOut, Refused as LayRefused}
use Rattle.answer.specs.declared.AddAnswer.{AddAnswer}
use Rattle.answer.specs.declared.AddAnswer.TheVariants as Add
use Rattle.answer.specs.declared.RemoveAnswer.{RemoveAnswer}
use Rattle.answer.specs.declared.RemoveAnswer.TheVariants as Remove
use Rattle.answer.specs.declared.SwapAnswer.{SwapAnswer}
use Rattle.answer.specs.declared.SwapAnswer.TheVariants as Swap
use Rattle.answer.specs.declared.UndoAnswer.{UndoAnswer}
use Rattle.answer.specs.declared.UndoAnswer.TheVariants as Undo
use Rattle.answer.specs.declared.CompleteAnswer.{CompleteAnswer}
use Rattle.answer.specs.declared.CompleteAnswer.TheVariants as Complete
use Rattle.answer.specs.declared.Choice.{Choice}
use Rattle.graph.specs.Graph.{edges, DegreeTable}
use Rattle.graph.specs.Tests.{passes, vertices}
use Rattle.table.specs.Block.{most_blocks, well_formed, plus}
use Rattle.layout.specs.Layout.{most_vertices}
use Rattle.journal.specs.Journal.{phase_taking, phase_laid, phase, stored, laid}
use Rattle.journal.proofs.Store.{phase-stored, blocks-stored, table_stored}
use Rattle.journal.proofs.Laid.{blocks-laid, table_laid, phase-laid}
use Rattle.adjacency.specs.Adjacency.{edge}
use Rattle.adjacency.proofs.Empty.{no_edges}
use Rattle.state.specs.State.{State, with_journal, with_matrix}
use Rattle.state.specs.Valid.{lengths_ok, valid}
use Rattle.state.specs.Laid.{vertex_count}
use Rattle.state.proofs.Facts.{edge_total, valid-facts, lengths_journal, valid-journal}
use Rattle.swapping.specs.declared.Swap.{Swap}
use Rattle.swap_log.proofs.Valid.{empty_log-zero}
use Rattle.loan.specs.Loan.{Loan, with_state, swapped_loan, undone_loan, cleared_loan}
use Rattle.loan.specs.Valid.{loan_lengths_ok, loan_valid, ValidLoan, LaidLoan}
use Rattle.loan.specs.Theorems.{Preserves}
use Rattle.loan.proofs.Laid.{zero_valid, loan_lengths, lengths_loan, loan-valid, valid-loan, taking_empty, laid-state}
use Rattle.loan.proofs.Swapped.{swap-preserves, undo-preserves}
use Rattle.take_block.specs.Take.{take_answer, after_take}
use Rattle.lay_out.specs.LayOut.{lay_out_answer, after_lay_out}
use Rattle.clear.proofs.Cleared.{cleared-state, cleared-loan}
use Rattle.take_block.proofs.Take.{is_taken, is_next, TakenFacts, taken-facts, take-taken, take-lengths, take-valid}
use Rattle.lay_out.proofs.LayOut.{is_laid_out, lays_out as lays_out_now, LaidOutFacts, lay_out_facts, lay_out_laid_out, lay_out_lengths, lay_out_valid}
use Rattle.add_edge.specs.Add.{add_answer, after_add}
use Rattle.remove_edge.specs.Remove.{remove_answer, after_remove}
use Rattle.add_edge.proofs.Add.{added-facts, add-works}
use Rattle.remove_edge.proofs.Remove.{removed-facts, remove-works}
use Rattle.swap_edges.specs.Swap.{swap_answer, after_swap}
use Rattle.swap_edges.proofs.Swap.{swapped-facts}
use Rattle.undo_swap.specs.Undo.{undo_answer, after_undo}
use Rattle.undo_swap.proofs.Undo.{undone-facts}
use Rattle.completion.specs.Complete.{log_after, after_ran}
use Rattle.completion.proofs.Entry.{completed-facts}
use Rattle.shuffled_completion.specs.Outcome.{outcome, choice_answer}
use Rattle.shuffled_completion.proofs.Works.{outcome-works}
use Rattle.demands.specs.Calls.{Change, take, lay_out_call, add, remove, complete, swap, undo, Call, changes, reads, changed, after, after_all}
use Rattle.demands.specs.Reach.{Reach, Reached, StaysValid}
use Rattle.demands.proofs.Choices.{completed-laid}
use Rattle.demands.specs.Tally.{Tally, no_tally, told, told_add, told_remove, told_complete, adds_block, with_block, lays_out, now_laid, with_edges, tally, tally_all}

-- the phase that the tally says
abbrev phase_of : Bool → ℕ
phase_of l = cond l phase_laid phase_taking

-- a state in phase 0 has no edges, whatever its vertices were
no-edges_yet : (s : State) → lengths_ok s ≡ true → valid s ≡ true → phase s.journal ≡ phase_taking → (n : ℕ) → edges n (edge s.adjacency) ≡ 0
no-edges_yet s l v e n = no_edges s.adjacency ((valid-facts s l v).empty e) n

pub reach_cleared : Reach cleared_loan no_tally
reach_cleared =
    let c = cleared-state in
    record {
      lengths = cleared-loan.lengths;
      is_valid = cleared-loan.is_valid;
      table = c.no_table;
      numbered = c.no_blocks;
      phased = c.taking;
      counted = no-edges_yet cleared_loan.state c.lengths c.is_valid c.taking _;
    }

-- a reached state by itself
module _ (s : Loan) (t : Tally) (r : Reach s t) where
  pub reached_loan : ValidLoan s
  reached_loan = record { lengths = r.lengths; is_valid = r.is_valid }

  pub reached_lengths : lengths_ok s.state ≡ true
  reached_lengths = (loan_lengths s r.lengths).0

  pub reached_valid : valid s.state ≡ true
  reached_valid = (loan-valid s r.is_valid).0

  -- what adding, removing or completing that was not refused needs: a laid state
  pub laid-tally : phase s.state.journal ≡ phase_laid → t.laid ≡ true
  laid-tally e = go t.laid refl
    where
      go : (b : Bool) → t.laid ≡ b → t.laid ≡ true
      go true p = p
      go false p = absurd (omega (arith, r.phased, ap phase_of p, e))

  pub phase-0 : t.laid ≡ false → phase s.state.journal ≡ phase_taking
  phase-0 e = r.phased ∙ ap phase_of e

  pub reached_laid : t.laid ≡ true → LaidLoan s
  reached_laid e = record { lengths = r.lengths; is_valid = r.is_valid; phased = r.phased ∙ ap phase_of e }

-- While blocks are taken the log is empty, and so it is valid beside any state that comes of a block or of a layout.
pub still_valid : (s : Loan) → ValidLoan s → phase s.state.journal ≡ phase_taking → (s' : State) → lengths_ok s' ≡ true → valid s' ≡ true
    → ValidLoan (with_state s s')
still_valid s v e s' l w =
    record {
      lengths = lengths_loan (with_state s s') l (loan_lengths s v.lengths).1;
      is_valid = valid-loan (with_state s s') w (zero_valid s' s.log (λ p. rw (taking_empty s v e) (empty_log-zero p)));
    }

-- the tally's edges moved on a laid state
with-edges : (s : Loan) (g l : List ℕ) (t : Tally) (m : ℕ) → Reach s t → LaidLoan (record { state = with_matrix s.state g; log = l })
    → edge_total (with_matrix s.state g) ≡ m → Reach (record { state = with_matrix s.state g; log = l }) (with_edges t m)
with-edges s g l t m r v count =
    record { lengths = v.lengths; is_valid = v.is_valid; table = r.table; numbered = r.numbered; phased = r.phased; counted = count }

module _ (s : Loan) (t : Tally) (r : Reach s t) where
  -- before laying out neither has an edge, whatever the vertices will be
  still-none : (n : ℕ) → phase s.state.journal ≡ phase_taking → edges n (edge s.state.adjacency) ≡ t.edges
  still-none n e =
      let none = no-edges_yet s.state (reached_lengths s t r) (reached_valid s t r) e in
      none n ∙ sym (none (vertex_count s.state)) ∙ r.counted

  -- the tally's test of a block is the journal's
  pub same_next : (number : ℕ) (b : List ℕ) → is_next s.state.journal number b ≡ adds_block t number b
  same_next number b = rw (r.numbered, r.phased) (go t.laid)
    where
      go : (l : Bool) → (well_formed b && eqb number t.blocks && eqb (phase_of l) phase_taking && ltb t.blocks most_blocks)
          ≡ (well_formed b && eqb number t.blocks && not l && ltb t.blocks most_blocks)
      go true = refl
      go false = refl

  after-take : (number : ℕ) (b : List ℕ) → Reach (changed s (take number b)) (tally t (told s (take number b)))
  after-take number b = go (take_answer s.state number b) refl (adds_block t number b) refl
    where
      tested : is_taken (take_answer s.state number b) ≡ adds_block t number b
      tested = (take-taken s.state number b (reached_lengths s t r) (reached_valid s t r)).0 ∙ same_next number b

      go : (a : TakeAnswer) → take_answer s.state number b ≡ a → (c : Bool) → adds_block t number b ≡ c
          → Reach (with_state s (after_take a s.state b)) (cond c (with_block t b) t)
      go (Taken m) e true h = new (taken-facts s.state number b m e)
        where
          new : TakenFacts s.state number b → Reach (with_state s (with_journal s.state (stored s.state.journal b))) (with_block t b)
          new f =
              let size = lengths_journal s.state f.lengths in
              let ok = valid-journal s.state f.is_valid in
              let v = still_valid s (reached_loan s t r) f.taking (with_journal s.state (stored s.state.journal b))
              (rw e at (take-lengths s.state number b f.lengths)) (rw e at (take-valid s.state number b f.is_valid)) in
              record {
                lengths = v.lengths;
                is_valid = v.is_valid;
                table =
                    table_stored s.state.journal b size ok f.room f.good
                    ∙ ap (λ (u : DegreeTable). plus u b) r.table;
                numbered = blocks-stored s.state.journal b size ok f.room f.good ∙ ap (λ (m : ℕ). m + 1) r.numbered;
                phased = phase-stored s.state.journal b size ok f.room f.good ∙ r.phased;
                counted = still-none _ f.taking;
              }
      go (Taken m) e false h = absurd (true≢false (ap is_taken (sym e) ∙ tested ∙ h))
      go Held e true h = absurd (true≢false (sym (ap is_taken (sym e) ∙ tested ∙ h)))
      go Held e false h = r
      go (Refused q) e true h = absurd (true≢false (sym (ap is_taken (sym e) ∙ tested ∙ h)))
      go (Refused q) e false h = r

  -- the tally's test of a layout is the journal's
  same-lays : lays_out_now s.state.journal ≡ lays_out t
  same-lays =
      ap (λ (u : DegreeTable). eqb (phase s.state.journal) phase_taking && passes u.cells && leb (vertices u) most_vertices) r.table
      ∙ rw r.phased (go t.laid)
    where
      go : (l : Bool) → (eqb (phase_of l) phase_taking && passes t.table.cells && leb (vertices t.table) most_vertices)
          ≡ (not l && passes t.table.cells && leb (vertices t.table) most_vertices)
      go true = refl
      go false = refl

  after-lay_out : Reach (changed s lay_out_call) (tally t (told s lay_out_call))
  after-lay_out = go (lay_out_answer s.state) refl (lays_out t) refl
    where
      tested : is_laid_out (lay_out_answer s.state) ≡ lays_out t
      tested = (lay_out_laid_out s.state (reached_lengths s t r) (reached_valid s t r)).0 ∙ same-lays

      go : (a : LayOutAnswer) → lay_out_answer s.state ≡ a → (c : Bool) → lays_out t ≡ c
          → Reach (with_state s (after_lay_out a s.state)) (cond c (now_laid t) t)
      go (LaidOut n) e true h = new (lay_out_facts s.state n e)
        where
          new : LaidOutFacts s.state → Reach (with_state s (with_journal s.state (laid s.state.journal))) (now_laid t)
          new f =
              let v = still_valid s (reached_loan s t r) f.taking (with_journal s.state (laid s.state.journal))
              (lay_out_lengths s.state (LaidOut n) f.lengths) (rw e at (lay_out_valid s.state f.lengths f.is_valid)) in
              record {
                lengths = v.lengths;
                is_valid = v.is_valid;
                table = table_laid s.state.journal ∙ r.table;
                numbered = blocks-laid s.state.journal ∙ r.numbered;
                phased = phase-laid s.state.journal (lengths_journal s.state f.lengths);
                counted = still-none _ f.taking;
              }
      go (LaidOut n) e false h = absurd (true≢false (ap is_laid_out (sym e) ∙ tested ∙ h))
      go (LayRefused q) e true h = absurd (true≢false (sym (ap is_laid_out (sym e) ∙ tested ∙ h)))
      go (LayRefused q) e false h = r

  after-add : (v w : ℕ) → Reach (changed s (add v w)) (tally t (told s (add v w)))
  after-add v w = go (add_answer s v w) refl
    where
      go : (a : AddAnswer) → add_answer s v w ≡ a
          → Reach (after_add a s v w) (tally t (told_add a))
      go (Add.Added m) e =
          let f = (added-facts s v w m e).0 in
          let x = add-works s v w f in
          let b = after_add (Add.Added m) s v w in
          with-edges s b.state.adjacency b.log t (t.edges + 1) r x.loan
          (x.one_more ∙ ap (λ (m : ℕ). m + 1) r.counted)
      go (Add.Refused q) e = r

  after-remove : (v w : ℕ) → Reach (changed s (remove v w)) (tally t (told s (remove v w)))
  after-remove v w = go (remove_answer s v w) refl
    where
      go : (a : RemoveAnswer) → remove_answer s v w ≡ a
          → Reach (after_remove a s v w) (tally t (told_remove a))
      go Remove.Removed e =
          let f = removed-facts s v w e in
          let x = remove-works s v w f in
          let b = after_remove Remove.Removed s v w in
          with-edges s b.state.adjacency b.log t (t.edges - 1) r x.loan
          (omega (arith, x.one_less, r.counted))
      go (Remove.Refused q) e = r

  after-complete : (f : Choice) (out : List ℕ) → Reach (changed s (complete f out)) (tally t (told s (complete f out)))
  after-complete f out = go (choice_answer f s (length out)) refl
    where
      go : (a : CompleteAnswer) → choice_answer f s (length out) ≡ a
          → Reach (after_ran a (outcome f s.state) s) (tally t (told_complete a))
      go (Complete.Completed joins switches n) e =
          let c = completed-facts s (outcome f s.state) (length out) joins switches n e in
          let x = outcome-works f s.state (laid-state s c.loan) in
          rw c.joins_are
          (with-edges s (outcome f s.state).adjacency (log_after (outcome f s.state).joins s.log) t (t.edges + (outcome f s.state).joins) r
          (completed-laid s f c.loan) (omega (arith, x.more, r.counted)))
      go (Complete.Refused q) e = r

  -- a swap and its taking back move no count
  preserved : (g l : List ℕ) → Preserves s (record { state = with_matrix s.state g; log = l }) → Reach (record { state = with_matrix s.state g; log = l }) t
  preserved g l p =
      record {
        lengths = p.laid.lengths;
        is_valid = p.laid.is_valid;
        table = r.table;
        numbered = r.numbered;
        phased = r.phased;
        counted = p.count ∙ r.counted;
      }

  after-swap : (x : Swap) → Reach (changed s (swap x)) t
  after-swap x = go (swap_answer s x) refl
    where
      go : (a : SwapAnswer) → swap_answer s x ≡ a → Reach (after_swap a s x) t
      go Swap.Swapped e =
          let f = swapped-facts s x e in
          let b = swapped_loan s x in
          preserved b.state.adjacency b.log (swap-preserves s f.loan x f.allowed f.room)
      go (Swap.Refused q) e = r

  after-undo : Reach (changed s undo) t
  after-undo = go (undo_answer s) refl
    where
      go : (a : UndoAnswer) → undo_answer s ≡ a → Reach (after_undo a s) t
      go Undo.Undone e =
          let f = undone-facts s e in
          let b = undone_loan s in
          preserved b.state.adjacency b.log (undo-preserves s f.loan f.some)
      go (Undo.Refused q) e = r

  pub after_call : (c : Change) → Reach (changed s c) (tally t (told s c))
  after_call (take number b) = after-take number b
  after_call lay_out_call = after-lay_out
  after_call (add v w) = after-add v w
  after_call (remove v w) = after-remove v w
  after_call (complete f out) = after-complete f out
  after_call (swap x) = after-swap x
  after_call undo = after-undo

-- over a whole list
pub reach_from : (calls : List Call) (s : Loan) (t : Tally) → Reach s t → Reach (after_all s calls) (tally_all s t calls)
reach_from [] s t r = r
reach_from (changes c ∷ cs) s t r = reach_from cs (changed s c) (tally t (told s c)) (after_call s t r c)
reach_from (reads q ∷ cs) s t r = reach_from cs s t r

pub reach : Reached
reach calls = reach_from calls cleared_loan no_tally reach_cleared

pub after-append : (a b : List Call) (s : Loan) → after_all s (a ++ b) ≡ after_all (after_all s a) b
after-append [] b s = refl
after-append (c ∷ a) b s = after-append a b (after s c)

-- on any valid state and log of the right lengths
module _ (s : Loan) (v : ValidLoan s) where
  abbrev Both : Loan → Type 0
  Both s' = (loan_lengths_ok s' ≡ true) × (loan_valid s' ≡ true)

  same-both : Both s
  same-both = (v.lengths, v.is_valid)

  new-both : (s' : State) → phase s.state.journal ≡ phase_taking → lengths_ok s' ≡ true → valid s' ≡ true → Both (with_state s s')
  new-both s' e l w = let b = still_valid s v e s' l w in (b.lengths, b.is_valid)

  laid_both : {s' : Loan} → LaidLoan s' → Both s'
  laid_both w = (w.lengths, w.is_valid)

  stays-taken : (number : ℕ) (b : List ℕ) → Both (changed s (take number b))
  stays-taken number b = go (take_answer s.state number b) refl
    where
      go : (a : TakeAnswer) → take_answer s.state number b ≡ a → Both (with_state s (after_take a s.state b))
      go (Taken m) e =
          let f = taken-facts s.state number b m e in
          new-both (after_take (Taken m) s.state b) f.taking (rw e at (take-lengths s.state number b f.lengths))
          (rw e at (take-valid s.state number b f.is_valid))
      go Held e = same-both
      go (Refused q) e = same-both

  stays-laid-out : Both (changed s lay_out_call)
  stays-laid-out = go (lay_out_answer s.state) refl
    where
      go : (a : LayOutAnswer) → lay_out_answer s.state ≡ a → Both (with_state s (after_lay_out a s.state))
      go (LaidOut n) e =
          let f = lay_out_facts s.state n e in
          new-both (after_lay_out (LaidOut n) s.state) f.taking (lay_out_lengths s.state (LaidOut n) f.lengths)
          (rw e at (lay_out_valid s.state f.lengths f.is_valid))
      go (LayRefused q) e = same-both

  stays-added : (x y : ℕ) → Both (changed s (add x y))
  stays-added x y = go (add_answer s x y) refl
    where
      go : (a : AddAnswer) → add_answer s x y ≡ a → Both (after_add a s x y)
      go (Add.Added m) e = laid_both (add-works s x y (added-facts s x y m e).0).loan
      go (Add.Refused q) e = same-both

  stays-removed : (x y : ℕ) → Both (changed s (remove x y))
  stays-removed x y = go (remove_answer s x y) refl
    where
      go : (a : RemoveAnswer) → remove_answer s x y ≡ a → Both (after_remove a s x y)
      go Remove.Removed e = laid_both (remove-works s x y (removed-facts s x y e)).loan
      go (Remove.Refused q) e = same-both

  stays-completed : (f : Choice) (out : List ℕ) → Both (changed s (complete f out))
  stays-completed f out = go (choice_answer f s (length out)) refl
    where
      go : (a : CompleteAnswer) → choice_answer f s (length out) ≡ a → Both (after_ran a (outcome f s.state) s)
      go (Complete.Completed joins switches n) e =
          let c = completed-facts s (outcome f s.state) (length out) joins switches n e in
          rw c.joins_are (laid_both (completed-laid s f c.loan))
      go (Complete.Refused q) e = same-both

  stays-swapped : (x : Swap) → Both (changed s (swap x))
  stays-swapped x = go (swap_answer s x) refl
    where
      go : (a : SwapAnswer) → swap_answer s x ≡ a → Both (after_swap a s x)
      go Swap.Swapped e = let f = swapped-facts s x e in laid_both (swap-preserves s f.loan x f.allowed f.room).laid
      go (Swap.Refused q) e = same-both

  stays-undone : Both (changed s undo)
  stays-undone = go (undo_answer s) refl
    where
      go : (a : UndoAnswer) → undo_answer s ≡ a → Both (after_undo a s)
      go Undo.Undone e = let f = undone-facts s e in laid_both (undo-preserves s f.loan f.some).laid
      go (Undo.Refused q) e = same-both

  stays-changed : (c : Change) → Both (changed s c)
  stays-changed (take number b) = stays-taken number b
  stays-changed lay_out_call = stays-laid-out
  stays-changed (add x y) = stays-added x y
  stays-changed (remove x y) = stays-removed x y
  stays-changed (complete f out) = stays-completed f out
  stays-changed (swap x) = stays-swapped x
  stays-changed undo = stays-undone

pub stays_valid : StaysValid
stays_valid s l v (changes c) = stays-changed s (record { lengths = l; is_valid = v }) c
stays_valid s l v (reads q) = (l, v)
