-- Demand 2 (specs/Demand2.antt): the blocks answered as taken or held add up to the tally's table, and a state that was completed, or has no
-- short cell, holds a simple graph with it.
-- Assumes nothing.
use mathlib.Core.Path.{◌≡◌, refl, sym, ap, subst, ◌∙◌}
use mathlib.Core.Bool.{Bool, true, false, ◌&&◌, ◌||◌, not, cond, true≢false}
use mathlib.Core.List.{List, [], ◌∷◌, ◌++◌}
use Prim.Native.Nat.{ℕ, ◌+◌, ◌<◌}
use native.Mathlib.Nat.{add-zero, add_assoc}
use native.Mathlib.Decide.{ℕ_discrete, dec_lt}
use native.Mathlib.Omega.{arith}
use lib.Dec.{eqb, ltb}
use lib.ListN.{length}
use borrow.Author.Tests.{eq-eqb, ne_eqb, lt-ltb, le-ltb}
use Rattle.answer.specs.declared.TakeAnswer.{TakeAnswer}
use Rattle.answer.specs.declared.TakeAnswer.TheVariants.{Taken, Held, Refused}
use Rattle.answer.specs.declared.AddAnswer.{AddAnswer}
use Rattle.answer.specs.declared.AddAnswer.TheVariants as Add
use Rattle.answer.specs.declared.RemoveAnswer.{RemoveAnswer}
use Rattle.answer.specs.declared.RemoveAnswer.TheVariants as Remove
use Rattle.answer.specs.declared.SwapAnswer.{SwapAnswer}
use Rattle.answer.specs.declared.SwapAnswer.TheVariants as Swap
use Rattle.answer.specs.declared.UndoAnswer.{UndoAnswer}
use Rattle.answer.specs.declared.UndoAnswer.TheVariants as Undo
use Rattle.answer.specs.declared.CompleteAnswer.{CompleteAnswer}
use Rattle.answer.specs.declared.CompleteAnswer.TheVariants.{Completed, Refused as CompleteRefused}
use Rattle.answer.specs.declared.Choice.{Choice}
use Rattle.finite.proofs.All.{and_left, and_right, and-false}
use Rattle.graph.specs.Graph.{degree, jdm, DegreeTable, empty_table}
use Rattle.graph.specs.Tests.{most_classes, Table, Passed}
use Rattle.graph.proofs.Counts.{same_table}
use Rattle.answer.specs.Numbers.{one_of}
use Rattle.table.specs.Block.{well_formed, block_cell, block_isolated, plus}
use Rattle.graph.proofs.Matrix.{jdm-classes}
use Rattle.graph.proofs.Passes.{passes-passed}
use Rattle.graph.proofs.Realizability.{has_table, has_isolated}
use Rattle.journal.specs.Journal.{phase_laid, phase, blocks, jdm_of, table_of}
use Rattle.journal.proofs.Table.{jdm-table}
use Rattle.adjacency.specs.Adjacency.{edge}
use Rattle.state.specs.State.{State, with_matrix}
use Rattle.state.specs.Valid.{lengths_ok, valid}
use Rattle.state.specs.Laid.{vertex_count, class_at}
use Rattle.state.proofs.Facts.{cell_at, StateFacts, Laid, valid-facts}
use Rattle.swapping.specs.declared.Swap.{Swap}
use Rattle.loan.specs.Loan.{Loan, with_state, swapped_loan, undone_loan, cleared_loan}
use Rattle.loan.specs.Valid.{LaidLoan}
use Rattle.loan.specs.Theorems.{Preserves}
use Rattle.loan.proofs.Laid.{laid-state}
use Rattle.loan.proofs.Swapped.{swap-preserves, undo-preserves}
use Rattle.take_block.specs.Take.{take_answer, take_after}
use Rattle.take_block.proofs.Take.{is_taken, taken-facts, held-facts, take-taken}
use Rattle.lay_out.specs.LayOut.{lay_out_after}
use Rattle.lay_out.proofs.LayOut.{lay_out_laid_out}
use Rattle.add_edge.specs.Add.{add_answer, after_add, add_after}
use Rattle.remove_edge.specs.Remove.{remove_answer, after_remove, remove_after}
use Rattle.swap_edges.specs.Swap.{swap_answer, after_swap, swap_after}
use Rattle.swap_edges.proofs.Swap.{swapped-facts}
use Rattle.undo_swap.specs.Undo.{undo_answer, after_undo, undo_after}
use Rattle.undo_swap.proofs.Undo.{undone-facts}
use Rattle.completion.specs.Complete.{after_ran}
use Rattle.completion.proofs.Entry.{completed-facts}
use Rattle.shuffled_completion.specs.Outcome.{outcome, choice_answer, choice_after}
use Rattle.shuffled_completion.proofs.Works.{outcome-works}
use Rattle.demands.specs.Calls.{Change, take, lay_out_call, add, remove, complete, swap, undo, Call, changes, reads, changed, after_all}
use Rattle.demands.specs.Tally.{Tally, no_tally, told, told_add, told_remove, told_complete, adds_block, with_block, lays_out, now_laid, tally, tally_all}
use Rattle.demands.specs.Matrix.{ShortFor, HasTable}
use Rattle.demands.specs.Accepted.{accepted}
use Rattle.demands.specs.Demand2.{answered, answered_sum, add_refused, remove_refused, quietly, quiet, Demand2}
use Rattle.demands.proofs.Choices.{completed-laid, after-choice}
use Rattle.demands.specs.Reach.{Reach}
use Rattle.demands.proofs.Reach.{reach, reach_cleared, after_call, same_next, after-append, reached_lengths, reached_valid}
use Rattle.demands.proofs.Kept.{accepted-once}

-- the numbers that came already are those below m
abbrev Seen : List ℕ → ℕ → Type 0
Seen seen m = (i : ℕ) → one_of i seen ≡ ltb i m

seen_more : (seen : List ℕ) (m : ℕ) → Seen seen m → Seen (m ∷ seen) (m + 1)
seen_more seen m h i = go (ℕ_discrete i m) (dec_lt i m)
  where
    go : Dec (i ≡ m) → Dec (i < m) → (eqb i m || one_of i seen) ≡ ltb i (m + 1)
    go (yes e) d = rw (eq-eqb i m e, lt-ltb i (m + 1) (omega arith))
    go (no e) (yes l) = rw (ne_eqb i m e, h i, lt-ltb i m l, lt-ltb i (m + 1) (omega arith))
    go (no e) (no l) = rw (ne_eqb i m e, h i, le-ltb i m (omega arith), le-ltb i (m + 1) (omega arith))

-- calls other than takings leave the tally's table and blocks
abbrev Still : Tally → Tally → Type 0
Still t t' = (t'.table ≡ t.table) × (t'.blocks ≡ t.blocks)

lays_still : (t : Tally) (c : Bool) → Still t (cond c (now_laid t) t)
lays_still t true = (refl, refl)
lays_still t false = (refl, refl)

add-still : (t : Tally) (a : AddAnswer) → Still t (tally t (told_add a))
add-still t (Add.Added m) = (refl, refl)
add-still t (Add.Refused r) = (refl, refl)

remove-still : (t : Tally) (a : RemoveAnswer) → Still t (tally t (told_remove a))
remove-still t Remove.Removed = (refl, refl)
remove-still t (Remove.Refused r) = (refl, refl)

complete-still : (t : Tally) (a : CompleteAnswer) → Still t (tally t (told_complete a))
complete-still t (Completed i m n) = (refl, refl)
complete-still t (CompleteRefused r) = (refl, refl)

seen_still : (seen : List ℕ) (t t' : Tally) → t'.blocks ≡ t.blocks → Seen seen t.blocks → Seen seen t'.blocks
seen_still seen t t' e h i = rw e (h i)

-- What a block adds to a table, read at one place of it: in a cell, or the isolated vertices.
module _ (adds : List ℕ → ℕ) (read : DegreeTable → ℕ) (more : (u : DegreeTable) (b : List ℕ) → read (plus u b) ≡ read u + adds b) where
  through : (t t' : Tally) (x y : ℕ) → t'.table ≡ t.table → read t'.table + x ≡ y → read t.table + x ≡ y
  through t t' x y e h = subst (λ (u : DegreeTable). read u + x ≡ y) e h

  -- the blocks answered from here on are what the tally adds
  answered-tally : (calls : List Call) (s : Loan) (t : Tally) (seen : List ℕ) → Reach s t → Seen seen t.blocks
      → read t.table + answered adds seen s calls ≡ read (tally_all s t calls).table
  answered-tally [] s t seen r h = add-zero (read t.table)
  answered-tally (changes (take number b) ∷ cs) s t seen r h =
      go (take_answer s.state number b) refl (adds_block t number b) refl
      (λ t' seen' r' h'. answered-tally cs (changed s (take number b)) t' seen' r' h')
    where
      tested : is_taken (take_answer s.state number b) ≡ adds_block t number b
      tested = (take-taken s.state number b (reached_lengths s t r) (reached_valid s t r)).0 ∙ same_next s t r number b

      reached : (c : Bool) → adds_block t number b ≡ c → Reach (changed s (take number b)) (cond c (with_block t b) t)
      reached c e = subst (λ (c : Bool). Reach (changed s (take number b)) (cond c (with_block t b) t)) e (after_call s t r (take number b))

      go : (a : TakeAnswer) → take_answer s.state number b ≡ a → (c : Bool) → adds_block t number b ≡ c
          → ((t' : Tally) (seen' : List ℕ) → Reach (changed s (take number b)) t' → Seen seen' t'.blocks
          → read t'.table + answered adds seen' (changed s (take number b)) cs ≡ read (tally_all (changed s (take number b)) t' cs).table)
          → read t.table + cond (accepted a && not (one_of number seen)) (adds b + answered adds (number ∷ seen) (changed s (take number b)) cs)
          (answered adds seen (changed s (take number b)) cs)
          ≡ read (tally_all (changed s (take number b)) (cond c (with_block t b) t) cs).table
      go (Taken m) e true p again =
          let f = taken-facts s.state number b m e in
          let n : number ≡ t.blocks = f.next ∙ r.numbered in
          let fresh : one_of number seen ≡ false = h number ∙ le-ltb number t.blocks (omega arith) in
          let rest = answered adds (number ∷ seen) (changed s (take number b)) cs in
          rw fresh
          (sym (add_assoc (read t.table) (adds b) rest)
          ∙ ap (λ (x : ℕ). x + rest) (sym (more t.table b))
          ∙ again (with_block t b) (number ∷ seen) (reached true p) (rw n (seen_more seen t.blocks h)))
      go (Taken m) e false p again = absurd (true≢false (ap is_taken (sym e) ∙ tested ∙ p))
      go Held e true p again = absurd (true≢false (sym (ap is_taken (sym e) ∙ tested ∙ p)))
      go Held e false p again =
          let f = held-facts s.state number b e in
          let known : one_of number seen ≡ true = h number ∙ lt-ltb number t.blocks (omega (arith, f.low, r.numbered)) in
          rw known (again t seen (reached false p) h)
      go (Refused q) e true p again = absurd (true≢false (sym (ap is_taken (sym e) ∙ tested ∙ p)))
      go (Refused q) e false p again = again t seen (reached false p) h
  answered-tally (changes lay_out_call ∷ cs) s t seen r h =
      let p = lays_still t (lays_out t) in
      through t (tally t (told s lay_out_call)) _ _ p.0
      (answered-tally cs (changed s lay_out_call) (tally t (told s lay_out_call)) seen (after_call s t r lay_out_call) (seen_still seen t (tally t (told s lay_out_call)) p.1 h))
  answered-tally (changes (add v w) ∷ cs) s t seen r h =
      let p = add-still t (add_answer s v w) in
      through t (tally t (told s (add v w))) _ _ p.0
      (answered-tally cs (add_after s v w) (tally t (told s (add v w))) seen (after_call s t r (add v w))
      (seen_still seen t (tally t (told s (add v w))) p.1 h))
  answered-tally (changes (remove v w) ∷ cs) s t seen r h =
      let p = remove-still t (remove_answer s v w) in
      through t (tally t (told s (remove v w))) _ _ p.0
      (answered-tally cs (remove_after s v w) (tally t (told s (remove v w))) seen (after_call s t r (remove v w))
      (seen_still seen t (tally t (told s (remove v w))) p.1 h))
  answered-tally (changes (complete f out) ∷ cs) s t seen r h =
      let p = complete-still t (choice_answer f s (length out)) in
      through t (tally t (told s (complete f out))) _ _ p.0
      (answered-tally cs (choice_after f s (length out)) (tally t (told s (complete f out))) seen (after_call s t r (complete f out))
      (seen_still seen t (tally t (told s (complete f out))) p.1 h))
  answered-tally (changes (swap x) ∷ cs) s t seen r h = answered-tally cs (swap_after s x) t seen (after_call s t r (swap x)) h
  answered-tally (changes undo ∷ cs) s t seen r h = answered-tally cs (undo_after s) t seen (after_call s t r undo) h
  answered-tally (reads q ∷ cs) s t seen r h = answered-tally cs s t seen r h

  -- those answered since the clear are what the tally has there
  answered-here : read empty_table ≡ 0 → (calls : List Call) → answered adds [] cleared_loan calls ≡ read (tally_all cleared_loan no_tally calls).table
  answered-here none calls =
      omega (arith, none, answered-tally calls cleared_loan no_tally [] reach_cleared (λ i. sym (le-ltb i 0 (omega arith))))

-- the blocks answered since the clear add up to the journal's table
answered-table : (calls : List Call) → answered_sum calls ≡ table_of (after_all cleared_loan calls).state.journal
answered-table calls =
    same_table (λ k l. answered-here (λ b. block_cell b k l) (λ u. u.cells k l) (λ u b. refl) refl calls)
    (answered-here block_isolated (λ u. u.isolated) (λ u b. refl) refl calls)
    ∙ sym (reach calls).table

-- laid, and no cell short: no cell is above the table on a valid state, so that every cell is the table's
none_short_has : (s : State) (lengths : lengths_ok s ≡ true) (is_valid : valid s ≡ true)
    → phase s.journal ≡ phase_laid → ((k l : ℕ) → ShortFor (table_of s.journal) s k l → ⊥) → HasTable (table_of s.journal) s
none_short_has s lengths is_valid phased full =
    record {
      simple = laid.partial.simple;
      exact = has_table (table_of s.journal) table passed (edge s.adjacency) laid.partial filled;
      exact_isolated = has_isolated (table_of s.journal) table passed (edge s.adjacency) laid.partial filled;
      outside = laid.outside;
    }
  where
    facts : StateFacts s
    facts = valid-facts s lengths is_valid

    laid : Laid s
    laid = facts.laid phased

    table : Table (jdm_of s.journal)
    table = jdm-table s.journal facts.journal-ok

    passed : Passed (jdm_of s.journal)
    passed = (passes-passed (jdm_of s.journal)).0 laid.passed

    filled : (k l : ℕ) → k < most_classes → l < most_classes
        → jdm (vertex_count s) (class_at s) (edge s.adjacency) k l ≡ jdm_of s.journal k l
    filled k l p q = omega (arith, laid.partial.within k l p q, full k l)

-- A laid state in which every cell is full, as completing leaves it.
record Done (s : Loan) : Type 0 where
  laid : LaidLoan s
  filled : (k l : ℕ) → cell_at s.state k l ≡ jdm_of s.state.journal k l

-- no cell is short then
done-has : (s : Loan) → Done s → HasTable (table_of s.state.journal) s.state
done-has s d =
    let l = laid-state s d.laid in
    none_short_has s.state l.lengths l.is_valid l.phased (λ k l h. omega (arith, h, d.filled k l))

done-completed : (s : Loan) (f : Choice) (out : List ℕ) (joins switches n : ℕ)
    → choice_answer f s (length out) ≡ Completed joins switches n
    → Done (choice_after f s (length out))
done-completed s f out joins switches n e =
    let c = completed-facts s (outcome f s.state) (length out) joins switches n e in
    let x = outcome-works f s.state (laid-state s c.loan) in
    let g = (outcome f s.state).adjacency in
    subst Done (sym (after-choice s f out joins switches n e))
    (record {
      laid = completed-laid s f c.loan;
      filled = λ k l.
          sym (jdm-classes (vertex_count s.state) (degree (vertex_count s.state) (edge g)) (class_at s.state) (edge g) x.degrees_exact k l)
          ∙ x.table k l;
    })

-- completed again, or refused
done-complete : (s : Loan) (f : Choice) (out : List ℕ) → Done s → Done (choice_after f s (length out))
done-complete s f out d = go (choice_answer f s (length out)) refl
  where
    go : (a : CompleteAnswer) → choice_answer f s (length out) ≡ a → Done (choice_after f s (length out))
    go (Completed joins switches n) e = done-completed s f out joins switches n e
    go (CompleteRefused q) e = subst Done (sym (ap (λ (a : CompleteAnswer). after_ran a (outcome f s.state) s) e)) d

-- swaps and takings-back keep every cell
done-preserved : (s : Loan) (g l : List ℕ) → Done s → Preserves s (record { state = with_matrix s.state g; log = l })
    → Done (record { state = with_matrix s.state g; log = l })
done-preserved s g l d p = record { laid = p.laid; filled = λ i j. p.cells i j ∙ d.filled i j }

done-swap : (s : Loan) (x : Swap) → Done s → Done (swap_after s x)
done-swap s x d = go (swap_answer s x) refl
  where
    go : (a : SwapAnswer) → swap_answer s x ≡ a → Done (after_swap a s x)
    go Swap.Swapped e =
        let f = swapped-facts s x e in
        let b = swapped_loan s x in
        done-preserved s b.state.adjacency b.log d (swap-preserves s f.loan x f.allowed f.room)
    go (Swap.Refused q) e = d

done-undo : (s : Loan) → Done s → Done (undo_after s)
done-undo s d = go (undo_answer s) refl
  where
    go : (a : UndoAnswer) → undo_answer s ≡ a → Done (after_undo a s)
    go Undo.Undone e =
        let f = undone-facts s e in
        let b = undone_loan s in
        done-preserved s b.state.adjacency b.log d (undo-preserves s f.loan f.some)
    go (Undo.Refused q) e = d

-- no block is taken and nothing is laid out in phase 1
done-take : (s : Loan) → Done s → (number : ℕ) (b : List ℕ) → take_after s.state number b ≡ s.state
done-take s d number b =
    let l = laid-state s d.laid in
    (take-taken s.state number b l.lengths l.is_valid).1
    ∙ rw (l.phased, and-false (well_formed b && eqb number (blocks s.state.journal)))

done-lay_out : (s : Loan) → Done s → lay_out_after s.state ≡ s.state
done-lay_out s d = let l = laid-state s d.laid in (lay_out_laid_out s.state l.lengths l.is_valid).1 ∙ rw l.phased

done-add : (s : Loan) (v w : ℕ) → add_refused (add_answer s v w) ≡ true → add_after s v w ≡ s
done-add s v w e = go (add_answer s v w) e
  where
    go : (a : AddAnswer) → add_refused a ≡ true → after_add a s v w ≡ s
    go (Add.Added m) h = absurd (true≢false (sym h))
    go (Add.Refused r) h = refl

done-remove : (s : Loan) (v w : ℕ) → remove_refused (remove_answer s v w) ≡ true → remove_after s v w ≡ s
done-remove s v w e = go (remove_answer s v w) e
  where
    go : (a : RemoveAnswer) → remove_refused a ≡ true → after_remove a s v w ≡ s
    go Remove.Removed h = absurd (true≢false (sym h))
    go (Remove.Refused r) h = refl

-- a call that adds and removes nothing leaves it so, and so do all of them
done-call : (c : Change) (s : Loan) → Done s → quietly s c ≡ true → Done (changed s c)
done-call (take number b) s d q = subst Done (sym (ap (with_state s) (done-take s d number b))) d
done-call lay_out_call s d q = subst Done (sym (ap (with_state s) (done-lay_out s d))) d
done-call (add v w) s d q = subst Done (sym (done-add s v w q)) d
done-call (remove v w) s d q = subst Done (sym (done-remove s v w q)) d
done-call (complete f out) s d q = done-complete s f out d
done-call (swap x) s d q = done-swap s x d
done-call undo s d q = done-undo s d

done-rest : (rest : List Call) (s : Loan) → Done s → quiet s rest ≡ true → Done (after_all s rest)
done-rest [] s d q = d
done-rest (changes c ∷ cs) s d q =
    done-rest cs (changed s c) (done-call c s d (and_left (quietly s c) (quiet (changed s c) cs) q)) (and_right (quietly s c) (quiet (changed s c) cs) q)
done-rest (reads x ∷ cs) s d q = done-rest cs s d q

-- completed, and nothing moved since
completed-has : (before rest : List Call) (f : Choice) (out : List ℕ) (joins switches n : ℕ)
    → let s = after_all cleared_loan before in
    choice_answer f s (length out) ≡ Completed joins switches n
    → quiet (choice_after f s (length out)) rest ≡ true
    → HasTable (answered_sum (before ++ changes (complete f out) ∷ rest)) (after_all (choice_after f s (length out)) rest).state
completed-has before rest f out joins switches n e q =
    subst (λ (u : DegreeTable). HasTable u (after_all (choice_after f (after_all cleared_loan before) (length out)) rest).state) (sym same)
    (done-has (after_all (choice_after f (after_all cleared_loan before) (length out)) rest) d)
  where
    d : Done (after_all (choice_after f (after_all cleared_loan before) (length out)) rest)
    d =
        done-rest rest (choice_after f (after_all cleared_loan before) (length out))
        (done-completed (after_all cleared_loan before) f out joins switches n e) q

    same : answered_sum (before ++ changes (complete f out) ∷ rest)
        ≡ table_of (after_all (choice_after f (after_all cleared_loan before) (length out)) rest).state.journal
    same =
        answered-table (before ++ changes (complete f out) ∷ rest)
        ∙ ap (λ (s : Loan). table_of s.state.journal) (after-append before (changes (complete f out) ∷ rest) cleared_loan)

pub demand_2 : Demand2
demand_2 =
    record {
      completed = completed-has;
      none_short = λ calls phased full.
          let s = after_all cleared_loan calls in
          let t = tally_all cleared_loan no_tally calls in
          let same = answered-table calls in
          subst (λ (u : DegreeTable). HasTable u s.state) (sym same)
          (none_short_has s.state (reached_lengths s t (reach calls)) (reached_valid s t (reach calls)) phased
          (subst (λ (u : DegreeTable). (k l : ℕ) → ShortFor u s.state k l → ⊥) same full));
      once = accepted-once;
    }
