-- Demand 1 (specs/Demand1.antt): refusals carry the numbers of their entry and change nothing; outputs change only where they are written.
-- Assumes nothing.
use mathlib.Core.Path.{◌≡◌, refl, sym, ap, subst}
use mathlib.Core.Bool.{true, not}
use mathlib.Core.List.{List, [], ◌∷◌}
use Prim.Native.Nat.{ℕ, ◌*◌, ◌≤◌, min, max}
use native.Mathlib.Omega.{arith}
use lib.Dec.{leb, ltb, eqb}
use lib.ListN.{length}
use lib.Seq.{sets, length-sets}
use Rattle.slices.proofs.Part.{drop-sets}
use borrow.Author.Tests.{leb-true}
use Rattle.answer.specs.Numbers.{one_of}
use Rattle.answer.specs.declared.Refusal.{Refusal}
use Rattle.answer.specs.declared.ClearAnswer.{ClearAnswer}
use Rattle.answer.specs.declared.TakeAnswer.{TakeAnswer}
use Rattle.answer.specs.declared.TakeAnswer.TheVariants as Take
use Rattle.answer.specs.declared.LengthAnswer.{LengthAnswer}
use Rattle.answer.specs.declared.LengthAnswer.TheVariants as Len
use Rattle.answer.specs.declared.LayOutAnswer.{LayOutAnswer}
use Rattle.answer.specs.declared.LayOutAnswer.TheVariants as LayOut
use Rattle.answer.specs.declared.FiguresAnswer.TheVariants as Figs
use Rattle.answer.specs.declared.AddAnswer.{AddAnswer}
use Rattle.answer.specs.declared.AddAnswer.TheVariants as Add
use Rattle.answer.specs.declared.RemoveAnswer.{RemoveAnswer}
use Rattle.answer.specs.declared.RemoveAnswer.TheVariants as Remove
use Rattle.answer.specs.declared.SwapAnswer.{SwapAnswer}
use Rattle.answer.specs.declared.SwapAnswer.TheVariants as Swap
use Rattle.answer.specs.declared.UndoAnswer.{UndoAnswer}
use Rattle.answer.specs.declared.UndoAnswer.TheVariants as Undo
use Rattle.answer.specs.declared.CompleteAnswer.{CompleteAnswer}
use Rattle.answer.specs.declared.CompleteAnswer.TheVariants as Complete
use Rattle.answer.specs.declared.WrittenAnswer.{WrittenAnswer}
use Rattle.answer.specs.declared.ReadAnswer.{ReadAnswer}
use Rattle.answer.specs.declared.WrittenAnswer.TheVariants as Write
use Rattle.answer.specs.declared.Choice.{Choice}
use Rattle.answer.specs.declared.Choice.TheVariants.{Lowest, Picked}
use Rattle.graph.specs.Tests.{vertices}
use Rattle.table.specs.Block.{block_length}
use Rattle.layout.specs.Layout.{layout_verdict}
use Rattle.journal.specs.Journal.{phase_taking, phase_laid, blocks, slot_length, table_of}
use Rattle.adjacency.specs.Adjacency.{edge}
use Rattle.state.specs.State.{State}
use Rattle.state.specs.Checks.{state_verdict, phase_verdict, pair_verdict}
use Rattle.swapping.specs.Swap.{are_vertices, is_allowed}
use Rattle.swap_log.specs.Log.{most_swaps, swap_count}
use Rattle.loan.specs.Loan.{Loan}
use Rattle.loan.specs.Valid.{loan_lengths_ok}
use Rattle.loan.specs.Checks.{laid_verdict}
use Rattle.loan.proofs.Laid.{laid-state}
use Rattle.state.specs.Laid.{vertex_count, class_at, short_at}
use Rattle.join_bytes.specs.Join.{join_switches}
use Rattle.clear.specs.Clear.{after_clear}
use Rattle.take_block.specs.Take.{take_on_valid, after_take}
use Rattle.held_block.specs.Held.{part_held}
use Rattle.lay_out.specs.LayOut.{after_lay_out}
use Rattle.add_edge.specs.Add.{add_pair, add_laid, after_add}
use Rattle.remove_edge.specs.Remove.{after_remove}
use Rattle.swap_edges.specs.Swap.{after_swap}
use Rattle.undo_swap.specs.Undo.{after_undo}
use Rattle.edge_list.specs.List.{list_bytes, list_laid, list_answer, output_listed}
use Rattle.edge_lists.specs.EdgeList.{list_verdict}
use Rattle.degree_counts.specs.Above.{first_above}
use Rattle.jdm_of_edges.specs.Survey.{survey_records, survey_listed, survey_answer, survey_output}
use Rattle.graph6.specs.Format.{size_of, too_large, well_formed_text}
use Rattle.graph6_write.specs.Write.{write_text, write_listed, write_answer, write_output}
use Rattle.graph6_read.specs.Read.{read_list, read_answer, read_output}
use Rattle.join_records.specs.Record.{join_record_size}
use Rattle.completion.specs.Complete.{Ran, completed, missing, ran_laid, ran_answer, ran_after, ran_output}
use Rattle.completion.proofs.Written.{refused-leaves, records-written}
use Rattle.completion.proofs.Entry.{completed-facts}
use Rattle.shuffled_completion.specs.Shuffle.{shuffled}
use Rattle.shuffled_completion.proofs.Answers.{with_x-refused, with_x-completed}
use Rattle.shuffled_completion.specs.Outcome.{outcome, choice_answer, choice_output}
use Rattle.shuffled_completion.proofs.Works.{outcome-works}
use Rattle.demands.specs.Demand1.{CarriesOneOf, SamePast, Demand1}
use Rattle.demands.proofs.Chains.{OfClear, OfTake, OfLength, OfLayOut, OfFigures, OfAdd, OfRemove, OfSwap, OfUndo, OfComplete, OfWritten, OfRead, behind, state_numbers, phase-numbers, laid-numbers, layout_numbers, clear_chain, take_later, later_numbers, take-chain, length-chain, pair-numbers, add-chain, remove-chain, swap-chain, undo-chain, complete-chain, fits-chain, list-numbers, survey-chain, read_chain}

-- what was written stands at the start, and nothing behind it changes
past : (out bytes : List ℕ) (n : ℕ) → n ≡ length bytes → length bytes ≤ length out → SamePast n out (sets out 0 bytes)
past out bytes n e h = (
  length-sets out 0 bytes,
  rw e (drop-sets out bytes h),
)

edges-numbers : (s : State) (m : ℕ) → OfWritten (1 ∷ 2 ∷ 3 ∷ 18 ∷ []) (length (list_bytes (vertex_count s) s.adjacency)) m (list_answer s m)
edges-numbers s m =
    let n = length (list_bytes (vertex_count s) s.adjacency) in
    behind (λ ns. OfWritten ns n m) (1 ∷ 2 ∷ 3 ∷ 18 ∷ []) (phase_verdict phase_laid s) Write.Refused (list_laid s m) (λ r h. h)
    (phase-numbers phase_laid s (18 ∷ [])) (fits-chain (1 ∷ 2 ∷ 3 ∷ 18 ∷ []) refl (leb n m) n m (leb-true n m))

-- behind the checks 19, and with them
pub survey-rest : (ns : List ℕ) → one_of 20 ns ≡ true → one_of 18 ns ≡ true → (e : List ℕ) (total m : ℕ)
    → OfWritten ns (length (survey_records e total)) m (survey_listed e total m)
survey-rest ns a b e total m =
    let n = length (survey_records e total) in
    survey-chain ns a b (eqb (first_above e total) total) (leb n m) (first_above e total) n m (leb-true n m)

survey-numbers : (e : List ℕ) (total m : ℕ) → OfWritten (19 ∷ 20 ∷ 18 ∷ []) (length (survey_records e total)) m (survey_answer e total m)
survey-numbers e total m =
    behind (λ ns. OfWritten ns (length (survey_records e total)) m) (19 ∷ 20 ∷ 18 ∷ []) (list_verdict e total) Write.Refused (survey_listed e total m)
    (λ r h. h) (list-numbers e total (20 ∷ 18 ∷ [])) (survey-rest (19 ∷ 20 ∷ 18 ∷ []) refl refl e total m)

pub write_rest : (ns : List ℕ) → one_of 18 ns ≡ true → (e : List ℕ) (total m : ℕ)
    → OfWritten ns (length (write_text e total)) m (write_listed e total m)
write_rest ns a e total m =
    let n = length (write_text e total) in
    fits-chain ns a (leb n m) n m (leb-true n m)

write_numbers : (e : List ℕ) (total m : ℕ) → OfWritten (19 ∷ 18 ∷ []) (length (write_text e total)) m (write_answer e total m)
write_numbers e total m =
    behind (λ ns. OfWritten ns (length (write_text e total)) m) (19 ∷ 18 ∷ []) (list_verdict e total) Write.Refused (write_listed e total m)
    (λ r h. h) (list-numbers e total (18 ∷ [])) (write_rest (19 ∷ 18 ∷ []) refl e total m)

read-numbers : (t : List ℕ) (m : ℕ) → OfRead (22 ∷ 21 ∷ 18 ∷ []) (length (read_list t)) m (read_answer t m)
read-numbers t m =
    let n = length (read_list t) in
    read_chain (not (too_large t)) (well_formed_text t) (leb n m) n (size_of t) m (leb-true n m)

-- completing, whichever pairs it joins
complete-refused : (s : Loan) (r : Ran) (out : List ℕ) (q : Refusal) → ran_answer r s (length out) ≡ Complete.Refused q
    → CarriesOneOf q (1 ∷ 2 ∷ 3 ∷ 18 ∷ []) × (ran_after r s (length out) ≡ s) × (ran_output r s out ≡ out)
complete-refused s r out q e = (
  subst (OfComplete (1 ∷ 2 ∷ 3 ∷ 18 ∷ [])) e
      (behind OfComplete (1 ∷ 2 ∷ 3 ∷ 18 ∷ []) (laid_verdict s) Complete.Refused (ran_laid r s.state (length out)) (λ r h. h)
      (laid-numbers s (18 ∷ []))
      (complete-chain (leb (join_record_size * missing s.state) (length out)) r.joins r.switches (length r.records))),
  (refused-leaves s r out q e).0,
  (refused-leaves s r out q e).1,
)

complete_written : (f : Choice) (s : Loan) (out : List ℕ) (joins switches n : ℕ)
    → choice_answer f s (length out) ≡ Complete.Completed joins switches n
    → (n ≡ join_record_size * joins) × SamePast n out (choice_output f s out)
complete_written f s out joins switches n e =
    let r = outcome f s.state in
    let c = completed-facts s r (length out) joins switches n e in
    let x = outcome-works f s.state (laid-state s c.loan) in (
      omega (arith, c.length-is, c.joins_are, x.written),
      subst (SamePast n out) (sym (records-written s r out joins switches n e))
          (past out r.records n c.length-is (omega (arith, c.room, x.made, x.written))),
    )

-- adding, behind the checks 1 to 3
add-numbers : (s : State) (v w : ℕ) → OfAdd (1 ∷ 2 ∷ 3 ∷ 13 ∷ 14 ∷ 15 ∷ 16 ∷ []) (add_laid s v w)
add-numbers s v w =
    behind OfAdd (1 ∷ 2 ∷ 3 ∷ 13 ∷ 14 ∷ 15 ∷ 16 ∷ []) (pair_verdict (vertex_count s) v w) Add.Refused (add_pair s v w) (λ r h. h)
    (pair-numbers (vertex_count s) v w (15 ∷ 16 ∷ []))
    (add-chain (eqb (edge s.adjacency v w) 0) (short_at s (class_at s v) (class_at s w))
    (min (class_at s v) (class_at s w)) (max (class_at s v) (class_at s w)) (join_switches (vertex_count s) (class_at s) s.adjacency v w))

pub demand_1 : Demand1
demand_1 =
    record {
      clear = λ s r e. (
        subst (OfClear (1 ∷ [])) e (clear_chain (loan_lengths_ok s)),
        ap (λ (a : ClearAnswer). after_clear a s) e,
      );
      take = λ s number b r e. (
        subst (OfTake (1 ∷ 2 ∷ 4 ∷ 5 ∷ 6 ∷ 7 ∷ 3 ∷ 8 ∷ [])) e
            (behind OfTake (1 ∷ 2 ∷ 4 ∷ 5 ∷ 6 ∷ 7 ∷ 3 ∷ 8 ∷ []) (state_verdict s) Take.Refused (take_on_valid s.journal number b) (λ r h. h)
            (state_numbers s (4 ∷ 5 ∷ 6 ∷ 7 ∷ 3 ∷ 8 ∷ []))
            (take-chain (block_length (length b)) (take_later s.journal number b) (later_numbers s.journal number b))),
        ap (λ (a : TakeAnswer). after_take a s b) e,
      );
      held = λ s number r e. (
        subst (OfLength (1 ∷ 2 ∷ 6 ∷ [])) e
            (behind OfLength (1 ∷ 2 ∷ 6 ∷ []) (state_verdict s) Len.Refused _ (λ r h. h) (state_numbers s (6 ∷ []))
            (length-chain (ltb number (blocks s.journal)) (slot_length s.journal number))),
        ap (λ (a : LengthAnswer). part_held a s.journal number) e,
      );
      lay_out = λ s r e. (
        subst (OfLayOut (1 ∷ 2 ∷ 3 ∷ 9 ∷ 10 ∷ 11 ∷ 12 ∷ [])) e
            (behind OfLayOut (1 ∷ 2 ∷ 3 ∷ 9 ∷ 10 ∷ 11 ∷ 12 ∷ []) (phase_verdict phase_taking s) LayOut.Refused _ (λ r h. h)
            (phase-numbers phase_taking s (9 ∷ 10 ∷ 11 ∷ 12 ∷ []))
            (behind OfLayOut (1 ∷ 2 ∷ 3 ∷ 9 ∷ 10 ∷ 11 ∷ 12 ∷ []) (layout_verdict (table_of s.journal)) LayOut.Refused (LayOut.LaidOut (vertices (table_of s.journal))) (λ r h. h)
            (layout_numbers (table_of s.journal)) tt)),
        ap (λ (a : LayOutAnswer). after_lay_out a s) e,
      );
      add = λ s v w r e. (
        subst (OfAdd (1 ∷ 2 ∷ 3 ∷ 13 ∷ 14 ∷ 15 ∷ 16 ∷ [])) e
            (behind OfAdd (1 ∷ 2 ∷ 3 ∷ 13 ∷ 14 ∷ 15 ∷ 16 ∷ []) (laid_verdict s) Add.Refused (add_laid s.state v w) (λ r h. h)
            (laid-numbers s (13 ∷ 14 ∷ 15 ∷ 16 ∷ [])) (add-numbers s.state v w)),
        ap (λ (a : AddAnswer). after_add a s v w) e,
      );
      remove = λ s v w r e. (
        subst (OfRemove (1 ∷ 2 ∷ 3 ∷ 13 ∷ 14 ∷ 17 ∷ [])) e
            (behind OfRemove (1 ∷ 2 ∷ 3 ∷ 13 ∷ 14 ∷ 17 ∷ []) (laid_verdict s) Remove.Refused _ (λ r h. h) (laid-numbers s (13 ∷ 14 ∷ 17 ∷ []))
            (behind OfRemove (1 ∷ 2 ∷ 3 ∷ 13 ∷ 14 ∷ 17 ∷ []) (pair_verdict (vertex_count s.state) v w) Remove.Refused _ (λ r h. h)
            (pair-numbers (vertex_count s.state) v w (17 ∷ []))
            (remove-chain (eqb (edge s.state.adjacency v w) 1)))),
        ap (λ (a : RemoveAnswer). after_remove a s v w) e,
      );
      swap = λ s x r e. (
        subst (OfSwap (1 ∷ 2 ∷ 3 ∷ 13 ∷ 23 ∷ 24 ∷ [])) e
            (behind OfSwap (1 ∷ 2 ∷ 3 ∷ 13 ∷ 23 ∷ 24 ∷ []) (laid_verdict s) Swap.Refused _ (λ r h. h) (laid-numbers s (13 ∷ 23 ∷ 24 ∷ []))
            (swap-chain (are_vertices (vertex_count s.state) x) (is_allowed (class_at s.state) s.state.adjacency x)
            (ltb (swap_count s.log) most_swaps))),
        ap (λ (a : SwapAnswer). after_swap a s x) e,
      );
      undo = λ s r e. (
        subst (OfUndo (1 ∷ 2 ∷ 3 ∷ 25 ∷ [])) e
            (behind OfUndo (1 ∷ 2 ∷ 3 ∷ 25 ∷ []) (laid_verdict s) Undo.Refused _ (λ r h. h) (laid-numbers s (25 ∷ [])) (undo-chain (ltb 0 (swap_count s.log)))),
        ap (λ (a : UndoAnswer). after_undo a s) e,
      );
      complete = λ s. complete-refused s (completed s.state);
      complete_written = λ s. complete_written Lowest s;
      shuffle = λ s x out q e.
          complete-refused s (shuffled s.state x).ran out q (with_x-refused (shuffled s.state x).x _ q e);
      shuffle_written = λ s x out joins switches n y e.
          complete_written (Picked x) s out joins switches n (with_x-completed (shuffled s.state x).x _ joins switches n y e).0;
      list = λ s out r e. (
        subst (OfWritten (1 ∷ 2 ∷ 3 ∷ 18 ∷ []) (length (list_bytes (vertex_count s) s.adjacency)) (length out)) e (edges-numbers s (length out)),
        ap (λ (a : WrittenAnswer). output_listed a s out) e,
      );
      list_written = λ s out n e.
          let h = subst (OfWritten (1 ∷ 2 ∷ 3 ∷ 18 ∷ []) (length (list_bytes (vertex_count s) s.adjacency)) (length out)) e (edges-numbers s (length out)) in
          subst (SamePast n out) (sym (ap (λ (a : WrittenAnswer). output_listed a s out) e))
          (past out (list_bytes (vertex_count s) s.adjacency) n h.0 h.1);
      survey = λ e total out r p. (
        subst (OfWritten (19 ∷ 20 ∷ 18 ∷ []) (length (survey_records e total)) (length out)) p (survey-numbers e total (length out)),
        ap (λ (a : WrittenAnswer). survey_output a e total out) p,
      );
      survey_written = λ e total out n p.
          let h = subst (OfWritten (19 ∷ 20 ∷ 18 ∷ []) (length (survey_records e total)) (length out)) p (survey-numbers e total (length out)) in
          subst (SamePast n out) (sym (ap (λ (a : WrittenAnswer). survey_output a e total out) p)) (past out (survey_records e total) n h.0 h.1);
      graph6_write = λ e total out r p. (
        subst (OfWritten (19 ∷ 18 ∷ []) (length (write_text e total)) (length out)) p (write_numbers e total (length out)),
        ap (λ (a : WrittenAnswer). write_output a e total out) p,
      );
      graph6_written = λ e total out n p.
          let h = subst (OfWritten (19 ∷ 18 ∷ []) (length (write_text e total)) (length out)) p (write_numbers e total (length out)) in
          subst (SamePast n out) (sym (ap (λ (a : WrittenAnswer). write_output a e total out) p)) (past out (write_text e total) n h.0 h.1);
      graph6_read = λ t out r p. (
        subst (OfRead (22 ∷ 21 ∷ 18 ∷ []) (length (read_list t)) (length out)) p (read-numbers t (length out)),
        ap (λ (a : ReadAnswer). read_output a t out) p,
      );
      graph6_read_out = λ t out n total p.
          let h = subst (OfRead (22 ∷ 21 ∷ 18 ∷ []) (length (read_list t)) (length out)) p (read-numbers t (length out)) in
          subst (SamePast n out) (sym (ap (λ (a : ReadAnswer). read_output a t out) p)) (past out (read_list t) n h.0 h.1);
      figures = λ s r e.
          subst (OfFigures (1 ∷ 2 ∷ [])) e (behind OfFigures (1 ∷ 2 ∷ []) (state_verdict s) Figs.Refused _ (λ r h. h) (state_numbers s []) tt);
    }
