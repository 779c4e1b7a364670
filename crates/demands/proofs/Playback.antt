-- Playback (specs/Playback.antt): the records of completing, and the answer of adding, played onto the matrix of before give the matrix of after.
-- Assumes nothing.
use mathlib.Core.Path.{◌≡◌, refl, sym, ap, ◌∙◌}
use mathlib.Core.Bool.{true}
use mathlib.Core.List.{List, []}
use Prim.Native.Nat.{ℕ, ◌+◌, ◌*◌, ◌≤◌, ◌<◌}
use native.Mathlib.Nat.{zero-add}
use native.Mathlib.Omega.{arith}
use lib.ListN.{length, get_or, take}
use lib.Seq.{sets}
use Rattle.slices.proofs.Part.{take-sets, get_or-sets_in}
use Rattle.finite.specs.Range.{iterate}
use Rattle.finite.proofs.Fold.{iterate-keeps}
use Rattle.answer.specs.declared.switches.Switches.{Switches}
use Rattle.answer.specs.declared.AddAnswer.{AddAnswer}
use Rattle.answer.specs.declared.AddAnswer.TheVariants.{Added}
use Rattle.answer.specs.declared.CompleteAnswer.{CompleteAnswer}
use Rattle.answer.specs.declared.CompleteAnswer.TheVariants.{Completed}
use Rattle.answer.specs.declared.Choice.{Choice}
use Rattle.journal.specs.Journal.{jdm_of}
use Rattle.state.specs.State.{State}
use Rattle.state.specs.Laid.{vertex_count, class_at}
use Rattle.state.proofs.Facts.{StateFacts, Laid}
use Rattle.swap_log.specs.Log.{empty_log}
use Rattle.loan.specs.Loan.{Loan}
use Rattle.loan.specs.Valid.{LaidLoan}
use Rattle.loan.proofs.Laid.{laid-state, laid-facts, laid-laid}
use Rattle.join_bytes.specs.Join.{join_switches}
use Rattle.join_records.specs.Record.{join_record_size}
use Rattle.add_edge.specs.Add.{add_answer, after_add, add_after}
use Rattle.add_edge.proofs.Add.{AddFacts, added-facts}
use Rattle.completion.specs.Complete.{Ran, fresh, most_edges, missing, after_ran, output_ran}
use Rattle.completion.proofs.Works.{Good, Chooser, short, next-good}
use Rattle.completion.proofs.Records.{Recorded, next-recorded, Rising, records-rising}
use Rattle.completion.proofs.Entry.{good_start, CompleteWorks}
use Rattle.shuffled_completion.specs.Outcome.{outcome, choice_answer}
use Rattle.shuffled_completion.proofs.Works.{outcome-works}
use Rattle.demands.specs.Playback.{play, CompletingPlays, added_record, Playback}
use Rattle.demands.proofs.Choices.{By, by, outcome-answer, choice_log}
use Rattle.demands.proofs.Playing.{fits, play_join, join-plays, play-none, play-more}

-- a run's records, played onto the matrix it began with, give the matrix it has come to, whichever pairs are chosen
module _ (n : ℕ) (cls : ℕ → ℕ) (T : ℕ → ℕ → ℕ) {S : Type 0} (c : Chooser n cls T S) (g : List ℕ) where
  run-plays : (fuel : ℕ) (start : S) → c.ran start ≡ fresh g → Good n cls T (fresh g)
      → let r = c.ran (iterate fuel (short n cls T c) c.next start) in
      play r.records g ≡ fits r.adjacency
  run-plays fuel start begins good =
      (iterate-keeps Plays (short n cls T c) c.next fuel start (rw begins (good, refl, play-none g)) step).2
    where
      Plays : S → Type 0
      Plays s = Good n cls T (c.ran s) × Recorded (c.ran s) × (play (c.ran s).records g ≡ fits (c.ran s).adjacency)

      step : (s : S) → Plays s → short n cls T c s ≡ true → Plays (c.next s)
      step s h t =
          let r = c.ran s in
          let f = h.0.0 in
          let x = join_switches n cls r.adjacency (c.v s) (c.w s) in (
            next-good n cls T c s h.0 t,
            next-recorded n cls T c s h.1,
            rw (c.joins s)
                (play-more r.records r.joins (c.v s) (c.w s) x g h.1
                ∙ ap (play_join (c.v s) (c.w s) x) h.2
                ∙ join-plays n cls T r.adjacency (c.v s) (c.w s) f.sized f.few f.target f.partial (c.pair s h.0 t)),
          )

completing_plays : (f : Choice) (b : Loan) (out : List ℕ) → LaidLoan b → join_record_size * missing b.state ≤ length out → CompletingPlays f b out
completing_plays f b out checked room =
    record {
      joins = r.joins;
      switches = r.switches;
      answer = e;
      made = x.made;
      played =
          ap (λ (a : CompleteAnswer). play (take (join_record_size * r.joins) (output_ran a r out)) s.adjacency) e
          ∙ ap (λ (k : ℕ). play (take k (sets out 0 r.records)) s.adjacency) (sym x.written)
          ∙ ap (λ (l : List ℕ). play l s.adjacency) (take-sets out r.records (omega (arith, x.written, x.made)))
          ∙ rw way.ends
          (run-plays (vertex_count s) (class_at s) (jdm_of s.journal) way.way s.adjacency most_edges way.start way.begins
          (good_start s (laid-state b checked)))
          ∙ sym (ap (λ (a : CompleteAnswer). fits (after_ran a r b).state.adjacency) e);
      log-after = choice_log b f out r.joins r.switches (join_record_size * r.joins) e;
      rising = λ i l. rw (e, there (join_record_size * i) (omega (arith, x.written)), there (join_record_size * i + 1) (omega (arith, x.written))) (rising i l);
    }
  where
    s : State
    s = b.state

    r : Ran
    r = outcome f b.state

    way : By b.state (outcome f b.state)
    way = by b.state f

    x : CompleteWorks b.state (outcome f b.state)
    x = outcome-works f b.state (laid-state b checked)

    -- a byte of the records, in the output
    there : (p : ℕ) → p < length r.records → get_or (sets out 0 r.records) p 0 ≡ get_or r.records p 0
    there p h = rw zero-add at (get_or-sets_in out 0 r.records p (omega (arith, x.written, x.made)) h)

    rising : Rising (vertex_count b.state) (outcome f b.state)
    rising =
        rw way.ends
        (records-rising (vertex_count s) (class_at s) (jdm_of s.journal) way.way way.rises most_edges way.start s.adjacency way.begins
        (good_start s (laid-state b checked)))

    e : choice_answer f b (length out)
        ≡ Completed (outcome f b.state).joins (outcome f b.state).switches (join_record_size * (outcome f b.state).joins)
    e = outcome-answer b f checked (length out) room

adding_plays : (b : Loan) (v w : ℕ) (x : Switches) → add_answer b v w ≡ Added x
    → play (added_record v w x) b.state.adjacency ≡ fits (add_after b v w).state.adjacency
adding_plays b v w x e =
    play-more [] 0 v w x s.adjacency refl
    ∙ ap (play_join v w x) (play-none s.adjacency)
    ∙ ap (λ (y : Switches). play_join v w y (fits s.adjacency)) (added-facts b v w x e).1
    ∙ join-plays (vertex_count s) (class_at s) (jdm_of s.journal) s.adjacency v w facts.adjacency_length laid.vertices-le laid.target laid.partial f.pair
    ∙ sym (ap (λ (a : AddAnswer). fits (after_add a b v w).state.adjacency) e)
  where
    s : State
    s = b.state

    f : AddFacts b v w
    f = (added-facts b v w x e).0

    facts : StateFacts b.state
    facts = laid-facts b f.loan

    laid : Laid b.state
    laid = laid-laid b f.loan

pub playback : Playback
playback =
    record {
      completing = completing_plays;
      adding = λ b v w x e. (adding_plays b v w x e, ap (λ (a : AddAnswer). (after_add a b v w).log) e);
    }
