-- Shuffled completing (specs/Shuffled.antt): the laws of completing by every choice, at the one that x picks, and the last x.
-- Assumes nothing.
use mathlib.Core.Path.{◌≡◌, refl, sym, ap, ap₂, ◌∙◌}
use mathlib.Core.List.{List}
use Prim.Native.Nat.{ℕ, ◌*◌, ◌≤◌, ◌<◌}
use native.Mathlib.Omega.{arith}
use lib.ListN.{length, take}
use Rattle.finite.proofs.Fold.{fold_to-none}
use Rattle.answer.specs.declared.CompleteAnswer.{CompleteAnswer}
use Rattle.answer.specs.declared.CompleteAnswer.TheVariants as Complete
use Rattle.answer.specs.declared.ShuffleAnswer.TheVariants.{Completed}
use Rattle.answer.specs.declared.Choice.TheVariants.{Picked}
use Rattle.graph.specs.Tests.{least_class, most_classes}
use Rattle.journal.specs.Journal.{jdm_of, table_of}
use Rattle.state.specs.State.{State}
use Rattle.loan.specs.Loan.{Loan}
use Rattle.loan.specs.Valid.{LaidLoan}
use Rattle.loan.proofs.Laid.{laid-state}
use Rattle.state.proofs.Facts.{cell_at}
use Rattle.join_records.specs.Record.{join_record_size}
use Rattle.completion.specs.Complete.{Ran, fresh, missing, ran_answer, after_ran, output_ran}
use Rattle.shuffled_completion.specs.Choice.{next_x, steps_x}
use Rattle.shuffled_completion.specs.Shuffle.{shuffled, with_x, shuffle_output}
use Rattle.shuffled_completion.proofs.Answers.{with_x-refused}
use Rattle.shuffled_completion.proofs.Works.{shuffled-last, outcome-works}
use Rattle.demands.specs.Shuffled.{Shuffles, LeftAlone, ShuffledCompleting}
use Rattle.demands.specs.Matrix.{ShortFor}
use Rattle.demands.specs.Playback.{play}
use Rattle.demands.proofs.Choices.{outcome-answer, full_outcome, full_answer, choice_has, choice_log}
use Rattle.demands.proofs.Playback.{playback}

shuffles : (b : Loan) (x : ℕ) (out : List ℕ) → LaidLoan b → join_record_size * missing b.state ≤ length out → Shuffles b x out
shuffles b x out checked room =
    record {
      joins = r.joins;
      switches = r.switches;
      answer =
          ap (with_x (shuffled s x).x) answered
          ∙ ap (Completed r.joins r.switches (join_record_size * r.joins)) (shuffled-last s x);
      made = made;
      has_table = choice_has b (Picked x) out r.joins r.switches (join_record_size * r.joins) answered (laid-state b checked);
      played =
          let p = playback.completing (Picked x) b out checked room in
          let e : p.joins ≡ r.joins = omega (arith, p.made, made) in
          ap (λ (m : ℕ). play (take (join_record_size * m) (shuffle_output b x out)) b.state.adjacency) (sym e) ∙ p.played;
      log-after = choice_log b (Picked x) out r.joins r.switches (join_record_size * r.joins) answered;
    }
  where
    s : State
    s = b.state

    r : Ran
    r = (shuffled b.state x).ran

    made : (shuffled b.state x).ran.joins ≡ missing b.state
    made = (outcome-works (Picked x) b.state (laid-state b checked)).made

    answered : ran_answer r b (length out) ≡ Complete.Completed r.joins r.switches (join_record_size * r.joins)
    answered = outcome-answer b (Picked x) checked (length out) room

left_alone : (b : Loan) (x : ℕ) (out : List ℕ) → LaidLoan b → ((k l : ℕ) → ShortFor (table_of b.state.journal) b.state k l → ⊥)
    → LeftAlone b x out
left_alone b x out checked none =
    record {
      answer =
          ap (with_x (shuffled s x).x) answered
          ∙ ap (Completed 0 0 0) (shuffled-last s x ∙ ap (λ (m : ℕ). steps_x m x) (ap (λ (r : Ran). r.joins) ended) ∙ fold_to-none (λ i. next_x) x);
      same_state = ap₂ (λ (a : CompleteAnswer) (r : Ran). after_ran a r b) answered ended;
      same_output = ap₂ (λ (a : CompleteAnswer) (r : Ran). output_ran a r out) answered ended;
    }
  where
    s : State
    s = b.state

    full : (k l : ℕ) → least_class ≤ k → k < most_classes → k ≤ l → l < most_classes → jdm_of b.state.journal k l ≤ cell_at b.state k l
    full k l p q r t = omega (arith, none k l)

    ended : (shuffled b.state x).ran ≡ fresh b.state.adjacency
    ended = full_outcome b.state (Picked x) full

    answered : ran_answer (shuffled b.state x).ran b (length out) ≡ Complete.Completed 0 0 0
    answered = full_answer b (Picked x) checked ended (length out)

pub shuffled-completing : ShuffledCompleting
shuffled-completing =
    record {
      shuffles = shuffles;
      complete_already = left_alone;
      refused = λ b x out q e. with_x-refused (shuffled b.state x).x _ q e;
      same_state = λ s x out. refl;
    }
