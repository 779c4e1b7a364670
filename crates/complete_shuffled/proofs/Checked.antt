-- Behind the checks 1, 2 and 3 of a loan: what the work on its state has answered, with x, and left is what shuffled completing answers and leaves.
-- Assumes nothing.
use mathlib.Core.Path.{◌≡◌, sym, ap, ◌∙◌}
use mathlib.Core.List.{List}
use Prim.Native.Nat.{ℕ}
use lib.ListN.{length}
use Rattle.answer.specs.declared.CompleteAnswer.{CompleteAnswer}
use Rattle.answer.specs.declared.Refusal.{Refusal}
use Rattle.answer.specs.declared.ShuffleAnswer.{ShuffleAnswer}
use Rattle.answer.specs.declared.ShuffleAnswer.TheVariants.{Completed, Refused}
use Rattle.answer.specs.Refusals.{Go}
use Rattle.state.specs.State.{State}
use Rattle.loan.specs.Loan.{Loan}
use Rattle.loan.specs.Checks.{laid_verdict}
use Rattle.completion.specs.Complete.{Ran, ran_laid, log_after, output_ran}
use Rattle.completion.specs.Inner.Laid.{adjacency_ran}
use Rattle.progress.proofs.Checked.{checked}
use Rattle.shuffled_completion.specs.Shuffle.{shuffled, with_x, shuffle_answer, shuffle_after, shuffle_output}
use Rattle.shuffled_completion.proofs.Answers.{with_x-refused, with_x-completed}

-- the work on s, which is the loan's state, ends in `ran s`
module _ (b : Loan) (x : ℕ) (out : List ℕ) (passed : laid_verdict b ≡ Go) {s : State} (es : s ≡ b.state) where
  abbrev ran : State → Ran
  ran u = (shuffled u x).ran

  abbrev answer : State → CompleteAnswer
  answer u = ran_laid (ran u) u (length out)

  answered : with_x (shuffled s x).x (answer s) ≡ shuffle_answer b x (length out)
  answered = ap (λ (u : State). with_x (shuffled u x).x (answer u)) es ∙ rw passed

  -- a is answered, and the matrix g, the log l and the output out' are left
  abbrev Ends : ShuffleAnswer → List ℕ → List ℕ → List ℕ → Type 0
  Ends a g l out' =
      (a ≡ shuffle_answer b x (length out))
      × ((g ≡ (shuffle_after b x (length out)).state.adjacency)
      × ((l ≡ (shuffle_after b x (length out)).log)
      × (out' ≡ shuffle_output b x out)))

  module _ {g out' : List ℕ} (eg : g ≡ adjacency_ran (answer s) (ran s) s.adjacency) (eo : out' ≡ output_ran (answer s) (ran s) out) where
    pub shuffle_refused : {q : Refusal} → with_x (shuffled s x).x (answer s) ≡ Refused q → {l : List ℕ} → l ≡ b.log → Ends (Refused q) g l out'
    shuffle_refused {q} e el = (sym e ∙ answered, (checked b ran out passed es (with_x-refused (shuffled s x).x (answer s) q e) eg el eo).1)

    pub shuffle_completed : {joins switches n y : ℕ} → with_x (shuffled s x).x (answer s) ≡ Completed joins switches n y
        → {l : List ℕ} → l ≡ log_after joins b.log → Ends (Completed joins switches n y) g l out'
    shuffle_completed {joins} {switches} {n} {y} e el = (
      sym e ∙ answered,
      (checked b ran out passed es (with_x-completed (shuffled s x).x (answer s) joins switches n y e).0 eg el eo).1,
    )
