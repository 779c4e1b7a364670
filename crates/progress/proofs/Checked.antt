-- Behind the checks 1, 2 and 3 of a loan: what the work on its state has answered and left is what completing answers and leaves.
-- Assumes nothing.
use mathlib.Core.Path.{◌≡◌, refl, sym, ap, ◌∙◌}
use mathlib.Core.List.{List}
use Prim.Native.Nat.{ℕ}
use lib.ListN.{length}
use Rattle.answer.specs.declared.CompleteAnswer.{CompleteAnswer}
use Rattle.answer.specs.declared.CompleteAnswer.TheVariants.{Completed, Refused}
use Rattle.answer.specs.Refusals.{Go}
use Rattle.state.specs.State.{State}
use Rattle.loan.specs.Loan.{Loan}
use Rattle.loan.specs.Checks.{laid_verdict}
use Rattle.completion.specs.Complete.{Ran, ran_laid, ran_answer, after_ran, ran_after, output_ran, ran_output}
use Rattle.completion.specs.Inner.Laid.{adjacency_ran}

adjacency-after : (a : CompleteAnswer) (r : Ran) (b : Loan) → adjacency_ran a r b.state.adjacency ≡ (after_ran a r b).state.adjacency
adjacency-after (Completed joins switches n) r b = refl
adjacency-after (Refused q) r b = refl

-- the work on s, which is the loan's state, ends in `ends s`; it was answered by a, and has left the matrix g, the log l and the output out'
module _ (b : Loan) (ends : State → Ran) (out : List ℕ) (passed : laid_verdict b ≡ Go) {s : State} (es : s ≡ b.state) where
  abbrev r : Ran
  r = ends b.state

  answered : ran_laid (ends s) s (length out) ≡ ran_answer r b (length out)
  answered = ap (λ (u : State). ran_laid (ends u) u (length out)) es ∙ rw passed

  pub checked : {a : CompleteAnswer} → ran_laid (ends s) s (length out) ≡ a
      → {g l out' : List ℕ} → g ≡ adjacency_ran (ran_laid (ends s) s (length out)) (ends s) s.adjacency → l ≡ (after_ran a r b).log
      → out' ≡ output_ran (ran_laid (ends s) s (length out)) (ends s) out
      → (a ≡ ran_answer r b (length out))
      × ((g ≡ (ran_after r b (length out)).state.adjacency)
      × ((l ≡ (ran_after r b (length out)).log)
      × (out' ≡ ran_output r b out)))
  checked e eg el eo = (
    sym e ∙ answered,
    (
      eg
          ∙ ap (λ (x : CompleteAnswer). adjacency_ran x (ends s) s.adjacency) answered
          ∙ ap (λ (u : State). adjacency_ran (ran_answer r b (length out)) (ends u) u.adjacency) es
          ∙ adjacency-after (ran_answer r b (length out)) r b,
      (
        el ∙ ap (λ (x : CompleteAnswer). (after_ran x r b).log) (sym e ∙ answered),
        eo
            ∙ ap (λ (x : CompleteAnswer). output_ran x (ends s) out) answered
            ∙ ap (λ (u : State). output_ran (ran_answer r b (length out)) (ends u) out) es,
      ),
    ),
  )
