-- Of a completing that is refused, state and output stay as they were; one that is not refused writes its records at the output's start.
-- Assumes nothing.
use mathlib.Core.Path.{◌≡◌, ap}
use mathlib.Core.List.{List}
use Prim.Native.Nat.{ℕ}
use lib.ListN.{length}
use lib.Seq.{sets}
use Rattle.answer.specs.declared.Refusal.{Refusal}
use Rattle.answer.specs.declared.CompleteAnswer.{CompleteAnswer}
use Rattle.answer.specs.declared.CompleteAnswer.TheVariants.{Completed, Refused}
use Rattle.loan.specs.Loan.{Loan}
use Rattle.completion.specs.Complete.{Ran, ran_answer, after_ran, ran_after, output_ran, ran_output}

module _ (b : Loan) (r : Ran) (out : List ℕ) where
  pub refused-leaves : (q : Refusal) → ran_answer r b (length out) ≡ Refused q → (ran_after r b (length out) ≡ b) × (ran_output r b out ≡ out)
  refused-leaves q e = (ap (λ (a : CompleteAnswer). after_ran a r b) e, ap (λ (a : CompleteAnswer). output_ran a r out) e)

  pub records-written : (joins switches n : ℕ) → ran_answer r b (length out) ≡ Completed joins switches n → ran_output r b out ≡ sets out 0 r.records
  records-written joins switches n e = ap (λ (a : CompleteAnswer). output_ran a r out) e
