-- The answer with x, read back: the answer of completing that it is made of, and x.
-- Assumes nothing.
use mathlib.Core.Path.{◌≡◌}
use Prim.Native.Nat.{ℕ}
use Rattle.answer.specs.declared.Refusal.{Refusal}
use Rattle.answer.specs.declared.CompleteAnswer.{CompleteAnswer}
use Rattle.answer.specs.declared.CompleteAnswer.TheVariants as Complete
use Rattle.answer.specs.declared.ShuffleAnswer.TheVariants.{Completed, Refused}
use Rattle.shuffled_completion.specs.Shuffle.{with_x}

pub with_x-refused : (x : ℕ) (a : CompleteAnswer) (r : Refusal) → with_x x a ≡ Refused r → a ≡ Complete.Refused r
with_x-refused x (Complete.Completed joins switches n) r e = cc
with_x-refused x (Complete.Refused q) r e = cc

pub with_x-completed : (x : ℕ) (a : CompleteAnswer) (joins switches n y : ℕ) → with_x x a ≡ Completed joins switches n y
    → (a ≡ Complete.Completed joins switches n) × (x ≡ y)
with_x-completed x (Complete.Completed i s m) joins switches n y e = (cc, cc)
with_x-completed x (Complete.Refused q) joins switches n y e = (cc, cc)
