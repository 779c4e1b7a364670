-- A chain of checks lets a call go on exactly where each check passes.
-- Assumes nothing.
use mathlib.Core.Path.{◌≡◌, refl, sym, subst}
use mathlib.Core.Bool.{Bool, true, false, true≢false}
use Prim.Native.Nat.{ℕ}
use Rattle.std.specs.Prelude.{is_err, Ok, Err}
use Rattle.answer.specs.Refusals.{Verdict, Go, Stop, unless, unless_stopped}
use Rattle.answer.specs.declared.Refusal.{Refusal}
use Rattle.answer.specs.declared.WrittenAnswer.{WrittenAnswer}
use Rattle.answer.specs.declared.WrittenAnswer.TheVariants.{Written, Refused}

pub unless_go : (t : Bool) (r : Refusal) (rest : Verdict) → unless t (Stop r) rest ≡ Go → (t ≡ true) × (rest ≡ Go)
unless_go true r rest e = (refl, e)
unless_go false r rest e = (cc, cc)

pub unless_stopped_go : (v rest : Verdict) → unless_stopped v Stop rest ≡ Go → (v ≡ Go) × (rest ≡ Go)
unless_stopped_go (Ok _) rest e = (refl, e)
unless_stopped_go (Err r) rest e = (e, cc)

pub not_err-go : (v : Verdict) → is_err v ≡ false → v ≡ Go
not_err-go (Ok _) e = refl
not_err-go (Err r) e = absurd (true≢false e)

-- the same at any answer: an outcome other than the refusal comes only behind a check that passes
pub unless_passed : {A : Type 0} (t : Bool) (refused rest outcome : A) → (refused ≡ outcome → ⊥) → unless t refused rest ≡ outcome
    → (t ≡ true) × (rest ≡ outcome)
unless_passed true refused rest outcome other e = (refl, e)
unless_passed false refused rest outcome other e = absurd (other e)

-- and behind a verdict: only one that goes lets it through
pub unless_stopped_passed : {A : Type 0} (v : Verdict) (refused : Refusal → A) (rest outcome : A) → ((r : Refusal) → refused r ≡ outcome → ⊥)
    → unless_stopped v refused rest ≡ outcome → (v ≡ Go) × (rest ≡ outcome)
unless_stopped_passed (Ok _) refused rest outcome other e = (refl, e)
unless_stopped_passed (Err r) refused rest outcome other e = absurd (other r e)

-- an answer with a written length is no refusal, and has one length
abbrev IsWritten : WrittenAnswer → Type 0
IsWritten (Written n) = Unit {0}
IsWritten (Refused r) = ⊥

pub refused-not_written : (r : Refusal) (n : ℕ) → Refused r ≡ Written n → ⊥
refused-not_written r n e = subst IsWritten (sym e) tt

pub written-length : (m n : ℕ) → Written m ≡ Written n → n ≡ m
written-length m n e = cc
