-- Refusals as values, and the chain of checks that document 01's table is.
-- Assumes nothing.
use Rattle.std.specs.Prelude.{Bool, true, false, ℕ, leb, Result, Ok, Err}
use Rattle.answer.specs.declared.Cause.{Cause}
use Rattle.answer.specs.declared.Cause.TheVariants.{OutputTooShort}
use Rattle.answer.specs.declared.Refusal.{Refusal}

abbrev pub refuse : Cause → ℕ → ℕ → Refusal
refuse c a b = record { cause = c; first = a; second = b }

-- whether a call may go on: what a check answers. Document 01's words: it goes, or it stops, with a refusal
abbrev pub Verdict : Type 0
Verdict = Result (Unit {0}) Refusal

abbrev pub Go : Verdict
Go = Ok tt

abbrev pub Stop : Refusal → Verdict
Stop r = Err r

abbrev pub stopped : Cause → Verdict
stopped c = Stop (refuse c 0 0)

-- Unless the test holds, the refusal; else the rest. A chain of these reads like document 01's table, top to bottom.
module _ {A : Type 0} where
  abbrev pub unless : Bool → A → A → A
  unless true refused rest = rest
  unless false refused rest = refused

  -- The check 18: unless what is to be written fits an output of m bytes, the refusal; else the rest.
  abbrev pub unless_too_short : ℕ → ℕ → (Refusal → A) → A → A
  unless_too_short needed m refused rest = unless (leb needed m) (refused (refuse OutputTooShort 0 0)) rest

  -- What a verdict lets through: its refusal, or the rest.
  abbrev pub unless_stopped : Verdict → (Refusal → A) → A → A
  unless_stopped (Ok _) refused rest = rest
  unless_stopped (Err r) refused rest = refused r
