-- Which blocks were "answered as taken or held" since the clear.
-- Assumes nothing.
use Rattle.std.specs.Prelude.{◌≡◌, Bool, true, false, List, ◌∷◌, ◌++◌, ℕ}
use Rattle.answer.specs.declared.TakeAnswer.{TakeAnswer}
use Rattle.answer.specs.declared.TakeAnswer.TheVariants.{Taken, Held, Refused}
use Rattle.take_block.specs.Take.{take_answer}
use Rattle.loan.specs.Loan.{cleared_loan}
use Rattle.demands.specs.Calls.{Call, changes, take, after_all}

-- the block was taken, or held already
abbrev pub accepted : TakeAnswer → Bool
accepted (Taken next) = true
accepted Held = true
accepted (Refused r) = false

-- one of the calls offered block b under this number, and was answered so
pub record AcceptedIn (calls : List Call) (number : ℕ) (b : List ℕ) : Type 0 where
  pub before : List Call
  pub rest : List Call
  pub offered : calls ≡ before ++ changes (take number b) ∷ rest
  pub answer : accepted (take_answer (after_all cleared_loan before).state number b) ≡ true
