-- What is read back is what was taken, after every list of calls from a cleared state.
-- Assumes nothing.
use Rattle.std.specs.Prelude.{◌≡◌, true, List, ℕ, ◌<◌, length}
use Rattle.answer.specs.Refusals.{refuse}
use Rattle.answer.specs.declared.Cause.TheVariants.{BlockDiffers}
use Rattle.answer.specs.declared.TakeAnswer.TheVariants.{Held, Refused}
use Rattle.answer.specs.declared.LengthAnswer.TheVariants.{Length}
use Rattle.table.specs.Block.{well_formed}
use Rattle.journal.specs.Journal.{blocks}
use Rattle.take_block.specs.Take.{take_answer}
use Rattle.held_block.specs.Held.{length_answer, held_part}
use Rattle.state.specs.State.{State}
use Rattle.loan.specs.Loan.{cleared_loan}
use Rattle.demands.specs.Calls.{Call, after_all}
use Rattle.demands.specs.Accepted.{AcceptedIn}

-- under this number the state holds block b: it is one of its blocks; reading it back gives b's length and b's bytes; b sent again is held, and any
-- other block is 7
pub record Holds (s : State) (number : ℕ) (b : List ℕ) : Type 0 where
  pub low : number < blocks s.journal
  pub sized : length_answer s number ≡ Length (length b)
  pub same : held_part s number ≡ b
  pub resent : take_answer s number b ≡ Held
  pub differs : (b' : List ℕ) → well_formed b' ≡ true → (b ≡ b' → ⊥) → take_answer s number b' ≡ Refused (refuse BlockDiffers 0 0)

pub record ReadsBack : Type 0 where
  -- every block answered as taken or held is held from then on, whatever calls came after it ..
  pub accepted_held : (calls : List Call) (number : ℕ) (b : List ℕ) → AcceptedIn calls number b → Holds (after_all cleared_loan calls).state number b
  -- .. and nothing else is: each block of the journal was answered so
  pub held_accepted : (calls : List Call) (number : ℕ) → number < blocks (after_all cleared_loan calls).state.journal → (b : List ℕ) × AcceptedIn calls number b
