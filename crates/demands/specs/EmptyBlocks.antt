-- Blocks of no bytes (document 02, P4): "Some collectors see no links and send a block of zero bytes. It is now taken under its number with length 0
-- and adds nothing; resent, it is held, and read back, it is an empty part. Only the other lengths remain under 4."
-- Assumes nothing.
use Rattle.std.specs.Prelude.{◌≡◌, true, false, List, [], ◌⊎◌, ◌↔◌, ℕ, ◌+◌, ◌%◌, ◌<◌, length, set}
use Rattle.answer.specs.Refusals.{refuse}
use Rattle.answer.specs.declared.Cause.TheVariants.{BlockLength, BlockDiffers}
use Rattle.answer.specs.declared.TakeAnswer.TheVariants.{Taken, Held, Refused}
use Rattle.answer.specs.declared.LengthAnswer.TheVariants.{Length}
use Rattle.table.specs.Block.{record_size, block_most, most_blocks, well_formed}
use Rattle.journal.specs.Journal.{phase_taking, phase, blocks, table_of}
use Rattle.state.specs.State.{State, with_journal}
use Rattle.state.specs.Valid.{lengths_ok, valid}
use Rattle.take_block.specs.Take.{take_answer, take_after}
use Rattle.held_block.specs.Held.{length_answer, held_part}
use Rattle.loan.specs.Loan.{cleared_loan}
use Rattle.demands.specs.Calls.{Call, after_all}
use Rattle.demands.specs.Accepted.{AcceptedIn}
use Rattle.demands.specs.Tally.{Tally, told_take, tally}

-- the block under the next number, where blocks are taken and there is room for one
pub record TakesEmpty (s : State) : Type 0 where
  -- "taken under its number": the next one is one higher ..
  pub answer : take_answer s (blocks s.journal) [] ≡ Taken (blocks s.journal + 1)
  -- .. and that is the one byte that changes: only the count of blocks tells its slot from an unused one
  pub counted : take_after s (blocks s.journal) [] ≡ with_journal s (set s.journal 1 (blocks s.journal + 1))
  -- "and adds nothing"
  pub adds_nothing : table_of (take_after s (blocks s.journal) []).journal ≡ table_of s.journal

-- the block, held under this number
pub record HoldsEmpty (s : State) (number : ℕ) : Type 0 where
  -- "resent, it is held", and any block with bytes is 7
  pub resent : take_answer s number [] ≡ Held
  pub full_differs : (b : List ℕ) → well_formed b ≡ true → 0 < length b → take_answer s number b ≡ Refused (refuse BlockDiffers 0 0)
  -- "with length 0"; "read back, it is an empty part"
  pub length_0 : length_answer s number ≡ Length 0
  pub part : held_part s number ≡ []

pub record EmptyBlocks : Type 0 where
  pub taken : (s : State) → lengths_ok s ≡ true → valid s ≡ true →
      phase s.journal ≡ phase_taking → blocks s.journal < most_blocks → TakesEmpty s
  -- once taken or held, it is held from then on, whatever calls came after it
  pub held : (calls : List Call) (number : ℕ) → AcceptedIn calls number [] → HoldsEmpty (after_all cleared_loan calls).state number
  -- over a block with bytes it is 7
  pub differs : (calls : List Call) (number : ℕ) (b : List ℕ) → AcceptedIn calls number b → 0 < length b →
      let s = (after_all cleared_loan calls).state in take_answer s number [] ≡ Refused (refuse BlockDiffers 0 0)
  -- "Only the other lengths remain under 4": over 64 bytes, or not whole records
  pub other_lengths : (s : State) → lengths_ok s ≡ true → valid s ≡ true →
      (number : ℕ) (b : List ℕ) →
      (take_answer s number b ≡ Refused (refuse BlockLength 0 0))
      ↔ ((block_most < length b) ⊎ (length b % record_size ≡ 0 → ⊥))
  -- the tally takes it in as any block: one more, the same table
  pub tallied : (t : Tally) → t.laid ≡ false → t.blocks < most_blocks →
      tally t (told_take t.blocks []) ≡ record { blocks = t.blocks + 1; table = t.table; laid = t.laid; edges = t.edges }
