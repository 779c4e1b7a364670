-- The program's input (document 01, "The program `replica`"): it "cuts them into blocks of 64 bytes (the last may be shorter), numbered from 0", and takes
-- them one after the other, up to the first refusal.
-- Assumes nothing.
use Rattle.std.specs.Prelude.{◌≡◌, List, [], ℕ, ◌+◌, ◌-◌, ◌*◌, ◌/◌, ◌<◌, length, take, drop}
use Rattle.finite.specs.Range.{cat_to, fold_to}
use Rattle.answer.specs.Refusals.{Verdict, Go, Stop, unless_stopped}
use Rattle.answer.specs.declared.TakeAnswer.{TakeAnswer}
use Rattle.answer.specs.declared.TakeAnswer.TheVariants.{Taken, Held, Refused}
use Rattle.table.specs.Block.{block_most, most_blocks}
use Rattle.state.specs.State.{State}
use Rattle.take_block.specs.Take.{take_answer, after_take}

-- how many blocks the input has: none where it is empty, and the last may be shorter
abbrev pub blocks_in : List ℕ → ℕ
blocks_in input = (length input + (block_most - 1)) / block_most

-- block i
abbrev pub block_in : List ℕ → ℕ → List ℕ
block_in input i = take block_most (drop (block_most * i) input)

-- the state so far, and the first refusal
pub record Taking : Type 0 where
  pub state : State
  pub verdict : Verdict

abbrev pub take_verdict : TakeAnswer → Verdict
take_verdict (Taken next) = Go
take_verdict Held = Go
take_verdict (Refused r) = Stop r

-- block i is taken, unless an earlier one was refused
abbrev pub take_next : List ℕ → ℕ → Taking → Taking
take_next input i t =
    let b = block_in input i in
    let a = take_answer t.state i b in
    unless_stopped t.verdict (λ r. t) (record { state = after_take a t.state b; verdict = take_verdict a })

-- all blocks, one after the other
abbrev pub take_all : State → List ℕ → Taking
take_all s input = fold_to (blocks_in input) (take_next input) (record { state = s; verdict = Go })

-- the bytes of an input that can matter: one block more than the journal has room for
abbrev pub input_most : ℕ
input_most = block_most * (most_blocks + 1)

-- What is proved of the cut (proofs/Cut.antt): an empty input is no block at all, one of m full blocks is m blocks; no block is empty, although an
-- empty one would be taken; and the blocks, one behind the other, are the input.
pub record InputCut : Type 0 where
  pub none : blocks_in [] ≡ 0
  pub full : (input : List ℕ) (m : ℕ) → length input ≡ block_most * m → blocks_in input ≡ m
  pub not_empty : (input : List ℕ) (i : ℕ) → i < blocks_in input → 0 < length (block_in input i)
  pub together : (input : List ℕ) → cat_to (blocks_in input) (block_in input) ≡ input
