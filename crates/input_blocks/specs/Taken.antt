-- The input's blocks, sent one after the other under their numbers: what each is answered, and which is the first to be refused.
-- Assumes nothing.
use Rattle.std.specs.Prelude.{◌≡◌, List, ℕ, ◌+◌, ◌<◌}
use Rattle.finite.specs.Range.{sum_to, fold_to}
use Rattle.graph.specs.Graph.{DegreeTable}
use Rattle.answer.specs.declared.Refusal.{Refusal}
use Rattle.answer.specs.declared.TakeAnswer.{TakeAnswer}
use Rattle.answer.specs.declared.TakeAnswer.TheVariants.{Taken, Refused}
use Rattle.table.specs.Block.{block_cell, block_isolated}
use Rattle.state.specs.State.{State}
use Rattle.take_block.specs.Take.{take_answer, take_after}
use Rattle.input_blocks.specs.Blocks.{blocks_in, block_in}

-- the sum of the input's blocks: in each cell, and of the isolated vertices
abbrev pub input_table : List ℕ → DegreeTable
input_table input =
    record {
      cells = λ k l. sum_to (blocks_in input) (λ i. block_cell (block_in input i) k l);
      isolated = sum_to (blocks_in input) (λ i. block_isolated (block_in input i));
    }

-- the state after the first i blocks were sent to s, one after the other
abbrev pub state_after : State → List ℕ → ℕ → State
state_after s input i = fold_to i (λ i s. take_after s i (block_in input i)) s

-- the answer to block i, sent after those before it
abbrev pub block_answer : State → List ℕ → ℕ → TakeAnswer
block_answer s input i = take_answer (state_after s input i) i (block_in input i)

-- each of the first i blocks is taken, and the answer names the number of the next
abbrev pub AllTaken : State → List ℕ → ℕ → Type 0
AllTaken s input i = (m : ℕ) → m < i → block_answer s input m ≡ Taken (m + 1)

-- a block is refused by r, and all before it are taken
pub record FirstRefused (s : State) (input : List ℕ) (r : Refusal) : Type 0 where
  pub block : ℕ
  pub within : block < blocks_in input
  pub taken : AllTaken s input block
  pub refused : block_answer s input block ≡ Refused r
