-- Taking a block (document 01, "Blocks and records", "When a call says no").
-- Assumes nothing.
use Rattle.std.specs.Prelude.{cond, List, ℕ, ◌+◌, eqb, ltb, leb, length}
use Rattle.answer.specs.Refusals.{refuse, unless, unless_stopped}
use Rattle.answer.specs.declared.Cause.TheVariants.{WrongPhase, BlockLength, BadRecord, BlockNumber, BlockDiffers, JournalFull}
use Rattle.answer.specs.declared.TakeAnswer.{TakeAnswer}
use Rattle.answer.specs.declared.TakeAnswer.TheVariants.{Taken, Held, Refused}
use Rattle.table.specs.Block.{most_blocks, block_length, records, first_bad}
use Rattle.journal.specs.Journal.{phase_taking, phase, blocks, same_block, stored}
use Rattle.state.specs.State.{State, with_journal}
use Rattle.state.specs.Checks.{state_verdict}

-- a low number: the block held under it, or a conflict
abbrev pub take_held : List ℕ → ℕ → List ℕ → TakeAnswer
take_held j number b = unless (same_block j number b) (Refused (refuse BlockDiffers 0 0)) Held

-- the next number: a new block
abbrev pub take_new : List ℕ → TakeAnswer
take_new j =
    unless (eqb (phase j) phase_taking) (Refused (refuse WrongPhase 0 0))
    (unless (ltb (blocks j) most_blocks) (Refused (refuse JournalFull 0 0))
    (Taken (blocks j + 1)))

-- a well-formed block on a valid state
abbrev pub take_numbered : List ℕ → ℕ → List ℕ → TakeAnswer
take_numbered j number b =
    unless (leb number (blocks j)) (Refused (refuse BlockNumber 0 0))
    (cond (ltb number (blocks j)) (take_held j number b) (take_new j))

-- any block on a valid state: the checks 4, 5, 6, then for a low number 7 or held, then 3, 8, taken
abbrev pub take_on_valid : List ℕ → ℕ → List ℕ → TakeAnswer
take_on_valid j number b =
    unless (block_length (length b)) (Refused (refuse BlockLength 0 0))
    (unless (eqb (first_bad b) (records b)) (Refused (refuse BadRecord (first_bad b) 0))
    (take_numbered j number b))

-- the checks 1, 2, then as above
abbrev pub take_answer : State → ℕ → List ℕ → TakeAnswer
take_answer s number b = unless_stopped (state_verdict s) Refused (take_on_valid s.journal number b)

-- the state afterwards
abbrev pub after_take : TakeAnswer → State → List ℕ → State
after_take (Taken next) s b = with_journal s (stored s.journal b)
after_take Held s b = s
after_take (Refused r) s b = s

abbrev pub take_after : State → ℕ → List ℕ → State
take_after s number b = after_take (take_answer s number b) s b
