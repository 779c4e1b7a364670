-- Reading a held block back, and its length (document 01, "The bench in lent bytes").
-- Assumes nothing.
use Rattle.std.specs.Prelude.{List, [], ℕ, ltb}
use Rattle.answer.specs.Refusals.{refuse, unless, unless_stopped}
use Rattle.answer.specs.declared.Cause.TheVariants.{BlockNumber}
use Rattle.answer.specs.declared.LengthAnswer.{LengthAnswer}
use Rattle.answer.specs.declared.LengthAnswer.TheVariants.{Length, Refused}
use Rattle.journal.specs.Journal.{blocks, slot_length, block_from, block_at}
use Rattle.state.specs.State.{State}
use Rattle.state.specs.Checks.{state_verdict}

-- the checks 1, 2, 6, then the length
abbrev pub length_answer : State → ℕ → LengthAnswer
length_answer s number =
    unless_stopped (state_verdict s) Refused
    (unless (ltb number (blocks s.journal)) (Refused (refuse BlockNumber 0 0))
    (Length (slot_length s.journal number)))

-- the part of the journal that is the block; refused, an empty part
abbrev pub part_held : LengthAnswer → List ℕ → ℕ → List ℕ
part_held (Length n) j number = block_at j number
part_held (Refused r) j number = []

abbrev pub held_part : State → ℕ → List ℕ
held_part s number = part_held (length_answer s number) s.journal number

-- where in the journal that part begins; the empty part of a refusal, at the journal's first byte
abbrev pub from_held : LengthAnswer → ℕ → ℕ
from_held (Length n) number = block_from number
from_held (Refused r) number = 0

abbrev pub held_from : State → ℕ → ℕ
held_from s number = from_held (length_answer s number) number
