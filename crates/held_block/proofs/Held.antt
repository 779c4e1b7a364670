-- Reading a block back: what a call that is not refused passed, and what it gives.
-- Assumes nothing.
use mathlib.Core.Path.{◌≡◌, sym, ap, subst, ◌∙◌}
use mathlib.Core.Bool.{true}
use Prim.Native.Nat.{ℕ, ◌<◌}
use native.Mathlib.Omega.{arith}
use lib.Dec.{ltb}
use lib.ListN.{length}
use borrow.Author.Tests.{ltb-true, lt-ltb}
use Rattle.answer.specs.declared.Refusal.{Refusal}
use Rattle.answer.specs.declared.LengthAnswer.{LengthAnswer}
use Rattle.answer.specs.declared.LengthAnswer.TheVariants.{Length, Refused}
use Rattle.answer.proofs.Checks.{unless_passed, unless_stopped_passed}
use Rattle.table.specs.Block.{most_blocks}
use Rattle.journal.specs.Journal.{blocks, slot_length, block_at}
use Rattle.journal.proofs.Facts.{journal_facts, length-block, slot_most}
use Rattle.state.specs.State.{State}
use Rattle.state.specs.Checks.{state_verdict}
use Rattle.state.specs.Valid.{lengths_ok, valid}
use Rattle.state.proofs.Checks.{state_passed, state_go}
use Rattle.state.proofs.Facts.{lengths_journal, valid-journal}
use Rattle.held_block.specs.Held.{length_answer, held_part}

abbrev IsLength : LengthAnswer → Type 0
IsLength (Length n) = Unit {0}
IsLength (Refused r) = ⊥

refused-no_length : (r : Refusal) (n : ℕ) → Refused r ≡ Length n → ⊥
refused-no_length r n e = subst IsLength (sym e) tt

pub record LengthFacts (s : State) (number : ℕ) : Type 0 where
  pub lengths : lengths_ok s ≡ true
  pub is_valid : valid s ≡ true
  pub low : number < blocks s.journal

pub length-facts : (s : State) (number n : ℕ) → length_answer s number ≡ Length n → LengthFacts s number
length-facts s number n e =
    let v = unless_stopped_passed (state_verdict s) Refused _ (Length n) (λ r. refused-no_length r n) e in
    let k = unless_passed (ltb number (blocks s.journal)) _ _ (Length n) (refused-no_length _ n) v.1 in
    let p = state_passed s v.0 in
    record { lengths = p.0; is_valid = p.1; low = ltb-true number (blocks s.journal) k.0 }

-- a block of a valid state is read back as it stands in the journal, and its length is the block's
pub read_back : (s : State) (number : ℕ) → LengthFacts s number
    → (length_answer s number ≡ Length (length (block_at s.journal number))) × (held_part s number ≡ block_at s.journal number)
read_back s number f = (answer ∙ ap Length (sym sized), rw answer)
  where
    answer : length_answer s number ≡ Length (slot_length s.journal number)
    answer = rw (state_go s f.lengths f.is_valid, lt-ltb number (blocks s.journal) f.low)

    sized : length (block_at s.journal number) ≡ slot_length s.journal number
    sized =
        let ok = journal_facts s.journal (valid-journal s f.is_valid) in
        let m : number < most_blocks = omega (arith, ok.blocks-le, f.low) in
        length-block s.journal number (lengths_journal s f.lengths) m (slot_most s.journal ok number m)
