-- A block that is read back stands in one of the journal's slots.
-- Assumes nothing.
use mathlib.Core.Path.{◌≡◌}
use Prim.Native.Nat.{ℕ, ◌<◌}
use native.Mathlib.Omega.{arith}
use Rattle.answer.specs.declared.LengthAnswer.TheVariants.{Length}
use Rattle.table.specs.Block.{most_blocks}
use Rattle.journal.proofs.Facts.{journal_facts}
use Rattle.state.specs.State.{State}
use Rattle.state.proofs.Facts.{valid-journal}
use Rattle.held_block.specs.Held.{length_answer}
use Rattle.held_block.proofs.Held.{length-facts}

pub held_low : (s : State) (number n : ℕ) → length_answer s number ≡ Length n → number < most_blocks
held_low s number n e =
    let f = length-facts s number n e in
    omega (arith, f.low, (journal_facts s.journal (valid-journal s f.is_valid)).blocks-le)
