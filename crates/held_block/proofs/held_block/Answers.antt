-- `held_block::held_block` meets its contract.
use mathlib.Core.Path.{sym, ◌∙◌}
use Prim.Native.Nat.{◌<◌}
use native.Mathlib.Omega.{arith}
use Rattle.table.specs.Block.{most_blocks}
use Rattle.journal.proofs.Facts.{journal_facts, slot_most}
use Rattle.state.specs.State.{state_of}
use Rattle.state.proofs.Facts.{lengths_journal, valid-journal}
use Rattle.held_block.proofs.Held.{length-facts}
use Rattle.held_block.proofs.held_block.Goals as goal

pub block_part-requires : goal.block_part-requires
block_part-requires c =
    let a = c.args in
    let j = a.journal.now in
    let s = state_of j a.adjacency.now in
    let h = length-facts s a.number _ (sym c.held_block_length.ensures ∙ c.in-Length.is) in
    let f = journal_facts j (valid-journal s h.is_valid) in
    let m : a.number < most_blocks = omega (arith, f.blocks-le, h.low) in
    (lengths_journal s h.lengths, m, slot_most j f a.number m)
