-- `take_block::take_held` meets its contract.
use Prim.Native.Nat.{◌<◌}
use native.Mathlib.Omega.{arith}
use Rattle.table.specs.Block.{most_blocks}
use Rattle.journal.proofs.Facts.{journal_facts, slot_most}
use Rattle.take_block.proofs.take_held.Goals as goal

pub is_block-requires : goal.is_block-requires
is_block-requires c =
    let j = c.args.journal.now in
    let f = journal_facts j c.requires.1 in
    let m : c.args.number < most_blocks = omega (arith, f.blocks-le) in
    (c.requires.0, m, slot_most j f c.args.number m)
