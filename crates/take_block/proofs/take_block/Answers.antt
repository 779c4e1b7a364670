-- `take_block::take_block` meets its contract.
use mathlib.Core.Path.{sym, ◌∙◌}
use lib.ListN.{length}
use Rattle.journal.proofs.Facts.{length_most, well_formed-length}
use Rattle.state.specs.State.{state_of}
use Rattle.state.proofs.Facts.{lengths_journal}
use Rattle.take_block.proofs.Take.{taken-facts}
use Rattle.take_block.proofs.take_block.Goals as goal

pub store_block-requires : goal.store_block-requires
store_block-requires c =
    let a = c.args in
    let b = a.block.now in
    let s = state_of a.journal.now a.adjacency.now in
    let f = taken-facts s a.number b _ (sym c.take_check-answer.ensures ∙ c.in-Taken.is) in
    let most = length_most (length b) (well_formed-length b f.good) in
    (lengths_journal s f.lengths, f.room, most)
