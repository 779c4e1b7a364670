-- `journal::sum_blocks` meets its contract: after i turns the first i blocks are added.
use mathlib.Core.Path.{◌≡◌, sym, ap, ◌∙◌}
use mathlib.Core.List.{List}
use lib.ListN.{get_or}
use Rattle.table.proofs.Matrix.{at_most_taken}
use Prim.Native.Nat.{ℕ, ◌*◌}
use native.Mathlib.Omega.{arith}
use Rattle.std.proofs.Common.{rules}
use Rattle.finite.proofs.Fold.{fold_to-none, fold_to-more}
use Rattle.table.specs.Inner.Cells.{AtMost, block_sum_most, cell_sum_most, isolated_place}
use Rattle.journal.specs.Journal.{blocks}
use Rattle.journal.proofs.Facts.{journal_facts, slot_most}
use Rattle.journal.proofs.Matrix.{cells_to, cells-most, cells-isolated, cells-matrix}
use Rattle.journal.proofs.sum_blocks.Goals as goal

pub loop-i-init : goal.loop-i-init
loop-i-init c = (omega arith, c.requires.2 ∙ sym (fold_to-none _ _))

pub block_part-requires : goal.block_part-requires
block_part-requires c =
    let j = c.args.journal.now in
    let f = journal_facts j c.requires.1 in
    let i = c.loop-i.i in
    (c.requires.0, omega (arith, f.blocks-le), slot_most j f i (omega (arith, f.blocks-le)))

pub add_block-requires : goal.add_block-requires
add_block-requires c =
    let j = c.args.journal.now in
    let f = journal_facts j c.requires.1 in
    let i = c.loop-i.i in
    let m = cells-most j c.requires.0 f i c.loop-i.invariant.0 (λ p. search rules) in (
      c.block_part.ensures.1,
      rw c.block_part.ensures.0 (f.good i (omega arith)),
      (block_sum_most * i, omega (arith, f.blocks-le), rw c.loop-i.invariant.1 m),
    )

pub loop-i-preserved : goal.loop-i-preserved
loop-i-preserved c = (omega arith, rw (c.add_block.ensures, c.block_part.ensures.0, c.loop-i.invariant.1, fold_to-more))

pub returns : goal.returns
returns c =
    let j = c.args.journal.now in
    let f = journal_facts j c.requires.1 in
    let e : c.loop-i.cells ≡ cells_to j (blocks j) = c.loop-i.invariant.1 ∙ ap (cells_to j) (omega arith) in
    let few = cells-most j c.requires.0 f (blocks j) (omega arith) (λ p. search rules) in
    let most : AtMost cell_sum_most (cells_to j (blocks j)) = λ p. omega (arith, f.blocks-le, few p) in
    let i = c.take_isolated.ensures.value ∙ ap (λ (x : List ℕ). get_or x isolated_place 0) e in
    record { value = (i ∙ cells-isolated j c.requires.0 c.requires.1, rw i (most isolated_place)); cells_after = rw (c.take_isolated.ensures.cells_after, e) (cells-matrix j c.requires.0 c.requires.1, at_most_taken cell_sum_most (cells_to j (blocks j)) most) }
