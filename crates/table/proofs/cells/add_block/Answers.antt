-- `table::cells::add_block` meets its contract: after i turns the first i records are added.
use mathlib.Core.Path.{sym}
use native.Mathlib.Omega.{arith}
use Rattle.std.proofs.Common.{rules}
use Rattle.finite.proofs.Fold.{fold_to-none, fold_to-more}
use Rattle.table.proofs.Block.{all-good}
use Rattle.table.proofs.Matrix.{at_most_add_records}
use Rattle.table.proofs.cells.add_block.Goals as goal

pub loop-i-init : goal.loop-i-init
loop-i-init c = (omega arith, sym (fold_to-none _ _))

pub add_record-requires : goal.add_record-requires
add_record-requires c =
    let b = c.args.block.now in
    let h = c.requires.2 in
    let m = at_most_add_records b (λ j. search rules) h.0 c.args.cells.now h.2 c.loop-i.i in
    (omega arith, all-good b c.requires.1 c.loop-i.i (omega arith), λ p. rw c.loop-i.invariant.1 (omega (arith, m p)))

pub loop-i-preserved : goal.loop-i-preserved
loop-i-preserved c = (omega arith, rw (c.add_record.ensures, fold_to-more, c.loop-i.invariant.1))
