-- `complete::fill::fill_row` meets its contract: before cell (k, l) those before it in the row are filled.
use mathlib.Core.Path.{◌≡◌, sym}
use Prim.Native.Nat.{◌+◌, ◌-◌}
use native.Mathlib.Omega.{arith}
use Rattle.finite.proofs.Fold.{fold_to-none, fold_to-after}
use Rattle.table.specs.Inner.Cells.{matrix_of}
use Rattle.classes.specs.Inner.Block.{class_from}
use Rattle.completion.specs.Inner.Cellwise.{fill_cell}
use Rattle.progress.proofs.Output.{wrote_none, wrote_then}
use Rattle.complete.proofs.Arranged.{working, cells-valid, row_empty}
use Rattle.complete.proofs.fill.fill_row.Goals as goal

pub returns-then-starts-k : goal.returns-then-starts-k
returns-then-starts-k c =
    record {
      result_after = row_empty c.requires.0 c.args.k c.requires.1 c.if-starts-k.true;
      wrote_records = wrote_none _ _;
      degrees_after = c.requires.0.degrees_right;
    }

pub loop-l-init : goal.loop-l-init
loop-l-init c =
    let e : c.args.k - c.args.k ≡ 0 = omega arith in
    (rw e (sym (fold_to-none _ _)), c.requires.0.degrees_right, wrote_none _ _)

pub fill_cell-sum-requires : goal.fill_cell-sum-requires
fill_cell-sum-requires c =
    let k = c.args.k in (
      working c.requires.0 _ (cells-valid c.requires.0 (c.loop-l.l - k) _ k (omega arith) c.loop-l.invariant.0) _ c.loop-l.invariant.1 c.loop-l.invariant.2.sized,
      c.requires.1,
      c.loop-l-test.true,
    )

pub loop-l-preserved : goal.loop-l-preserved
loop-l-preserved c =
    let a = c.args in
    let i = c.loop-l.l - a.k in
    let e : c.loop-l.l + 1 - a.k ≡ i + 1 = omega arith in
    let f : a.k + i ≡ c.loop-l.l = omega arith in (
      rw e
          (fold_to-after (λ i. fill_cell a.n (class_from a.starts.now) (matrix_of a.cells.now) a.k (a.k + i)) _ i _ _ c.loop-l.invariant.0
          (rw f c.fill_cell-sum.ensures.result_after)),
      c.fill_cell-sum.ensures.degrees_after,
      wrote_then c.loop-l.invariant.2 c.fill_cell-sum.ensures.wrote_records,
    )
