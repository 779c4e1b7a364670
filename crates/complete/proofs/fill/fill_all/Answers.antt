-- `complete::fill::fill_all` meets its contract: before row k those before it are filled.
use mathlib.Core.Path.{◌≡◌, sym}
use Prim.Native.Nat.{◌+◌, ◌-◌}
use native.Mathlib.Omega.{arith}
use Rattle.finite.proofs.Fold.{fold_to-none, fold_to-after}
use Rattle.graph.specs.Tests.{least_class}
use Rattle.table.specs.Inner.Cells.{matrix_of}
use Rattle.classes.specs.Inner.Block.{class_from}
use Rattle.completion.specs.Inner.Cellwise.{fill_row}
use Rattle.progress.proofs.Output.{wrote_none, wrote_then}
use Rattle.complete.proofs.Arranged.{working, all_valid}
use Rattle.complete.proofs.fill.fill_all.Goals as goal

pub loop-k-init : goal.loop-k-init
loop-k-init c = (sym (fold_to-none _ _), c.requires.degrees_right, wrote_none _ _)

pub fill_row-sum-requires : goal.fill_row-sum-requires
fill_row-sum-requires c = (
  working c.requires _ (all_valid c.requires (c.loop-k.k - least_class) _ (omega arith) c.loop-k.invariant.0) _ c.loop-k.invariant.1 c.loop-k.invariant.2.sized,
  c.loop-k-test.true,
)

pub loop-k-preserved : goal.loop-k-preserved
loop-k-preserved c =
    let a = c.args in
    let i = c.loop-k.k - least_class in
    let e : c.loop-k.k + 1 - least_class ≡ i + 1 = omega arith in
    let f : least_class + i ≡ c.loop-k.k = omega arith in (
      rw e
          (fold_to-after (λ i. fill_row a.n (class_from a.starts.now) (matrix_of a.cells.now) (least_class + i)) _ i _ _ c.loop-k.invariant.0
          (rw f c.fill_row-sum.ensures.result_after)),
      c.fill_row-sum.ensures.degrees_after,
      wrote_then c.loop-k.invariant.2 c.fill_row-sum.ensures.wrote_records,
    )
