-- `open_pairs::refresh::refresh_range` meets its contract: before row v, the rows passed are counted anew.
use mathlib.Core.Path.{◌≡◌}
use Prim.Native.Nat.{◌+◌, ◌-◌}
use native.Mathlib.Omega.{arith}
use Rattle.finite.proofs.Fold.{fold_to-none, fold_to-more}
use Rattle.open_pairs.proofs.refresh.refresh_range.Goals as goal

pub loop-v-init : goal.loop-v-init
loop-v-init c =
    let e : c.args.from - c.args.from ≡ 0 = omega arith in
    rw (e, fold_to-none)

pub loop-v-preserved : goal.loop-v-preserved
loop-v-preserved c =
    let from = c.args.from in
    let v = c.loop-v.v in
    let e : v + 1 - from ≡ v - from + 1 = omega arith in
    let f : from + (v - from) ≡ v = omega arith in
    rw (e, fold_to-more, f, ← c.loop-v.invariant) c.refresh_row.ensures
