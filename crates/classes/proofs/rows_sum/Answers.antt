-- `classes::rows_sum` meets its contract: before row v, sum is that of the rows above it.
use mathlib.Core.Path.{◌≡◌}
use Prim.Native.Nat.{◌+◌, ◌-◌}
use native.Mathlib.Omega.{arith}
use Rattle.finite.proofs.Sum.{sum_to-none, sum_to-more}
use Rattle.classes.proofs.rows_sum.Goals as goal

pub loop-v-init : goal.loop-v-init
loop-v-init c =
    let e : c.args.top - c.args.top ≡ 0 = omega arith in
    (omega arith, c.requires.1.rows.0, rw (e, sum_to-none), omega arith)

pub loop-v-preserved : goal.loop-v-preserved
loop-v-preserved c =
    let top = c.args.top in
    let e : c.loop-v.v + 1 - top ≡ c.loop-v.v - top + 1 = omega arith in
    let f : top + (c.loop-v.v - top) ≡ c.loop-v.v = omega arith in
    (omega arith, omega arith, rw (e, sum_to-more, f) (omega arith), omega arith)
