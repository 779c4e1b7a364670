-- `classes::edges_among` meets its contract: before vertex v, sum counts the edges among those before it.
use mathlib.Core.Path.{◌≡◌}
use Prim.Native.Nat.{◌+◌, ◌-◌}
use native.Mathlib.Omega.{arith}
use Rattle.finite.proofs.Sum.{sum_to-none, sum_to-more}
use Rattle.classes.proofs.edges_among.Goals as goal

pub loop-v-init : goal.loop-v-init
loop-v-init c =
    let e : c.args.from - c.args.from ≡ 0 = omega arith in
    (omega arith, c.requires.1.rows.0, rw (e, sum_to-none), omega arith)

pub loop-v-preserved : goal.loop-v-preserved
loop-v-preserved c =
    let from = c.args.from in
    let e : c.loop-v.v + 1 - from ≡ c.loop-v.v - from + 1 = omega arith in
    let f : from + (c.loop-v.v - from) ≡ c.loop-v.v = omega arith in
    (omega arith, omega arith, rw (e, sum_to-more, f) (omega arith), omega arith)
