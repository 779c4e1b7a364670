-- `switching::none_transfers` meets its contract: the flag is the test of the vertices passed.
use mathlib.Core.Path.{◌≡◌}
use Prim.Native.Nat.{◌+◌, ◌*◌}
use native.Mathlib.Omega.{arith}
use Rattle.finite.proofs.All.{all_to-none, all_to-more}
use Rattle.adjacency.specs.Adjacency.{side}
use Rattle.switching.proofs.none_transfers.Goals as goal

pub loop-i-init : goal.loop-i-init
loop-i-init c = (omega arith, rw all_to-none)

pub loop-i-preserved : goal.loop-i-preserved
loop-i-preserved c =
    let s = c.args in
    let i = c.loop-i.i in
    let p : s.a * side + s.t + i ≡ s.a * side + (s.t + i) = omega arith in
    let q : s.b * side + s.t + i ≡ s.b * side + (s.t + i) = omega arith in
    (omega arith, rw (all_to-more, c.loop-i.invariant.1, p, q))
