-- `matrix_check::degree_of` meets its contract.
use mathlib.Core.Path.{◌≡◌, ◌∙◌}
use Prim.Native.Nat.{◌≤◌, ◌+◌, ◌*◌, ◌-◌}
use native.Mathlib.Omega.{arith}
use lib.ListN.{length}
use Rattle.adjacency.specs.Adjacency.{side}
use Rattle.slices.proofs.PartSum.{part-sum}
use Rattle.matrix_check.proofs.degree_of.Goals as goal

pub returns : goal.returns
returns c =
    let a = c.args in
    let g = a.adjacency.now in
    let e : (a.v * side + a.n) - a.v * side ≡ a.n = omega arith in
    let f : a.v * side + a.n ≤ length g = omega arith in
    rw e at c.ones.ensures.0 ∙ part-sum g (a.v * side) a.n f
