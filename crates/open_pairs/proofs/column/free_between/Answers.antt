-- `open_pairs::column::free_between` meets its contract.
use mathlib.Core.Path.{◌≡◌}
use Prim.Native.Nat.{◌+◌, ◌-◌, ◌*◌}
use native.Mathlib.Omega.{arith}
use Rattle.adjacency.specs.Adjacency.{side}
use Rattle.open_pairs.proofs.Columns.{free_further, parts_scannable, parts_taken}
use Rattle.open_pairs.proofs.column.free_between.Goals as goal

pub taken-requires : goal.taken-requires
taken-requires c =
    let x = c.args in
    let p = c.requires in
    let n = x.to - x.from in
    let e : (x.v * side + x.to) - (x.v * side + x.from) ≡ n = omega arith in
    let f : (x.k * side + x.to) - (x.k * side + x.from) ≡ n = omega arith in
    rw (e, f) (parts_scannable x.adjacency.now x.full.now x.k x.v p.0 p.1 p.2 x.from n (omega arith))

pub returns : goal.returns
returns c =
    let x = c.args in
    let p = c.requires in
    let n = x.to - x.from in
    let e : (x.v * side + x.to) - (x.v * side + x.from) ≡ n = omega arith in
    let f : (x.k * side + x.to) - (x.k * side + x.from) ≡ n = omega arith in
    let t = parts_taken x.adjacency.now x.full.now x.k x.v p.0 p.1 p.2 x.from n (omega arith) c.taken.result (rw (e, f) at c.taken.ensures) in
    omega (arith, free_further x.adjacency.now x.full.now x.k x.v x.from x.to (omega arith) (omega arith))
