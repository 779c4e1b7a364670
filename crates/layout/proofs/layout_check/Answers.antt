-- `layout::layout_check` meets its contract: a row with an overfull cell is that of a class with cells.
use mathlib.Core.Bool.{Bool}
use Prim.Native.Nat.{ℕ}
use native.Mathlib.Omega.{arith}
use lib.Dec.{ltb}
use Rattle.finite.proofs.Lowest.{lowest-ge}
use Rattle.graph.specs.Tests.{least_class, most_classes, first_overfull_in}
use Rattle.table.specs.Inner.Cells.{matrix_of}
use Rattle.layout.proofs.layout_check.Goals as goal

pub first_overfull_in-requires : goal.first_overfull_in-requires
first_overfull_in-requires c =
    let p : ℕ → Bool = λ k. ltb (first_overfull_in (matrix_of c.args.cells.now) k) most_classes in
    let k = c.in-Some-first_overfull.ensures in
    (omega (arith, k.0, lowest-ge least_class most_classes p (omega arith)), omega (arith, k.0, k.1), c.requires.0, c.requires.1)
