-- `add_edge::end_at` meets its contract.
use mathlib.Core.List.{List}
use Prim.Native.Nat.{ℕ, ◌+◌, ◌≤◌}
use native.Mathlib.Omega.{arith}
use lib.Dec.{ltb}
use lib.ListN.{get_or}
use Rattle.finite.proofs.Lowest.{lowest-le}
use Rattle.graph.specs.Tests.{most_classes}
use Rattle.classes.specs.Inner.Block.{class_from}
use Rattle.add_edge.proofs.end_at.Goals as goal

-- a class, or the number of classes where v is past them
class_most : (starts : List ℕ) (v : ℕ) → class_from starts v ≤ most_classes
class_most starts v = lowest-le 0 most_classes (λ k. ltb v (get_or starts (k + 1) 0)) (omega arith)

pub offset_bounds-starts-class : goal.offset_bounds-starts-class
offset_bounds-starts-class c = omega (arith, c.class_at-class.ensures, class_most c.args.starts.now c.args.v)

pub bounds-starts-class : goal.bounds-starts-class
bounds-starts-class c = omega (arith, c.class_at-class.ensures, class_most c.args.starts.now c.args.v)
