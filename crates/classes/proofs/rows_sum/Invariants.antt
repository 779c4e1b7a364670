-- `classes::rows_sum` meets its contract: before row v, sum is that of the rows above it.
use mathlib.Core.Path.{◌≡◌}
use Prim.Native.Nat.{◌*◌, ◌≤◌}
use Rattle.adjacency.specs.Adjacency.{side, edge}
use Rattle.classes.specs.Inner.Block.{block_sum}
use Rattle.classes.proofs.rows_sum.Given as goal

abbrev pub invariant-loop-v : goal.invariant-loop-v
invariant-loop-v l = (l.top ≤ l.v) × (l.v ≤ l.bottom) × (l.sum ≡ block_sum (edge l.adjacency) l.top l.v l.left l.right) × (l.sum ≤ side * l.v)
