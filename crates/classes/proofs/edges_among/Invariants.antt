-- `classes::edges_among` meets its contract: before vertex v, sum counts the edges among those before it.
use mathlib.Core.Path.{◌≡◌}
use Prim.Native.Nat.{◌*◌, ◌≤◌}
use Rattle.adjacency.specs.Adjacency.{side, edge}
use Rattle.classes.specs.Inner.Block.{triangle_sum}
use Rattle.classes.proofs.edges_among.Given as goal

abbrev pub invariant-loop-v : goal.invariant-loop-v
invariant-loop-v l = (l.from ≤ l.v) × (l.v ≤ l.to) × (l.sum ≡ triangle_sum (edge l.adjacency) l.from l.v) × (l.sum ≤ side * l.v)
