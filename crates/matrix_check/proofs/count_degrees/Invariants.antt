-- `matrix_check::count_degrees` meets its contract: after v turns the degrees of the first v vertices are filled in.
use mathlib.Core.Path.{◌≡◌}
use Prim.Native.Nat.{◌≤◌}
use lib.ListN.{replicate}
use Rattle.finite.specs.Inner.Fill.{fill_to}
use Rattle.graph.specs.Graph.{degree}
use Rattle.layout.specs.Layout.{most_vertices}
use Rattle.adjacency.specs.Adjacency.{edge}
use Rattle.matrix_check.proofs.count_degrees.Given as goal

abbrev pub invariant-loop-v : goal.invariant-loop-v
invariant-loop-v l = (l.v ≤ l.n) × (l.degrees ≡ fill_to l.v (degree l.n (edge l.adjacency)) (replicate most_vertices 0))
