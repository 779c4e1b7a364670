-- `adjacency::edge_total` meets its contract: after v turns sum is that of the first v degrees.
use mathlib.Core.Path.{◌≡◌}
use Prim.Native.Nat.{◌≤◌, ◌*◌}
use lib.ListN.{get_or}
use Rattle.finite.specs.Range.{sum_to}
use Rattle.graph.specs.Tests.{most_degree}
use Rattle.adjacency.proofs.edge_total.Given as goal

abbrev pub invariant-loop-degree : goal.invariant-loop-degree
invariant-loop-degree l = (l.degree-index ≤ l.n) × (l.sum ≡ sum_to l.degree-index (λ i. get_or l.degrees i 0)) × (l.sum ≤ l.degree-index * most_degree)
