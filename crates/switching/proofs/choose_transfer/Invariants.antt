-- `switching::choose_transfer` meets its contract: what is left to search has the answer of the whole.
use mathlib.Core.Path.{◌≡◌}
use Prim.Native.Nat.{◌≤◌, ◌-◌}
use Rattle.finite.specs.Range.{lowest}
use Rattle.graph.specs.Switch.{can_transfer}
use Rattle.adjacency.specs.Adjacency.{edge}
use Rattle.switching.proofs.choose_transfer.Given as goal

abbrev pub invariant-loop-t : goal.invariant-loop-t
invariant-loop-t l = (l.t ≤ l.n) × (lowest 0 l.n (can_transfer (edge l.adjacency) l.a l.b) ≡ lowest l.t l.n (can_transfer (edge l.adjacency) l.a l.b))

abbrev pub decreases-loop-t : goal.decreases-loop-t
decreases-loop-t l = l.n - l.t
