-- `switching::skip_transfers` meets its contract: no vertex passed can be t.
use mathlib.Core.Path.{◌≡◌}
use mathlib.Core.Bool.{false}
use Prim.Native.Nat.{ℕ, ◌-◌, ◌≤◌, ◌<◌}
use Rattle.graph.specs.Switch.{can_transfer}
use Rattle.adjacency.specs.Adjacency.{edge}
use Rattle.switching.proofs.skip_transfers.Given as goal

abbrev pub invariant-loop-t : goal.invariant-loop-t
invariant-loop-t l = (l.t ≤ l.n) × ((i : ℕ) → i < l.t → can_transfer (edge l.adjacency) l.a l.b i ≡ false)

abbrev pub decreases-loop-t : goal.decreases-loop-t
decreases-loop-t l = l.n - l.t
