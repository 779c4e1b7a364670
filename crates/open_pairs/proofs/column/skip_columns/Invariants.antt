-- `open_pairs::column::skip_columns` meets its contract: what is left of the position is what the free columns passed leave of it.
use mathlib.Core.Path.{◌≡◌}
use Prim.Native.Nat.{◌+◌, ◌-◌, ◌≤◌, ◌<◌}
use Rattle.open_pairs.specs.Inner.Rows.{free_to}
use Rattle.open_pairs.proofs.column.skip_columns.Given as goal

abbrev pub invariant-loop-w : goal.invariant-loop-w
invariant-loop-w l = (l.v < l.w) × (l.w ≤ l.n) × (free_to l.adjacency l.full l.k l.v l.w + l.rest ≡ l.position)

abbrev pub decreases-loop-w : goal.decreases-loop-w
decreases-loop-w l = l.n - l.w
