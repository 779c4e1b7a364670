-- `open_pairs::column::column_at` meets its contract: what is left of the position is what the free columns passed leave of it.
use mathlib.Core.Path.{◌≡◌}
use Prim.Native.Nat.{◌+◌, ◌<◌}
use Rattle.open_pairs.specs.Inner.Rows.{free_to}
use Rattle.open_pairs.proofs.column.column_at.Given as goal

abbrev pub invariant-loop-w : goal.invariant-loop-w
invariant-loop-w l = (l.v < l.w) × (free_to l.adjacency l.full l.k l.v l.w + l.rest ≡ l.position)
