-- `matrix_check::is_mirrored` meets its contract: the rows passed are mirrored.
use mathlib.Core.Path.{◌≡◌}
use mathlib.Core.Bool.{true}
use Prim.Native.Nat.{◌≤◌}
use Rattle.finite.specs.Range.{all_to}
use Rattle.adjacency.specs.Adjacency.{row_mirrored}
use Rattle.matrix_check.proofs.is_mirrored.Given as goal

abbrev pub invariant-loop-v : goal.invariant-loop-v
invariant-loop-v l = (l.v ≤ l.n) × (all_to l.v (row_mirrored l.adjacency) ≡ true)
