-- `matrix_check::is_zero_outside` meets its contract: the flag is the test of the rows passed.
use mathlib.Core.Path.{◌≡◌}
use Prim.Native.Nat.{◌≤◌, ◌+◌, ◌*◌, ◌-◌}
use lib.ListN.{take, drop}
use Rattle.finite.specs.Range.{all_to}
use Rattle.slices.specs.Slices.{all_zero}
use Rattle.adjacency.specs.Adjacency.{side}
use Rattle.matrix_check.proofs.is_zero_outside.Given as goal

abbrev pub invariant-loop-v : goal.invariant-loop-v
invariant-loop-v l = (l.v ≤ l.n) × (l.ok ≡ all_to l.v (λ v. all_zero (take (side - l.n) (drop (v * side + l.n) l.adjacency))))
