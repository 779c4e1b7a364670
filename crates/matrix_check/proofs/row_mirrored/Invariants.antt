-- `matrix_check::row_mirrored` meets its contract: the flag is the test of the pairs passed.
use mathlib.Core.Path.{◌≡◌}
use mathlib.Core.Bool.{◌&&◌}
use Prim.Native.Nat.{◌≤◌}
use lib.Dec.{leb, eqb}
use Rattle.finite.specs.Range.{all_to}
use Rattle.adjacency.specs.Adjacency.{edge}
use Rattle.matrix_check.proofs.row_mirrored.Given as goal

abbrev pub invariant-loop-w : goal.invariant-loop-w
invariant-loop-w l = (l.w ≤ l.v) × (l.ok ≡ all_to l.w (λ w. leb (edge l.adjacency l.v w) 1 && eqb (edge l.adjacency l.v w) (edge l.adjacency w l.v)))
