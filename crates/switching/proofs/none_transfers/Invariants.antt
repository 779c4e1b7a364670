-- `switching::none_transfers` meets its contract: the flag is the test of the vertices passed.
use mathlib.Core.Path.{◌≡◌}
use Prim.Native.Nat.{◌+◌, ◌-◌, ◌≤◌}
use lib.Dec.{leb}
use Rattle.finite.specs.Range.{all_to}
use Rattle.adjacency.specs.Adjacency.{edge}
use Rattle.switching.specs.Inner.Work.{lanes}
use Rattle.switching.proofs.none_transfers.Given as goal

abbrev pub invariant-loop-i : goal.invariant-loop-i
invariant-loop-i l = (l.i ≤ lanes) × (l.none ≡ all_to l.i (λ i. leb (edge l.adjacency l.a (l.t + i)) (edge l.adjacency l.b (l.t + i))))

abbrev pub decreases-loop-i : goal.decreases-loop-i
decreases-loop-i l = lanes - l.i
