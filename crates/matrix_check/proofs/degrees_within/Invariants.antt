-- `matrix_check::degrees_within` meets its contract: the flag is the test of the vertices passed.
use mathlib.Core.Path.{◌≡◌}
use Prim.Native.Nat.{◌≤◌}
use lib.Dec.{leb}
use lib.ListN.{get_or}
use Rattle.finite.specs.Range.{all_to}
use Rattle.graph.specs.Tests.{class_degree}
use Rattle.layout.specs.Inner.Arrays.{class_in}
use Rattle.matrix_check.proofs.degrees_within.Given as goal

abbrev pub invariant-loop-v : goal.invariant-loop-v
invariant-loop-v l = (l.v ≤ l.n) × (l.ok ≡ all_to l.v (λ v. leb (get_or l.degrees v 0) (class_degree (class_in l.classes v))))
