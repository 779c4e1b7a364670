-- `layout::count_classes` meets its contract: after k turns the counts of the classes below k are filled in.
use mathlib.Core.Path.{◌≡◌}
use Prim.Native.Nat.{◌≤◌}
use lib.ListN.{replicate}
use Rattle.finite.specs.Inner.Fill.{fill_to}
use Rattle.graph.specs.Tests.{most_classes, class_count}
use Rattle.layout.specs.Inner.Arrays.{table_in}
use Rattle.layout.proofs.count_classes.Given as goal

abbrev pub invariant-loop-k : goal.invariant-loop-k
invariant-loop-k l = (1 ≤ l.k) × (l.k ≤ most_classes) × (l.counts ≡ fill_to l.k (class_count (table_in l.cells l.isolated)) (replicate most_classes 0))
