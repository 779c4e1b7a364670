-- `layout::edges_wanted` meets its contract: after k turns sum is that of the first k classes.
use mathlib.Core.Path.{◌≡◌}
use Prim.Native.Nat.{◌≤◌, ◌*◌}
use Rattle.finite.specs.Range.{sum_to}
use Rattle.graph.specs.Tests.{most_classes, class_degree}
use Rattle.layout.specs.Layout.{most_vertices}
use Rattle.layout.specs.Inner.Arrays.{count_in}
use Rattle.layout.proofs.edges_wanted.Given as goal

abbrev pub invariant-loop-k : goal.invariant-loop-k
invariant-loop-k l = (l.k ≤ most_classes) × (l.sum ≡ sum_to l.k (λ k. count_in l.counts k * class_degree k)) × (l.sum ≤ l.k * (most_vertices * most_classes))
