-- `layout::vertex_count` meets its contract: after k turns n is the sum of the first k counts.
use mathlib.Core.Path.{◌≡◌}
use Prim.Native.Nat.{◌≤◌, ◌*◌}
use Rattle.finite.specs.Range.{sum_to}
use Rattle.graph.specs.Tests.{most_classes}
use Rattle.table.specs.Inner.Cells.{cell_sum_most}
use Rattle.layout.specs.Inner.Arrays.{count_in}
use Rattle.layout.proofs.vertex_count.Given as goal

abbrev pub invariant-loop-count : goal.invariant-loop-count
invariant-loop-count l = (l.count-index ≤ most_classes) × (l.n ≡ sum_to l.count-index (count_in l.counts)) × (l.n ≤ l.count-index * (most_classes * cell_sum_most))
