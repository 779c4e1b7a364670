-- `layout::row_sum` meets its contract: after l turns, of either loop, sum is that of the first l cells.
use mathlib.Core.Path.{◌≡◌}
use Prim.Native.Nat.{◌≤◌, ◌*◌}
use Rattle.finite.specs.Range.{sum_to}
use Rattle.graph.specs.Tests.{most_classes}
use Rattle.table.specs.Inner.Cells.{matrix_of, cell_sum_most}
use Rattle.layout.proofs.row_sum.Given as goal

abbrev pub invariant-loop-l : goal.invariant-loop-l
invariant-loop-l l = (l.l ≤ l.k) × (l.sum ≡ sum_to l.l (matrix_of l.cells l.k)) × (l.sum ≤ l.l * cell_sum_most)

abbrev pub invariant-loop-l-2 : goal.invariant-loop-l-2
invariant-loop-l-2 l = (l.k ≤ l.l) × (l.l ≤ most_classes) × (l.sum ≡ sum_to l.l (matrix_of l.cells l.k)) × (l.sum ≤ l.l * cell_sum_most)
