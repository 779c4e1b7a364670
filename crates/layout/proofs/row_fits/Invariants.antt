-- `layout::row_fits` meets its contract: the flag is the test of the cells passed.
use mathlib.Core.Path.{◌≡◌}
use Prim.Native.Nat.{◌≤◌, ◌<◌}
use Rattle.finite.specs.Range.{all_to}
use Rattle.graph.specs.Tests.{most_classes}
use Rattle.table.specs.Inner.Cells.{matrix_of}
use Rattle.layout.specs.Inner.Arrays.{cell_fits}
use Rattle.layout.proofs.row_fits.Given as goal

abbrev pub invariant-loop-l : goal.invariant-loop-l
invariant-loop-l l = (l.k < l.l) × (l.l ≤ most_classes) × (l.ok ≡ all_to l.l (cell_fits (matrix_of l.cells) l.k))
