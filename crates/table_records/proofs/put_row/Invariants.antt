-- `table_records::put_row` meets its contract: after the turn for l the records up to cell (k, l) are written.
use mathlib.Core.Path.{◌≡◌}
use Prim.Native.Nat.{◌+◌, ◌*◌, ◌≤◌}
use lib.ListN.{length}
use lib.Seq.{sets}
use Rattle.finite.specs.Range.{cat_to}
use Rattle.graph.specs.Tests.{most_classes}
use Rattle.table.specs.Block.{record_size}
use Rattle.table.specs.Inner.Cells.{matrix_of}
use Rattle.table_records.specs.Records.{cell_record}
use Rattle.table_records.proofs.put_row.Given as goal

abbrev pub invariant-loop-l : goal.invariant-loop-l
invariant-loop-l l = (l.k ≤ l.l) × (l.l ≤ most_classes)
    × (l.a ≡ l.at + length (cat_to l.l (cell_record (matrix_of l.cells) l.k)))
    × (l.a ≤ l.at + record_size * l.l)
    × (l.out ≡ sets l.initial.out l.at (cat_to l.l (cell_record (matrix_of l.cells) l.k)))
