-- `table_records::put_cells` meets its contract: after the turn for k the records of the rows up to k are written.
use mathlib.Core.Path.{◌≡◌}
use Prim.Native.Nat.{◌+◌, ◌*◌, ◌≤◌}
use lib.ListN.{length}
use lib.Seq.{sets}
use Rattle.finite.specs.Range.{cat_to}
use Rattle.graph.specs.Tests.{most_classes}
use Rattle.table.specs.Block.{record_size}
use Rattle.table.specs.Inner.Cells.{matrix_of}
use Rattle.table_records.specs.Records.{cell_record}
use Rattle.table_records.proofs.put_cells.Given as goal

abbrev pub invariant-loop-k : goal.invariant-loop-k
invariant-loop-k l = (l.k ≤ most_classes)
    × (l.a ≡ l.at + length (cat_to l.k (λ k. cat_to most_classes (cell_record (matrix_of l.cells) k))))
    × (l.a ≤ l.at + record_size * most_classes * l.k)
    × (l.out ≡ sets l.initial.out l.at (cat_to l.k (λ k. cat_to most_classes (cell_record (matrix_of l.cells) k))))
