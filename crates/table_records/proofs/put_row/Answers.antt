-- `table_records::put_row` meets its contract: after the turn for l the records up to cell (k, l) are written.
use mathlib.Core.Path.{◌≡◌, refl}
use lib.ListN.{length-append}
use borrow.Author.Tests.{le-leb}
use Rattle.finite.proofs.Fold.{cat_to-more, sets-append}
use Rattle.table.specs.Inner.Cells.{matrix_of}
use Rattle.table_records.specs.Records.{count_record, cell_record}
use Rattle.table_records.proofs.Records.{row_starts}
use native.Mathlib.Omega.{arith}
use Rattle.table_records.proofs.put_row.Goals as goal

pub loop-l-init : goal.loop-l-init
loop-l-init c = rw (row_starts (matrix_of c.args.cells.now) c.args.k) (omega arith, omega arith, omega arith, omega arith, refl)

pub loop-l-preserved : goal.loop-l-preserved
loop-l-preserved c =
    let T = matrix_of c.args.cells.now in
    let more = cat_to-more (cell_record T c.args.k) c.loop-l.l in
    let one : cell_record T c.args.k c.loop-l.l ≡ count_record c.args.k c.loop-l.l c.upper_cell.result =
    rw (le-leb c.args.k c.loop-l.l c.loop-l.invariant.0, c.upper_cell.ensures.0) in (
      omega arith,
      omega arith,
      rw (more, one, length-append) (omega arith),
      omega arith,
      rw (more, one, sets-append, ← c.loop-l.invariant.4, ← c.loop-l.invariant.2) c.put_record-a.ensures.out_after,
    )
