-- `table_records::put_cells` meets its contract: after the turn for k the records of the rows up to k are written.
use mathlib.Core.Path.{refl}
use mathlib.Core.List.{List}
use Prim.Native.Nat.{ℕ}
use native.Mathlib.Omega.{arith}
use lib.ListN.{length-append}
use Rattle.finite.specs.Range.{cat_to}
use Rattle.finite.proofs.Fold.{cat_to-none, cat_to-more, sets-append}
use Rattle.graph.specs.Tests.{most_classes}
use Rattle.table.specs.Inner.Cells.{matrix_of}
use Rattle.table_records.specs.Records.{cell_record}
use Rattle.table_records.proofs.put_cells.Goals as goal

pub loop-k-init : goal.loop-k-init
loop-k-init c = rw cat_to-none (omega arith, omega arith, omega arith, refl)

pub loop-k-preserved : goal.loop-k-preserved
loop-k-preserved c =
    let row : ℕ → List ℕ = λ k. cat_to most_classes (cell_record (matrix_of c.args.cells.now) k) in
    let more = cat_to-more row c.loop-k.k in (
      omega arith,
      rw (more, length-append) (omega arith),
      omega arith,
      rw (more, sets-append, ← c.loop-k.invariant.3, ← c.loop-k.invariant.1) c.put_row-a.ensures.out_after,
    )
