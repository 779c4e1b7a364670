-- `graph6_read::rows::put_rows` meets its contract: the rows up to v are written.
use mathlib.Core.Path.{refl}
use Prim.Native.Nat.{◌≤◌}
use native.Mathlib.Nat.{zero-add}
use native.Mathlib.Omega.{arith}
use lib.ListN.{length, length-append}
use lib.Seq.{length-sets}
use Rattle.finite.proofs.Fold.{cat_to-none, cat_to-more, cat_to-part, sets-append}
use Rattle.edge_lists.specs.EdgeList.{row_bytes}
use Rattle.graph6_read.specs.Inner.Bits.{rows_of}
use Rattle.graph6_read.proofs.Gathering.{row_length, row-bytes}
use Rattle.graph6_read.proofs.rows.put_rows.Goals as goal

pub loop-v-init : goal.loop-v-init
loop-v-init c = rw cat_to-none (omega arith, refl, refl, refl)

pub put_row-a-requires : goal.put_row-a-requires
put_row-a-requires c =
    let g = c.gather_row.ensures in
    let bits = c.args.bits.now in
    let n = c.args.n in
    let v = c.loop-v.v in
    let m = cat_to-part (λ x. row_bytes n (rows_of bits x) x) n v c.loop-v-test.true in
    let row = c.gather_row.new.row in
    let room : n ≤ length row = omega (arith, g.1) in
    rw (row-bytes bits row n v room g.0, row_length bits row n v room g.0, c.loop-v.invariant.2, length-sets)
    (c.loop-v-test.true, c.requires.0, omega arith)

pub loop-v-preserved : goal.loop-v-preserved
loop-v-preserved c =
    let g = c.gather_row.ensures in
    let bits = c.args.bits.now in
    let n = c.args.n in
    let v = c.loop-v.v in
    let row = c.gather_row.new.row in
    let room : n ≤ length row = omega (arith, g.1) in
    let a = rw (row-bytes bits row n v room g.0) at c.put_row-a.ensures.value in
    let e = rw (row-bytes bits row n v room g.0) at c.put_row-a.ensures.output_after in (
      omega arith,
      simp (cat_to-more, length-append) (omega (arith, a)),
      simp (cat_to-more, sets-append, zero-add) (rw (← c.loop-v.invariant.2, ← c.loop-v.invariant.1) e),
      g.1,
    )
