-- `edge_list::put_list` meets its contract: the rows up to v are written.
use mathlib.Core.Path.{refl}
use native.Mathlib.Nat.{zero-add, add-sub_cancel_left}
use native.Mathlib.Omega.{arith}
use lib.ListN.{length-append}
use lib.Seq.{length-sets}
use Rattle.finite.proofs.Fold.{cat_to-none, cat_to-more, cat_to-part, sets-append}
use Rattle.adjacency.specs.Adjacency.{edge}
use Rattle.edge_lists.specs.EdgeList.{row_bytes}
use Rattle.edge_list.proofs.List.{row_length, row-bytes}
use Rattle.edge_list.proofs.put_list.Goals as goal

pub loop-v-init : goal.loop-v-init
loop-v-init c = rw cat_to-none (omega arith, refl, refl)

pub put_row-a-requires : goal.put_row-a-requires
put_row-a-requires c =
    let g = c.args.adjacency.now in
    let n = c.args.n in
    let v = c.loop-v.v in
    let m = cat_to-part (λ x. row_bytes n (edge g x) x) n v c.loop-v-test.true in
    rw (
      add-sub_cancel_left,
      row-bytes g n v c.requires.0 c.requires.1 c.loop-v-test.true,
      row_length g n v c.requires.0 c.requires.1 c.loop-v-test.true,
      c.loop-v.invariant.2,
      length-sets,
    )
    (c.loop-v-test.true, c.requires.1, omega arith)

pub loop-v-preserved : goal.loop-v-preserved
loop-v-preserved c =
    let r = row-bytes c.args.adjacency.now c.args.n c.loop-v.v c.requires.0 c.requires.1 c.loop-v-test.true in
    let e = rw (add-sub_cancel_left, r) at c.put_row-a.ensures.value in
    let o = rw (add-sub_cancel_left, r) at c.put_row-a.ensures.output_after in (
      omega arith,
      simp (cat_to-more, length-append) (omega (arith, e)),
      simp (cat_to-more, sets-append, zero-add) (rw (← c.loop-v.invariant.2, ← c.loop-v.invariant.1) o),
    )
