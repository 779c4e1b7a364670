-- `edge_lists::put_row` meets its contract: the edges up to w are written.
use mathlib.Core.Path.{refl}
use native.Mathlib.Omega.{arith}
use lib.ListN.{length, get_or, length-append}
use lib.Seq.{length-sets}
use Rattle.finite.proofs.Fold.{cat_to-more, cat_to-part, sets-append}
use Rattle.edge_lists.specs.EdgeList.{edge_bytes}
use Rattle.edge_lists.proofs.Listing.{row_starts}
use Rattle.edge_lists.proofs.put_row.Goals as goal

pub loop-w-init : goal.loop-w-init
loop-w-init c =
    let a = c.args in
    rw (row_starts (λ x. get_or a.row.now x 0) a.v) (omega arith, refl)

pub put_edge-a-requires : goal.put_edge-a-requires
put_edge-a-requires c =
    let a = c.args in
    let m = cat_to-part (edge_bytes (λ x. get_or a.row.now x 0) a.v) (length a.row.now) c.loop-w.w (omega arith) in
    rw (c.loop-w.invariant.1, length-sets) (omega arith)

pub loop-w-preserved : goal.loop-w-preserved
loop-w-preserved c = (
  simp (cat_to-more, length-append) (omega arith),
  simp (cat_to-more, sets-append) (rw (← c.loop-w.invariant.1, ← c.loop-w.invariant.0) c.put_edge-a.ensures.output_after),
)
