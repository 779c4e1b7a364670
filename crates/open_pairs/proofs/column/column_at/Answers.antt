-- `open_pairs::column::column_at` meets its contract: what is left of the position is what the free columns passed leave of it.
use native.Mathlib.Omega.{arith}
use Rattle.open_pairs.proofs.Columns.{free_next}
use Rattle.open_pairs.proofs.column.column_at.Goals as goal
use Rattle.open_pairs.proofs.column.column_at.Goals.{then-is_free+else-rest-eq0, else-is_free}

pub loop-w-preserved : goal.loop-w-preserved
loop-w-preserved c =
    let x = c.args in
    let next = free_next x.adjacency.now x.full.now x.k x.v c.loop-w.w c.loop-w.invariant.0 c.is_free.result c.is_free.ensures in (
      omega arith,
      elim c.if-is_free.branch [
        | then-is_free+else-rest-eq0 b ↦ omega (arith, rw b.if-is_free.true at next)
        | else-is_free b ↦ omega (arith, rw b.if-is_free.false at next)
      ],
    )
