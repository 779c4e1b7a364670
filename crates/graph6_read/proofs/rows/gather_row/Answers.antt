-- `graph6_read::rows::gather_row` meets its contract: the bits of the columns before w are gathered.
use native.Mathlib.Omega.{arith}
use lib.ListN.{length-set}
use Rattle.graph6_read.proofs.Gathering.{row_more, place-low}
use Rattle.graph6_read.proofs.rows.gather_row.Goals as goal

pub bounds-bits-from : goal.bounds-bits-from
bounds-bits-from c = place-low c.args.n c.args.v c.loop-w.w _ c.requires.0 (omega arith) c.loop-w-test.true c.from.ensures

pub loop-w-preserved : goal.loop-w-preserved
loop-w-preserved c = (
  row_more c.args.n c.args.v c.loop-w.w _ c.requires.0 (omega arith) c.loop-w-test.true c.from.ensures
      c.args.bits.now c.loop-w.row c.loop-w.invariant.1 c.loop-w.invariant.0,
  rw length-set c.loop-w.invariant.1,
)
