-- `layout::row_fits` meets its contract: the flag is the test of the cells passed.
use native.Mathlib.Nat.{mul-le-mul}
use native.Mathlib.Omega.{arith}
use Rattle.table.specs.Inner.Cells.{matrix_of}
use Rattle.layout.proofs.Counted.{counted-degree, counts_most}
use Rattle.layout.proofs.Overfull.{fits-first, fits_next}
use Rattle.layout.proofs.row_fits.Goals as goal

pub overflow_mul-ok : goal.overflow_mul-ok
overflow_mul-ok c =
    let h = counts_most c.args.cells.now c.args.counts.now c.requires.2 c.requires.3 c.args.k in
    omega (arith, mul-le-mul h h)

pub loop-l-init : goal.loop-l-init
loop-l-init c =
    let e = counted-degree c.args.cells.now c.args.counts.now c.requires.3 in
    (omega arith, omega arith, rw (fits-first (matrix_of c.args.cells.now) c.args.k _ c.requires.0 e, c.upper_cell.ensures.0))

pub overflow_mul-ok-in-loop-l : goal.overflow_mul-ok-in-loop-l
overflow_mul-ok-in-loop-l c =
    let h = counts_most c.args.cells.now c.args.counts.now c.requires.2 c.requires.3 in
    omega (arith, mul-le-mul (h c.args.k) (h c.loop-l.l))

pub loop-l-preserved : goal.loop-l-preserved
loop-l-preserved c =
    let e = counted-degree c.args.cells.now c.args.counts.now c.requires.3 in (
      omega arith,
      omega arith,
      rw (fits_next (matrix_of c.args.cells.now) c.args.k _ c.requires.0 e c.loop-l.l c.loop-l.invariant.0, c.loop-l.invariant.2, c.upper_cell-in-loop-l.ensures.0),
    )
