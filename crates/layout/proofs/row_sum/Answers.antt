-- `layout::row_sum` meets its contract: after l turns, of either loop, sum is that of the first l cells.
use mathlib.Core.Path.{◌∙◌}
use native.Mathlib.Omega.{arith}
use Rattle.finite.proofs.Sum.{sum_to-none, sum_to-more}
use Rattle.table.proofs.Matrix.{matrix_most, matrix_sym}
use Rattle.layout.proofs.row_sum.Goals as goal

pub loop-l-init : goal.loop-l-init
loop-l-init c = simp sum_to-none (omega arith)

pub loop-l-preserved : goal.loop-l-preserved
loop-l-preserved c =
    let m = matrix_most _ c.args.cells.now c.requires.1 c.args.k c.loop-l.l in
    let e = c.upper_cell-sum.ensures.0 ∙ matrix_sym c.args.cells.now c.loop-l.l c.args.k in
    simp sum_to-more (omega arith)

pub loop-l-2-preserved : goal.loop-l-2-preserved
loop-l-2-preserved c =
    let m = matrix_most _ c.args.cells.now c.requires.1 c.args.k c.loop-l-2.l in
    simp sum_to-more (omega arith)
