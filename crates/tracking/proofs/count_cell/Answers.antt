-- `tracking::count_cell` meets its contract: a cell that the table has nothing in has nothing, and no other has more than the table.
use mathlib.Core.Path.{◌≡◌, sym, ◌∙◌}
use native.Mathlib.Omega.{arith}
use Rattle.tracking.specs.Inner.Track.{cell_has}
use Rattle.tracking.proofs.Cells.{class_bounds, cell_block, cell_sum, cell-most, counted-full, counted-short}
use Rattle.tracking.proofs.count_cell.Goals as goal
use Rattle.tracking.proofs.count_cell.Goals.{then-want-gt0, else-want-gt0}

pub block_sum-sum-requires : goal.block_sum-sum-requires
block_sum-sum-requires c =
    let p = c.requires in
    (p.0.sized, cell_block p.0 c.args.k c.args.l p.2 p.3)

pub overflow_cast-have : goal.overflow_cast-have
overflow_cast-have c =
    let p = c.requires in
    let u = c.upper_cell-want.ensures in
    let m = cell-most p.0 c.args.k c.args.l p.2 p.3 in
    elim c.if-want-gt0.branch [
      | then-want-gt0 w ↦ omega (arith, w.sum-is, w.block_sum-sum.ensures, cell_sum p.0 c.args.k c.args.l p.2 p.3, m, u)
      | else-want-gt0 w ↦ omega (arith, w.sum-is)
    ]

pub mark_full-requires : goal.mark_full-requires
mark_full-requires c =
    let p = c.requires in
    let r = class_bounds p.0.arranged c.args.l p.3 in
    (p.1.scannable.flags, omega (arith, p.2, p.3), r.0, omega (arith, r.1, p.0.arranged.few))

pub returns-then-sum-want : goal.returns-then-sum-want
returns-then-sum-want c =
    let p = c.requires in
    let u = c.upper_cell-want.ensures in
    let e : c.if-want-gt0.sum ≡ cell_has c.args.plan.now.n c.args.plan.now.starts.now c.args.adjacency.now c.args.k c.args.l =
    elim c.if-want-gt0.branch [
      | then-want-gt0 w ↦ w.sum-is ∙ w.block_sum-sum.ensures ∙ cell_sum p.0 c.args.k c.args.l p.2 p.3
      | else-want-gt0 w ↦ omega (arith, w.sum-is, w.if-want-gt0.false, u, cell-most p.0 c.args.k c.args.l p.2 p.3)
    ]
    in
    rw c.mark_full.ensures (counted-full p.0 c.args.k c.args.l p.2 p.3 p.1 c.if-want-gt0.sum e (c.if-sum-want.true ∙ u.0))

pub returns-else-sum-want : goal.returns-else-sum-want
returns-else-sum-want c =
    let p = c.requires in
    let u = c.upper_cell-want.ensures in
    let e : c.if-want-gt0.sum ≡ cell_has c.args.plan.now.n c.args.plan.now.starts.now c.args.adjacency.now c.args.k c.args.l =
    elim c.if-want-gt0.branch [
      | then-want-gt0 w ↦ w.sum-is ∙ w.block_sum-sum.ensures ∙ cell_sum p.0 c.args.k c.args.l p.2 p.3
      | else-want-gt0 w ↦ omega (arith, w.sum-is, w.if-want-gt0.false, u, cell-most p.0 c.args.k c.args.l p.2 p.3)
    ]
    in
    counted-short p.0 c.args.k c.args.l p.2 p.3 p.1 c.if-want-gt0.sum e (λ q. c.if-sum-want.false (q ∙ sym u.0))
