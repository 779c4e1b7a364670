-- `complete::fill::fill_cell` meets its contract.
use Rattle.complete.proofs.Arranged.{countable, cell_of, fillable, cell_filled}
use Rattle.complete.proofs.fill.fill_cell.Goals as goal

pub missing-m-requires : goal.missing-m-requires
missing-m-requires c =
    let a = c.args in (
      c.requires.0.is_valid.filling.sized,
      rw c.cell_at-c.ensures (countable c.requires.0 a.k a.l c.requires.1 c.requires.2),
    )

pub fill_steps-requires : goal.fill_steps-requires
fill_steps-requires c =
    let a = c.args in
    rw c.cell_at-c.ensures (
      fillable c.requires.0 a.k a.l c.requires.1 c.requires.2 c.missing-m.result (rw c.cell_at-c.ensures at c.missing-m.ensures),
      cell_of c.requires.0 a.k a.l c.requires.1 c.requires.2,
    )

pub returns-clause-result_after : goal.returns-clause-result_after
returns-clause-result_after c =
    let a = c.args in
    cell_filled c.requires.0 a.k a.l c.requires.1 c.requires.2
    c.missing-m.result (rw c.cell_at-c.ensures at c.missing-m.ensures) _ (rw c.cell_at-c.ensures at c.fill_steps.ensures.result_after)
