-- `cell_filling::fill_steps` meets its contract: after i turns i joins are made, and the cursor has passed only what is done.
use mathlib.Core.Path.{sym}
use Rattle.finite.proofs.Fold.{fold_to-none, fold_to-after}
use Rattle.classes.specs.Inner.Block.{class_from}
use Rattle.completion.specs.Inner.Cellwise.{cell_step}
use Rattle.progress.proofs.Output.{wrote_none, wrote_then}
use Rattle.cell_filling.proofs.Joins.{start_resumes, fill_steppable}
use Rattle.cell_filling.proofs.fill_steps.Goals as goal

pub loop-init : goal.loop-init
loop-init c =
    let a = c.args in
    let start = start_resumes a.n (class_from a.starts.now) a.adjacency.now a.cell c.requires.0.ranged in
    (sym (fold_to-none _ _), c.requires.0.degrees_right, start, wrote_none _ _)

pub cell_step-step-requires : goal.cell_step-step-requires
cell_step-step-requires c = (
  fill_steppable c.requires.0 c.loop.counter _ c.loop.invariant.0 c.loop-test.true _ _ c.loop.invariant.2 c.loop.invariant.1 c.loop.invariant.3.sized,
  c.requires.1,
)

pub loop-preserved : goal.loop-preserved
loop-preserved c =
    let a = c.args in (
      fold_to-after (λ i. cell_step a.n (class_from a.starts.now) a.cell.k a.cell.l)
          _ c.loop.counter _ _ c.loop.invariant.0 c.cell_step-step.ensures.totals_after.0,
      c.cell_step-step.ensures.degrees_after,
      c.cell_step-step.ensures.totals_after.1,
      wrote_then c.loop.invariant.3 c.cell_step-step.ensures.wrote_records,
    )
