-- `cell_filling::cell_step` meets its contract.
use mathlib.Core.Path.{refl, ◌∙◌}
use native.Mathlib.Omega.{arith}
use Rattle.progress.proofs.ValidRuns.{join-recordable}
use Rattle.cell_filling.proofs.OneJoin.{step_searchable, step_joinable, step_room, step_ran, row_placed, column_placed, step_resumes}
use Rattle.cell_filling.proofs.cell_step.Goals as goal

pub open_pair-pair-requires : goal.open_pair-pair-requires
open_pair-pair-requires c = (c.requires.0.is_valid.filling.sized, step_searchable c.requires.0)

pub join-done-requires : goal.join-done-requires
join-done-requires c =
    let e = c.open_pair-pair.ensures in
    let ex = rw c.class_degree.ensures at c.advance-v.ensures in
    let ey = rw c.class_degree-2.ensures at c.advance-w.ensures in (
      step_joinable c.requires.0 _ _ e.0 e.1,
      c.requires.0.degrees_right,
      row_placed c.requires.0 c.requires.1 _ _ e.0 e.1 _ _ ex ey,
      column_placed c.requires.0 c.requires.1 _ _ e.0 e.1 _ _ ex ey,
    )

pub overflow_add-pair : goal.overflow_add-pair
overflow_add-pair c =
    let joinable = step_joinable c.requires.0 _ _ c.open_pair-pair.ensures.0 c.open_pair-pair.ensures.1 in
    omega (arith, joinable.pair.second, c.requires.0.is_valid.filling.few)

pub record_join-sum-requires : goal.record_join-sum-requires
record_join-sum-requires c =
    let joinable = step_joinable c.requires.0 _ _ c.open_pair-pair.ensures.0 c.open_pair-pair.ensures.1 in
    let made = c.both_reliefs-made.ensures ∙ c.join-done.ensures.w_value.0 in
    join-recordable c.args.output.now c.requires.0.is_valid (step_room c.requires.0) joinable made

pub returns : goal.returns
returns c =
    let e = c.open_pair-pair.ensures in
    let ex = rw c.class_degree.ensures at c.advance-v.ensures in
    let ey = rw c.class_degree-2.ensures at c.advance-w.ensures in
    let sum = c.record_join-sum.ensures.value.0 in
    let joined = c.join-done.ensures.adjacency_after in
    let made = c.both_reliefs-made.ensures ∙ c.join-done.ensures.w_value.0 in
    let freed = c.cut_off.ensures ∙ c.join-done.ensures.w_value.1 in
    record {
      totals_after = rw sum (
        step_ran c.requires.0 _ _ e.0 e.1 made _ _ _ refl refl c.record_join-sum.ensures.output_after joined,
        step_resumes c.requires.0 _ _ e.0 e.1 _ _ ex ey _ _ _ joined freed c.min-next.ensures,
      );
      wrote_records = c.record_join-sum.ensures.value.1;
      degrees_after = rw joined c.join-done.ensures.degrees_after;
    }
