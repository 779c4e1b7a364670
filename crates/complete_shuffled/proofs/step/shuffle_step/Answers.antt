-- `complete_shuffled::step::shuffle_step` meets its contract.
use native.Mathlib.Omega.{arith}
use Rattle.complete_shuffled.proofs.Onward.{step_some, step_few, step_joinable, row_of, column_of, step_recordable, update_asks, step_next, step_shuffling}
use Rattle.complete_shuffled.proofs.step.shuffle_step.Goals as goal

pub pick-pair-requires : goal.pick-pair-requires
pick-pair-requires c = (c.requires.0.tracked, c.requires.0.is_valid.filling, step_some c.args.output.now c.args.done c.requires.0 c.requires.1)

pub bounds-plan-v : goal.bounds-plan-v
bounds-plan-v c = omega (arith, (step_few c.args.output.now c.args.done c.requires.0 c.requires.1 _ _ _ c.pick-pair.ensures.v_value c.pick-pair.ensures.w_value).0)

pub bounds-plan-w : goal.bounds-plan-w
bounds-plan-w c = omega (arith, (step_few c.args.output.now c.args.done c.requires.0 c.requires.1 _ _ _ c.pick-pair.ensures.v_value c.pick-pair.ensures.w_value).1)

pub join_pair-made-requires : goal.join_pair-made-requires
join_pair-made-requires c = (
  step_joinable c.args.output.now c.args.done c.requires.0 c.requires.1 _ _ _ c.pick-pair.ensures.v_value c.pick-pair.ensures.w_value,
  c.requires.0.degrees_right,
  c.requires.0.lows,
  c.requires.0.tracked.arranged,
  row_of c.args.output.now c.args.done c.requires.0 c.requires.1 _ _ _ c.pick-pair.ensures.v_value c.pick-pair.ensures.w_value c.from-k.ensures,
  column_of c.args.output.now c.args.done c.requires.0 c.requires.1 _ _ _ c.pick-pair.ensures.v_value c.pick-pair.ensures.w_value c.from-l.ensures,
)

pub record_join-totals-requires : goal.record_join-totals-requires
record_join-totals-requires c = step_recordable c.args.output.now c.args.done c.requires.0 c.requires.1 _ _ _ c.pick-pair.ensures.v_value c.pick-pair.ensures.w_value c.join_pair-made.ensures.value

pub update-requires : goal.update-requires
update-requires c =
    let asks = update_asks c.args.output.now c.args.done c.requires.0 c.requires.1 _ _ _ c.pick-pair.ensures.v_value c.pick-pair.ensures.w_value
    (row_of c.args.output.now c.args.done c.requires.0 c.requires.1 _ _ _ c.pick-pair.ensures.v_value c.pick-pair.ensures.w_value c.from-k.ensures)
    (column_of c.args.output.now c.args.done c.requires.0 c.requires.1 _ _ _ c.pick-pair.ensures.v_value c.pick-pair.ensures.w_value c.from-l.ensures)
    c.join_pair-made.ensures.adjacency_after c.join_pair-made.ensures.value in
    let joinable = step_joinable c.args.output.now c.args.done c.requires.0 c.requires.1 _ _ _ c.pick-pair.ensures.v_value c.pick-pair.ensures.w_value in
    record {
      scannable = (asks.0.0, asks.0.1, c.requires.0.tracked.arranged, asks.0.2);
      v_lt_n = (joinable.pair.first, asks.1.0, asks.1.1, asks.1.2);
    }

pub returns : goal.returns
returns c =
    let row = row_of c.args.output.now c.args.done c.requires.0 c.requires.1 _ _ _ c.pick-pair.ensures.v_value c.pick-pair.ensures.w_value c.from-k.ensures in
    let column = column_of c.args.output.now c.args.done c.requires.0 c.requires.1 _ _ _ c.pick-pair.ensures.v_value c.pick-pair.ensures.w_value c.from-l.ensures in
    let made = c.join_pair-made.ensures.value in
    let bytes = c.join_pair-made.ensures.adjacency_after in
    record {
      result_after = rw c.record_join-totals.ensures.value.0 (step_next c.args.output.now c.args.done c.requires.0 c.requires.1 _ _ _ c.pick-pair.ensures.v_value c.pick-pair.ensures.w_value row column bytes made c.record_join-totals.ensures.output_after c.next_x-stepped.ensures);
      wrote_records = c.record_join-totals.ensures.value.1;
      shuffling = rw c.record_join-totals.ensures.value.0 (step_shuffling c.args.output.now c.args.done c.requires.0 c.requires.1 _ _ _ c.pick-pair.ensures.v_value c.pick-pair.ensures.w_value row column bytes made c.record_join-totals.ensures.output_after
          c.update.ensures.have_after c.update.ensures.full_after c.update.ensures.pairs_after c.join_pair-made.ensures.lows c.join_pair-made.ensures.degrees_after);
    }
