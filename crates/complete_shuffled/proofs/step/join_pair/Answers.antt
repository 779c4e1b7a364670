-- `complete_shuffled::step::join_pair` meets its contract.
use mathlib.Core.Path.{refl, ◌∙◌}
use Rattle.complete_shuffled.proofs.Unsaturated.{class_end, end_placed, lows_set, lows_stay}
use Rattle.complete_shuffled.proofs.step.join_pair.Goals as goal

pub low_of-row-requires : goal.low_of-row-requires
low_of-row-requires c =
    let kd = rw (← c.requires.4) at (c.requires.0.target.classed _ c.requires.0.pair.first) in
    (kd, class_end c.requires.3 _ kd)

pub low_of-column-requires : goal.low_of-column-requires
low_of-column-requires c =
    let ld = rw (← c.requires.5) at (c.requires.0.target.classed _ c.requires.0.pair.second) in
    (ld, class_end c.requires.3 _ ld)

pub join-joined-requires : goal.join-joined-requires
join-joined-requires c =
    let kd = rw (← c.requires.4) at (c.requires.0.target.classed _ c.requires.0.pair.first) in
    let ld = rw (← c.requires.5) at (c.requires.0.target.classed _ c.requires.0.pair.second) in
    let once = rw (← c.low_of-row.ensures.low_after) at (lows_set c.requires.3 c.requires.2 c.requires.1 _ kd) in (
      c.requires.0,
      c.requires.1,
      end_placed c.requires.3 c.requires.2 c.requires.1 _ kd _ _ _ _ refl c.requires.4 c.low_of-row.ensures.value,
      end_placed c.requires.3 once c.requires.1 _ ld _ _ _ _ refl c.requires.5 c.low_of-column.ensures.value,
    )

pub returns : goal.returns
returns c =
    let kd = rw (← c.requires.4) at (c.requires.0.target.classed _ c.requires.0.pair.first) in
    let ld = rw (← c.requires.5) at (c.requires.0.target.classed _ c.requires.0.pair.second) in
    let once = rw (← c.low_of-row.ensures.low_after) at (lows_set c.requires.3 c.requires.2 c.requires.1 _ kd) in
    let twice = rw (← c.low_of-column.ensures.low_after) at (lows_set c.requires.3 once c.requires.1 _ ld) in
    record {
      value = c.both_reliefs.ensures ∙ c.join-joined.ensures.w_value.0;
      adjacency_after = c.join-joined.ensures.adjacency_after;
      degrees_after = c.join-joined.ensures.degrees_after;
      lows = lows_stay c.requires.3 twice c.requires.0;
    }
