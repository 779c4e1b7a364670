-- `joining::relieve` meets its contract: the degree of a tells whether it is saturated.
use Rattle.switching.proofs.Substitute.{room_in, full_in}
use Rattle.joining.proofs.relieve.Goals as goal

pub returns-then-degrees-v : goal.returns-then-degrees-v
returns-then-degrees-v c =
    let p = c.requires in
    let room = room_in p.0 p.1 p.2 (rw c.class_degree.ensures at c.if-degrees-v.true) in
    record { value = rw room; adjacency_after = rw room; degrees_after = rw room p.2 }

pub neighbor_switch-requires : goal.neighbor_switch-requires
neighbor_switch-requires c =
    let p = c.requires in
    (p.0, p.1, p.2, full_in p.0 p.1 p.2 (rw c.class_degree.ensures at c.if-degrees-v.false))

pub returns : goal.returns
returns c =
    let p = c.requires in
    let full = full_in p.0 p.1 p.2 (rw c.class_degree.ensures at c.if-degrees-v.false) in
    record {
      value = rw (full, c.neighbor_switch.ensures.value);
      adjacency_after = rw full c.neighbor_switch.ensures.adjacency_after;
      degrees_after = rw full c.neighbor_switch.ensures.degrees_after;
    }
