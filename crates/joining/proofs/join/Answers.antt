-- `joining::join` meets its contract: room is made at v, then at w, and then both have room for the edge.
use Rattle.joining.proofs.Relieving.{reliefs_switches, relief_freed, placed_next, linkable, link_kept}
use Rattle.join_bytes.proofs.Joinable.{joinable_next, joinable_last, room_v, room_w}
use Rattle.joining.proofs.join.Goals as goal

pub relieve-y-requires : goal.relieve-y-requires
relieve-y-requires c =
    rw c.relieve-x.ensures.adjacency_after (
      joinable_next c.requires.0,
      placed_next c.args.v c.args.w c.requires.0 c.requires.3,
      c.relieve-x.ensures.degrees_after,
    )

pub link-requires : goal.link-requires
link-requires c =
    let j = c.requires.0 in
    let g = rw c.relieve-x.ensures.adjacency_after at c.relieve-y.ensures.adjacency_after in
    let d = rw c.relieve-x.ensures.adjacency_after at c.relieve-y.ensures.degrees_after in
    rw g (linkable (joinable_last j) d (room_v j) (room_w j))

pub returns : goal.returns
returns c =
    let j = c.requires.0 in
    let x = c.relieve-x.ensures.value in
    let e = c.relieve-x.ensures.adjacency_after in
    let y = rw e at c.relieve-y.ensures.value in
    let g = rw e at c.relieve-y.ensures.adjacency_after in
    let d = rw e at c.relieve-y.ensures.degrees_after in
    record {
      w_value = (reliefs_switches j x y, relief_freed j x);
      adjacency_after = rw g at c.link.ensures.adjacency_after;
      degrees_after = rw c.link.ensures.degrees_after (link_kept (joinable_last j) d);
    }
