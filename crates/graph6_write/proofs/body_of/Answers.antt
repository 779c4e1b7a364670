-- `graph6_write::body_of` meets its contract: the bits of the edges before i are added.
use mathlib.Core.Path.{sym}
use native.Mathlib.Omega.{arith}
use Rattle.finite.proofs.Fold.{fold_to-none, fold_to-after}
use Rattle.edge_lists.proofs.List.{verdict_passed, good}
use Rattle.graph6_write.proofs.Body.{place_read, place-room}
use Rattle.graph6_write.proofs.body_of.Goals as goal

pub loop-v-init : goal.loop-v-init
loop-v-init c = sym (fold_to-none _ _)

pub bounds-starts-from : goal.bounds-starts-from
bounds-starts-from c =
    let p = verdict_passed c.args.edges.now c.args.total c.requires in
    let i = c.loop-v.v-index in
    let g = good c.args.edges.now c.args.total p.well i (omega arith) in
    rw (c.from.ensures, c.edge_pairs-v-items.ensures.ends i (omega arith)) (omega (arith, g.vertex, p.few))

pub overflow_add-start : goal.overflow_add-start
overflow_add-start c =
    let p = verdict_passed c.args.edges.now c.args.total c.requires in
    let i = c.loop-v.v-index in
    let pair = c.edge_pairs-v-items.ensures.ends i (omega arith) in
    let room = place-room c.args.edges.now c.args.total p i _ _ _ (omega arith)
    c.from-start.ensures (rw pair at c.from.ensures) (rw pair at c.from-in-loop-v.ensures) c.loop-v.body c.loop-v.invariant in
    omega (arith, room.0)

pub add_bit-requires : goal.add_bit-requires
add_bit-requires c =
    let p = verdict_passed c.args.edges.now c.args.total c.requires in
    let i = c.loop-v.v-index in
    let pair = c.edge_pairs-v-items.ensures.ends i (omega arith) in
    place-room c.args.edges.now c.args.total p i _ _ _ (omega arith)
    c.from-start.ensures (rw pair at c.from.ensures) (rw pair at c.from-in-loop-v.ensures) c.loop-v.body c.loop-v.invariant

pub loop-v-preserved : goal.loop-v-preserved
loop-v-preserved c =
    let p = verdict_passed c.args.edges.now c.args.total c.requires in
    let i = c.loop-v.v-index in
    let pair = c.edge_pairs-v-items.ensures.ends i (omega arith) in
    let q = place_read c.args.edges.now c.args.total p i _ _ _ (omega arith)
    c.from-start.ensures (rw pair at c.from.ensures) (rw pair at c.from-in-loop-v.ensures) in
    fold_to-after _ _ i c.loop-v.body _ c.loop-v.invariant (rw q at c.add_bit.ensures)
