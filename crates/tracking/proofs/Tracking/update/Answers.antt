-- `tracking::Tracking::update` meets its contract: the flags and counts that the branches leave are the two cases of the definitions.
use mathlib.Core.Path.{◌∙◌}
use Prim.Native.Nat.{◌<◌}
use native.Mathlib.Omega.{arith}
use Rattle.graph.specs.Tests.{most_classes}
use Rattle.tracking.proofs.Cells.{class_bounds, marked_scannable}
use Rattle.tracking.proofs.Tracking.update.Goals as goal
use Rattle.tracking.proofs.Tracking.update.Goals.{then-add_to_cell, else-add_to_cell}

pub mark_full-requires : goal.mark_full-requires
mark_full-requires c =
    let p = c.requires.scannable in
    let r = class_bounds p.2 c.args.l c.requires.v_lt_n.2 in
    (p.0.flags, omega (arith, c.requires.v_lt_n), r.0, omega (arith, r.1, p.2.few))

pub refresh_range-requires : goal.refresh_range-requires
refresh_range-requires c =
    let p = c.requires.scannable in
    let k : c.args.k < most_classes = omega (arith, c.requires.v_lt_n) in
    let r = class_bounds p.2 c.args.k k in
    (rw c.mark_full.ensures (marked_scannable p.2 c.args.l c.requires.v_lt_n.2 p.0 c.args.k k), p.1, r.0, r.1)

pub refresh_switches-requires : goal.refresh_switches-requires
refresh_switches-requires c =
    let p = c.requires.scannable in
    let k : c.args.k < most_classes = omega (arith, c.requires.v_lt_n) in
    elim c.if-add_to_cell.branch [
      | then-add_to_cell w ↦ (
        rw (w.full-is ∙ w.mark_full.ensures) (marked_scannable p.2 c.args.l c.requires.v_lt_n.2 p.0 c.args.k k),
        p.1,
        p.3,
      )
      | else-add_to_cell w ↦ (rw w.full-is p.0, p.1, p.3)
    ]
