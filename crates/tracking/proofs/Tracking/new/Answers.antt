-- `tracking::Tracking::new` meets its contract.
use mathlib.Core.Path.{◌∙◌}
use Rattle.tracking.proofs.Begun.{tracked_first}
use Rattle.tracking.proofs.Tracking.new.Goals as goal

pub returns : goal.returns
returns c =
    let p = c.requires in
    tracked_first p.0.arranged p.1 c.count_cells.ensures (c.refresh_range.ensures ∙ rw c.none.ensures)
