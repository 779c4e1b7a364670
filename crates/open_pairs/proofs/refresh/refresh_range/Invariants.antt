-- `open_pairs::refresh::refresh_range` meets its contract: before row v, the rows passed are counted anew.
use mathlib.Core.Path.{◌≡◌}
use Rattle.open_pairs.specs.Inner.Refresh.{refresh_range}
use Rattle.open_pairs.proofs.refresh.refresh_range.Given as goal

abbrev pub invariant-loop-v : goal.invariant-loop-v
invariant-loop-v l = l.counts ≡ refresh_range l.n l.classes l.adjacency l.full l.from l.v l.initial.counts
