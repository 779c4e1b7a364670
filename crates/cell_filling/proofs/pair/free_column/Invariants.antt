-- `cell_filling::pair::free_column` meets its contract: what is left to search has the answer of the whole.
use mathlib.Core.Path.{◌≡◌}
use Rattle.finite.specs.Range.{lowest}
use Rattle.cell_filling.specs.Inner.Cursor.{free_column}
use Rattle.cell_filling.proofs.pair.free_column.Given as goal

abbrev pub invariant-loop-w : goal.invariant-loop-w
invariant-loop-w l = lowest l.from l.to (free_column l.adjacency l.v) ≡ lowest l.w l.to (free_column l.adjacency l.v)
