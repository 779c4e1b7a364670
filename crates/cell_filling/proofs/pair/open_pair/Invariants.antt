-- `cell_filling::pair::open_pair` meets its contract: what is left to search has the answer of the whole.
use mathlib.Core.Path.{◌≡◌}
use Rattle.finite.specs.Range.{lowest}
use Rattle.cell_filling.specs.Inner.Search.{has_column, Searchable}
use Rattle.cell_filling.proofs.pair.open_pair.Given as goal

abbrev pub invariant-loop-row : goal.invariant-loop-row
invariant-loop-row l = Searchable l.adjacency l.cell l.row l.from
    × (lowest l.v l.cell.rows.to (has_column l.adjacency l.cell) ≡ lowest l.row l.cell.rows.to (has_column l.adjacency l.cell))
