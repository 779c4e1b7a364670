-- The searches of the code in a cell, over the ranges of vertices that its classes are.
-- Assumes nothing.
use Rattle.std.specs.Prelude.{◌≡◌, Bool, false, cond, List, ℕ, ◌+◌, ◌≤◌, ◌<◌, eqb, ltb}
use Rattle.finite.specs.Range.{lowest}
use Rattle.graph.specs.Tests.{most_classes}
use Rattle.adjacency.specs.Adjacency.{side}
use Rattle.cell_filling.specs.Inner.Cursor.{free_column}
use Rattle.classes.specs.Inner.Block.{ClassRange}
use Rattle.cell_filling.specs.declared.pair.Cell.{Cell}

-- where the columns of row v begin: on the diagonal above v
abbrev pub first_column : Cell → ℕ → ℕ
first_column c v = cond (eqb c.k c.l) (v + 1) c.columns.from

-- the lowest free column of row v, and whether there is one
abbrev pub lowest_column : List ℕ → Cell → ℕ → ℕ
lowest_column g c v = lowest (first_column c v) c.columns.to (free_column g v)

abbrev pub has_column : List ℕ → Cell → ℕ → Bool
has_column g c v = ltb (lowest_column g c v) c.columns.to

-- the search may begin at row v and column w: the ranges are ranges of vertices, and no column before w is free in row v
pub record Searchable (g : List ℕ) (c : Cell) (v w : ℕ) : Type 0 where
  pub rows : c.rows.to ≤ side
  pub columns : c.columns.to ≤ side
  pub row : v ≤ c.rows.to
  pub column : w ≤ c.columns.to
  pub first : (u : ℕ) → v ≤ u → u < c.rows.to → first_column c u ≤ c.columns.to
  pub done : (x : ℕ) → first_column c v ≤ x → x < w → free_column g v x ≡ false

-- the rows and the columns of the cell are the vertices of its two classes
pub record Ranged (n : ℕ) (cls : ℕ → ℕ) (c : Cell) : Type 0 where
  pub first : c.k < most_classes
  pub second : c.l < most_classes
  pub rows : ClassRange n cls c.k c.rows.from c.rows.to
  pub columns : ClassRange n cls c.l c.columns.from c.columns.to
