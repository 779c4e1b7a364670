-- What the filling of a cell keeps from join to join, and what it may rely on.
-- Assumes nothing.
use Rattle.std.specs.Prelude.{◌≡◌, List, ℕ, ◌+◌, ◌≤◌, get_or}
use Rattle.graph.specs.Target.{Short}
use Rattle.adjacency.specs.Adjacency.{edge}
use Rattle.adjacency.specs.Inner.Degrees.{degrees_of}
use Rattle.classes.specs.Inner.Block.{Numbered}
use Rattle.completion.specs.Complete.{Ran}
use Rattle.completion.specs.Inner.Cellwise.{cell_missing}
use Rattle.progress.specs.Inner.Work.{ValidRun, Saturated}
use Rattle.cell_filling.specs.Inner.Cursor.{RowsDone, ColumnsDone}
use Rattle.cell_filling.specs.Inner.Search.{Ranged}
use Rattle.cell_filling.specs.declared.pair.Cell.{Cell}
use Rattle.cell_filling.specs.declared.Cursor.{Cursor}

-- what the cursor has passed is done
pub record Resumes (n : ℕ) (cls : ℕ → ℕ) (g : List ℕ) (c : Cell) (u : Cursor) : Type 0 where
  pub row : c.rows.from ≤ u.at.v
  pub column : u.at.w ≤ c.columns.to
  pub rows : RowsDone n cls g c.k c.l u.at.v
  pub columns : ColumnsDone cls g c.k c.l u.at.v u.at.w
  pub row_low : c.rows.from ≤ u.low.v
  pub column_low : c.columns.from ≤ u.low.w
  pub low_row : u.low.v ≤ c.rows.to
  pub low_column : u.low.w ≤ c.columns.to
  pub saturated_rows : Saturated n cls g c.k u.low.v
  pub saturated_columns : Saturated n cls g c.l u.low.w

-- m joins may be made in the cell: it misses as many
pub record Fillable (n : ℕ) (cls : ℕ → ℕ) (c : Cell) (m room : ℕ) (s : Ran) (degrees : List ℕ) : Type 0 where
  pub table : ℕ → ℕ → ℕ
  pub is_valid : ValidRun n cls table room s
  pub missing : m ≤ cell_missing n cls table s.adjacency c.k c.l
  pub ranged : Ranged n cls c
  pub degrees_right : degrees ≡ degrees_of n s.adjacency

-- one join may be made in the cell: it is short
pub record Steppable (n : ℕ) (cls : ℕ → ℕ) (c : Cell) (u : Cursor) (room : ℕ) (s : Ran) (degrees : List ℕ) : Type 0 where
  pub table : ℕ → ℕ → ℕ
  pub is_valid : ValidRun n cls table room s
  pub short : Short n cls table (edge s.adjacency) c.k c.l
  pub ranged : Ranged n cls c
  pub resumes : Resumes n cls s.adjacency c u
  pub degrees_right : degrees ≡ degrees_of n s.adjacency

-- cell (k, l) between the starts of its classes
abbrev pub cell_in : List ℕ → ℕ → ℕ → Cell
cell_in starts k l =
    record {
      k = k;
      l = l;
      rows = record { from = get_or starts k 0; to = get_or starts (k + 1) 0 };
      columns = record { from = get_or starts l 0; to = get_or starts (l + 1) 0 };
    }

-- the cell of two of the classes that start there
pub record CellOf (n : ℕ) (starts : List ℕ) (c : Cell) : Type 0 where
  pub numbered : Numbered n starts
  pub between : c ≡ cell_in starts c.k c.l
