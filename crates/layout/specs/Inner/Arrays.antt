-- What the code goes by: counts and classes in arrays, the cells of a row from the diagonal on, and from vertex to
-- vertex a class and the first vertex past it.
-- Assumes nothing.
use Rattle.std.specs.Prelude.{◌≡◌, Bool, ◌||◌, List, ℕ, ◌+◌, ◌≤◌, ◌<◌, ltb, leb, get_or, replicate}
use Rattle.finite.specs.Range.{sum_to, all_to}
use Rattle.graph.specs.Target.{cell_most}
use Rattle.finite.specs.Inner.Fill.{fill_to}
use Rattle.graph.specs.Graph.{DegreeTable}
use Rattle.graph.specs.Tests.{most_classes, count, class_count, vertices, vertex_class}
use Rattle.table.specs.Inner.Cells.{matrix_of, cell_sum_most}
use Rattle.layout.specs.Layout.{most_vertices}

-- how many vertices each class has
abbrev pub counts_of : DegreeTable → List ℕ
counts_of t = fill_to most_classes (class_count t) (replicate most_classes 0)

-- the classes of the N vertices, in an array of 200 with zeros behind them
abbrev pub classes_of : DegreeTable → List ℕ
classes_of t = fill_to (vertices t) (vertex_class t) (replicate most_vertices 0)

-- how many vertices class k has, as the array of counts says
abbrev pub count_in : List ℕ → ℕ → ℕ
count_in d k = get_or d k 0

-- the table with this matrix and as many isolated vertices
abbrev pub table_in : List ℕ → ℕ → DegreeTable
table_in cells isolated = record { cells = matrix_of cells; isolated = isolated }

-- the array has the counts of the table with these cells and the isolated vertices that it holds itself, no more than blocks can add up to
pub record Counts (cells counts : List ℕ) : Type 0 where
  pub same : counts ≡ counts_of (table_in cells (count_in counts 0))
  pub few : count_in counts 0 ≤ cell_sum_most

-- the class of vertex v as the array of classes has it
abbrev pub class_in : List ℕ → ℕ → ℕ
class_in c v = get_or c v 0

-- cell (k, l), where l is from k on, is not above its most
abbrev pub cell_fits : (ℕ → ℕ → ℕ) → ℕ → ℕ → Bool
cell_fits T k l = ltb l k || leb (T k l) (cell_most (count T) k l)

abbrev pub row_fits : (ℕ → ℕ → ℕ) → ℕ → Bool
row_fits T k = all_to most_classes (cell_fits T k)

-- the vertices below `end` are those of the classes up to `class`, and v is past those of the classes before it
abbrev pub Reaches : (ℕ → ℕ) → ℕ → ℕ → ℕ → Type 0
Reaches D class end v = (class < most_classes) × (end ≡ sum_to (class + 1) D) × (sum_to class D ≤ v)
