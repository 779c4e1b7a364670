-- What is kept beside the matrix from join to join: how much each cell has, flags of the full cells, and the open pairs of each row.
-- Assumes nothing.
use Rattle.std.specs.Prelude.{◌≡◌, Bool, ◌&&◌, cond, List, ℕ, ◌+◌, ◌*◌, ◌≤◌, ◌<◌, eqb, ltb, length, get_or, set}
use Rattle.finite.specs.Range.{bit}
use Rattle.answer.specs.declared.switches.Switches.{Switches}
use Rattle.graph.specs.Graph.{Simple, jdm, times_counted}
use Rattle.graph.specs.Tests.{most_classes}
use Rattle.table.specs.Inner.Cells.{cells_size, matrix_of}
use Rattle.adjacency.specs.Adjacency.{adjacency_size, side, edge}
use Rattle.classes.specs.Inner.Block.{class_from}
use Rattle.open_pairs.specs.Inner.Rows.{free_to, Scannable}
use Rattle.open_pairs.specs.Inner.Refresh.{refresh_row, refresh_range, refresh_switches, mark_full}
use Rattle.progress.specs.Inner.Work.{Arranged}

-- where cell (k, l), k ≤ l, stands in an array
abbrev pub cell_place : ℕ → ℕ → ℕ
cell_place k l = k * most_classes + l

-- what cell (k, l) has
abbrev pub cell_has : ℕ → List ℕ → List ℕ → ℕ → ℕ → ℕ
cell_has n starts g k l = jdm n (class_from starts) (edge g) k l

-- the cells can be counted: their blocks are blocks of a simple graph of n vertices, and none has more than the table
pub record CellsCountable (n : ℕ) (cells starts g : List ℕ) : Type 0 where
  pub sized : length g ≡ adjacency_size
  pub arranged : Arranged n starts
  pub simple : Simple n (edge g)
  pub within : (k l : ℕ) → k < most_classes → l < most_classes → cell_has n starts g k l ≤ matrix_of cells k l

-- The cells at the places before p are counted, and flagged where they are full; no other is flagged.
pub record Counted (p n : ℕ) (cells starts g have full : List ℕ) : Type 0 where
  pub sized : length have ≡ cells_size
  pub has : (k l : ℕ) → k ≤ l → l < most_classes → cell_place k l < p → get_or have (cell_place k l) 0 ≡ cell_has n starts g k l
  pub scannable : Scannable n g full
  pub flagged : (k w : ℕ) → k < most_classes → w < n → k ≤ class_from starts w →
      get_or full (k * side + w) 0 ≡ bit (ltb (cell_place k (class_from starts w)) p && eqb (cell_has n starts g k (class_from starts w)) (matrix_of cells k (class_from starts w)))

-- the array has the class of each vertex
abbrev pub ClassArray : ℕ → List ℕ → List ℕ → Type 0
ClassArray n starts classes = (v : ℕ) → v < n → get_or classes v 0 ≡ class_from starts v

-- row v is counted as it is
abbrev pub RowRight : ℕ → List ℕ → List ℕ → List ℕ → List ℕ → ℕ → Type 0
RowRight n classes g full pairs v = get_or pairs v 0 ≡ free_to g full (get_or classes v 0) v n

-- everything is counted
pub record Tracked (n : ℕ) (cells starts classes g have full pairs : List ℕ) : Type 0 where
  pub arranged : Arranged n starts
  pub classed : ClassArray n starts classes
  pub counted : Counted cells_size n cells starts g have full
  pub sized : length pairs ≡ side
  pub rows : (v : ℕ) → v < n → RowRight n classes g full pairs v
  pub behind : (v : ℕ) → n ≤ v → get_or pairs v 0 ≡ 0

-- What a join in cell (k, l), k ≤ l, changes: it has one edge more, and may be full now ..
abbrev pub has_now : ℕ → ℕ → List ℕ → ℕ
has_now k l have = get_or have (cell_place k l) 0 + times_counted k l

abbrev pub have_after : ℕ → ℕ → List ℕ → List ℕ
have_after k l have = set have (cell_place k l) (has_now k l have)

abbrev pub is_full_now : List ℕ → ℕ → ℕ → List ℕ → Bool
is_full_now cells k l have = eqb (has_now k l have) (matrix_of cells k l)

abbrev pub flags_after : List ℕ → List ℕ → ℕ → ℕ → List ℕ → List ℕ → List ℕ
flags_after cells starts k l have full = cond (is_full_now cells k l have) (mark_full k (get_or starts l 0) (get_or starts (l + 1) 0) full) full

-- .. and the rows are counted anew in which pairs were opened or closed: that of the lower vertex v, where the cell is full all rows of its class, and
-- those of the edges that the switches moved
abbrev pub pairs_after : ℕ → List ℕ → List ℕ → List ℕ → List ℕ → ℕ → ℕ → Bool → Switches → List ℕ → List ℕ
pairs_after n starts classes g full v k isFull s pairs =
    refresh_switches n classes g full s
    (cond isFull (refresh_range n classes g full (get_or starts k 0) (get_or starts (k + 1) 0) pairs) (refresh_row n classes g full v pairs))
