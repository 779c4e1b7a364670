-- A joint degree matrix as the code keeps it: one number for each pair of classes, in either order, in one array.
-- Assumes nothing.
use Rattle.std.specs.Prelude.{◌&&◌, cond, List, ℕ, ◌+◌, ◌*◌, ◌≤◌, min, max, ltb, get_or, set}
use Rattle.finite.specs.Range.{fold_to}
use Rattle.graph.specs.Tests.{most_classes}
use Rattle.table.specs.Block.{most_records, most_blocks, records, record_k, record_l, record_count}

-- how many numbers the array has
abbrev pub cells_size : ℕ
cells_size = most_classes * most_classes

-- where the cell of k and l stands, in either order
abbrev pub place : ℕ → ℕ → ℕ
place k l = min k l * most_classes + max k l

-- the matrix that an array holds; cells past the classes are 0
abbrev pub matrix_of : List ℕ → ℕ → ℕ → ℕ
matrix_of c k l = cond (ltb k most_classes && ltb l most_classes) (get_or c (place k l) 0) 0

-- the place of (0, 0), where no cell is: records of isolated vertices are added there, until they are taken out
abbrev pub isolated_place : ℕ
isolated_place = place 0 0

-- the array c with record i of the block b added
abbrev pub add_record : List ℕ → ℕ → List ℕ → List ℕ
add_record b i c = set c (place (record_k b i) (record_l b i)) (get_or c (place (record_k b i) (record_l b i)) 0 + record_count b i)

-- the array c with all records of the block b added
abbrev pub add_block : List ℕ → List ℕ → List ℕ
add_block b c = fold_to (records b) (add_record b) c

-- no number of the array is above m
abbrev pub AtMost : ℕ → List ℕ → Type 0
AtMost m c = (p : ℕ) → get_or c p 0 ≤ m

-- the most that a record adds: its count has 16 bits
abbrev pub record_most : ℕ
record_most = 65535

-- the most that a block can add to one cell
abbrev pub block_sum_most : ℕ
block_sum_most = most_records * record_most

-- the most that all blocks of a table can add to one cell
abbrev pub cell_sum_most : ℕ
cell_sum_most = most_blocks * block_sum_most
