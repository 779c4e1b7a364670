-- Blocks and records (document 01, "Blocks and records"), and what a block adds to a degree table: to the cells of its matrix, and to the isolated
-- vertices beside them (document 02, P1).
-- Assumes nothing.
use Rattle.std.specs.Prelude.{◌≡◌, Bool, ◌&&◌, ◌||◌, not, cond, List, Option, Some, None, ◌⊎◌, ℕ, ◌+◌, ◌*◌, ◌/◌, ◌%◌, ◌≤◌, eqb, leb, length, get_or}
use Rattle.finite.specs.Range.{sum_to, lowest}
use Rattle.graph.specs.Graph.{DegreeTable}
use Rattle.graph.specs.Tests.{least_degree, most_degree}
use Rattle.table.specs.declared.degree.Degree.{Degree}

-- bytes of a record, most records of a block, the most bytes of a block, 64, and most blocks of a table
abbrev pub record_size : ℕ
record_size = 4

abbrev pub most_records : ℕ
most_records = 16

abbrev pub block_most : ℕ
block_most = record_size * most_records

abbrev pub most_blocks : ℕ
most_blocks = 64

-- a degree runs from 1 to 40
abbrev pub is_degree : ℕ → Bool
is_degree x = leb least_degree x && leb x most_degree

-- the degree of a record byte, or none
abbrev pub made_degree : ℕ → Option Degree
made_degree x = cond (is_degree x) (Some (record { 0 = x })) None

-- a block of n bytes: up to 16 whole records; one of no bytes is a report too, that there is nothing to report (document 02, P4)
abbrev pub block_length : ℕ → Bool
block_length n = leb n block_most && eqb (n % record_size) 0

-- record i of the block b: k, l, and the count, low byte first
abbrev pub records : List ℕ → ℕ
records b = length b / record_size

abbrev pub record_k : List ℕ → ℕ → ℕ
record_k b i = get_or b (record_size * i) 0

abbrev pub record_l : List ℕ → ℕ → ℕ
record_l b i = get_or b (record_size * i + 1) 0

abbrev pub record_count : List ℕ → ℕ → ℕ
record_count b i = get_or b (record_size * i + 2) 0 + 256 * get_or b (record_size * i + 3) 0

-- the two forms of a record: 0, 0 and a number of isolated vertices (document 02: idle boards); or a cell, where both are degrees and k ≤ l
abbrev pub of_isolated : List ℕ → ℕ → Bool
of_isolated b i = eqb (record_k b i) 0 && eqb (record_l b i) 0

abbrev pub of_cell : List ℕ → ℕ → Bool
of_cell b i = is_degree (record_k b i) && is_degree (record_l b i) && leb (record_k b i) (record_l b i)

abbrev pub good_record : List ℕ → ℕ → Bool
good_record b i = of_cell b i || of_isolated b i

-- What a good record is, of its first two bytes: "A degree runs from 1 to 40, and k ≤ l"; or 0 and 0, isolated vertices (proofs/Block.antt `good-pair`).
abbrev pub GoodPair : ℕ → ℕ → Type 0
GoodPair k l = ((1 ≤ k) × (k ≤ l) × (l ≤ 40)) ⊎ ((k ≡ 0) × (l ≡ 0))

-- the first record that is not good; the number of records where all are
abbrev pub first_bad : List ℕ → ℕ
first_bad b = lowest 0 (records b) (λ i. not (good_record b i))

-- a block that 4 and 5 let pass
abbrev pub well_formed : List ℕ → Bool
well_formed b = block_length (length b) && eqb (first_bad b) (records b)

-- (k, l) is the pair (a, b), in either order
abbrev pub same_pair : ℕ → ℕ → ℕ → ℕ → Bool
same_pair k l a b = (eqb k a && eqb l b) || (eqb k b && eqb l a)

-- What record i adds to cell (k, l): its count where (k, l) is its pair in either order, so to the diagonal once. Isolated vertices are no cell.
abbrev pub record_cell : List ℕ → ℕ → ℕ → ℕ → ℕ
record_cell b i k l = cond (same_pair k l (record_k b i) (record_l b i) && not (of_isolated b i)) (record_count b i) 0

-- how many isolated vertices record i adds
abbrev pub record_isolated : List ℕ → ℕ → ℕ
record_isolated b i = cond (of_isolated b i) (record_count b i) 0

-- what the block adds to cell (k, l)
abbrev pub block_cell : List ℕ → ℕ → ℕ → ℕ
block_cell b k l = sum_to (records b) (λ i. record_cell b i k l)

-- how many isolated vertices the block adds
abbrev pub block_isolated : List ℕ → ℕ
block_isolated b = sum_to (records b) (record_isolated b)

-- the table t with the block added
abbrev pub plus : DegreeTable → List ℕ → DegreeTable
plus t b = record { cells = λ k l. t.cells k l + block_cell b k l; isolated = t.isolated + block_isolated b }
