-- The journal (document 01: the book): its layout in bytes, when it is as it should be, the sum of its blocks, and storing one more.
-- Assumes nothing.
use Rattle.std.specs.Prelude.{Bool, ◌&&◌, cond, List, ◌∷◌, ℕ, ◌+◌, ◌-◌, ◌*◌, eqb, ltb, leb, length, get_or, set, take, drop}
use Rattle.journal.specs.declared.Phase.{Phase}
use Rattle.journal.specs.declared.Phase.TheVariants.{Taking, Laid}
use Rattle.std.proofs.lemmas.List.Edits.{sets}
use Rattle.finite.specs.Range.{sum_to, all_to}
use Rattle.graph.specs.Graph.{DegreeTable}
use Rattle.slices.specs.Slices.{all_zero, equal_bytes}
use Rattle.table.specs.Block.{most_blocks, block_most, block_length, records, first_bad, block_cell, block_isolated}

-- bytes of a slot, 65: its length byte and a block; bytes of the journal, 4,162: phase, number of blocks, and the slots
abbrev pub slot_size : ℕ
slot_size = 1 + block_most

abbrev pub journal_size : ℕ
journal_size = 2 + slot_size * most_blocks

-- the two phases (document 01: stages): blocks are taken, and the vertices are laid out
abbrev pub phase_taking : ℕ
phase_taking = 0

abbrev pub phase_laid : ℕ
phase_laid = 1

-- the byte of a phase
abbrev pub phase_byte : Phase → ℕ
phase_byte Taking = phase_taking
phase_byte Laid = phase_laid

-- byte 0: the phase; byte 1: the blocks in it
abbrev pub phase : List ℕ → ℕ
phase j = get_or j 0 0

abbrev pub blocks : List ℕ → ℕ
blocks j = get_or j 1 0

-- slot i: one length byte, then the block, zero after its length
abbrev pub slot_at : ℕ → ℕ
slot_at i = 2 + slot_size * i

abbrev pub slot_length : List ℕ → ℕ → ℕ
slot_length j i = get_or j (slot_at i) 0

-- where the block of slot i begins
abbrev pub block_from : ℕ → ℕ
block_from i = slot_at i + 1

abbrev pub block_at : List ℕ → ℕ → List ℕ
block_at j i = take (slot_length j i) (drop (block_from i) j)

abbrev pub slot_rest : List ℕ → ℕ → List ℕ
slot_rest j i = take (block_most - slot_length j i) (drop (block_from i + slot_length j i) j)

-- A used slot holds a block that 4 and 5 let pass, an unused one has length 0, and behind the block each has zeros. So both are zero where the block
-- has no bytes (document 02, P4), and only the count of blocks tells them apart.
abbrev pub slot_ok : List ℕ → ℕ → Bool
slot_ok j i =
    cond (ltb i (blocks j))
    (block_length (slot_length j i) && eqb (first_bad (block_at j i)) (records (block_at j i)))
    (eqb (slot_length j i) 0)
    && all_zero (slot_rest j i)

-- a phase, at most 64 blocks, every slot as above
abbrev pub journal_ok : List ℕ → Bool
journal_ok j = leb (phase j) phase_laid && leb (blocks j) most_blocks && all_to most_blocks (slot_ok j)

-- the joint degree matrix that the blocks add up to (document 01: the summed table)
abbrev pub jdm_of : List ℕ → ℕ → ℕ → ℕ
jdm_of j k l = sum_to (blocks j) (λ i. block_cell (block_at j i) k l)

-- the isolated vertices that they add up to
abbrev pub isolated_of : List ℕ → ℕ
isolated_of j = sum_to (blocks j) (λ i. block_isolated (block_at j i))

-- what the journal says: the matrix, and the isolated vertices beside it
abbrev pub table_of : List ℕ → DegreeTable
table_of j = record { cells = jdm_of j; isolated = isolated_of j }

-- block i of the journal is b
abbrev pub same_block : List ℕ → ℕ → List ℕ → Bool
same_block j i b = equal_bytes (block_at j i) b

-- the journal with b as its next block
abbrev pub stored : List ℕ → List ℕ → List ℕ
stored j b = set (sets j (slot_at (blocks j)) (length b ∷ b)) 1 (blocks j + 1)

-- the journal in the phase laid
abbrev pub laid : List ℕ → List ℕ
laid j = set j 0 phase_laid
