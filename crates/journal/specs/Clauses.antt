-- The journal's part of document 01's sentence: "A bench is *sound* when the book is as above with well-formed blocks; ..", clause by clause, over the
-- bytes, in the document's numbers. `journal_ok` tests exactly this (proofs/Clauses.antt `journal_by_clauses`).
-- Assumes nothing.
use Rattle.std.specs.Prelude.{◌≡◌, true, List, ◌⊎◌, ◌↔◌, ℕ, ◌+◌, ◌*◌, ◌%◌, ◌≤◌, ◌<◌, length, get_or}
use Rattle.table.specs.Block.{GoodPair}
use Rattle.journal.specs.Journal.{journal_ok}

-- the slot at byte p holds a well-formed block: "one length byte, then 64 bytes, zero after the length"
pub record HoldsBlock (j : List ℕ) (p : ℕ) : Type 0 where
  -- "A block is 1 to 16 records" of 4 bytes, or has none (document 02, P4)
  pub most : get_or j p 0 ≤ 64
  pub whole : get_or j p 0 % 4 ≡ 0
  -- "A record is 4 bytes: k, l, and a 16-bit count": each k and l
  pub good : (r : ℕ) → 4 * r < get_or j p 0 → GoodPair (get_or j (p + 1 + 4 * r) 0) (get_or j (p + 1 + 4 * r + 1) 0)
  -- "zero after the length"
  pub rest : (q : ℕ) → get_or j p 0 ≤ q → q < 64 → get_or j (p + 1 + q) 0 ≡ 0

pub record JournalClauses (j : List ℕ) : Type 0 where
  -- "byte 0 is the stage (0 taking, 1 laid)"
  pub phase_byte : (get_or j 0 0 ≡ 0) ⊎ (get_or j 0 0 ≡ 1)
  -- "byte 1 the blocks in it (0 to 64)"
  pub blocks_byte : get_or j 1 0 ≤ 64
  -- "Slot i starts at byte 2 + 65 × i": so many hold a block
  pub used : (i : ℕ) → i < get_or j 1 0 → HoldsBlock j (2 + 65 * i)
  -- "Unused slots are zero": the others, all 65 bytes
  pub unused : (i : ℕ) → get_or j 1 0 ≤ i → i < 64 → (q : ℕ) → q < 65 → get_or j (2 + 65 * i + q) 0 ≡ 0

-- "Book, 4,162 bytes"
abbrev pub JournalByClauses : Type 0
JournalByClauses = (j : List ℕ) → length j ≡ 4162 → (journal_ok j ≡ true) ↔ JournalClauses j
