-- The journal in phase 1: its blocks, matrix and validity are those that it had.
-- Assumes nothing.
use mathlib.Core.Path.{◌≡◌, ap}
use mathlib.Core.List.{List}
use Prim.Native.Nat.{ℕ, ◌+◌, ◌≤◌}
use native.Mathlib.Omega.{arith}
use lib.ListN.{length, length-set}
use lib.Seq.{get_or-set_same, get_or-set_other, drop-set-lt}
use borrow.Author.Tests.{le-leb}
use Rattle.finite.proofs.All.{all_to-cong}
use Rattle.finite.proofs.Sum.{sum_to-cong}
use Rattle.finite.specs.Range.{sum_to}
use Rattle.graph.proofs.Counts.{same_table}
use Rattle.table.specs.Block.{most_blocks, block_cell, block_isolated}
use Rattle.journal.specs.Journal.{journal_size, phase_laid, phase, blocks, slot_at, slot_length, block_at, slot_rest, slot_ok, journal_ok, table_of, laid}

module _ (j : List ℕ) where
  pub length-laid : length (laid j) ≡ length j
  length-laid = length-set j 0 1

  pub blocks-laid : blocks (laid j) ≡ blocks j
  blocks-laid = get_or-set_other j 0 1 1 0 (omega arith)

  slot_length-laid : (i : ℕ) → slot_length (laid j) i ≡ slot_length j i
  slot_length-laid i = get_or-set_other j 0 (slot_at i) 1 0 (omega arith)

  pub block_at-laid : (i : ℕ) → block_at (laid j) i ≡ block_at j i
  block_at-laid i = rw (slot_length-laid i, drop-set-lt (slot_at i + 1) j 0 1 (omega arith))

  slot_rest-laid : (i : ℕ) → slot_rest (laid j) i ≡ slot_rest j i
  slot_rest-laid i = rw (slot_length-laid i, drop-set-lt (slot_at i + 1 + slot_length j i) j 0 1 (omega arith))

  slot_ok-laid : (i : ℕ) → slot_ok (laid j) i ≡ slot_ok j i
  slot_ok-laid i = rw (blocks-laid, block_at-laid i, slot_rest-laid i, slot_length-laid i)

  -- whatever its blocks add up to stays
  sum_laid : (adds : List ℕ → ℕ) → sum_to (blocks (laid j)) (λ i. adds (block_at (laid j) i)) ≡ sum_to (blocks j) (λ i. adds (block_at j i))
  sum_laid adds =
      rw blocks-laid (sum_to-cong (blocks j) (λ i. adds (block_at (laid j) i)) (λ i. adds (block_at j i)) (λ i h. ap adds (block_at-laid i)))

  pub table_laid : table_of (laid j) ≡ table_of j
  table_laid = same_table (λ k l. sum_laid (λ b. block_cell b k l)) (sum_laid block_isolated)

  pub phase-laid : length j ≡ journal_size → phase (laid j) ≡ phase_laid
  phase-laid e = get_or-set_same j 0 phase_laid 0 (omega arith)

  pub valid-laid : length j ≡ journal_size → phase j ≤ phase_laid → journal_ok (laid j) ≡ journal_ok j
  valid-laid e h =
      rw (phase-laid e, blocks-laid, le-leb (phase j) phase_laid h, all_to-cong (slot_ok (laid j)) (slot_ok j) most_blocks (λ i l. slot_ok-laid i))
