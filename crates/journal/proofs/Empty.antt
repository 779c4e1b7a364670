-- The journal of zeros is valid, in phase 0, with no block.
-- Assumes nothing.
use mathlib.Core.Path.{◌≡◌}
use mathlib.Core.Bool.{true}
use mathlib.Core.List.{List}
use Prim.Native.Nat.{ℕ, ◌+◌}
use native.Mathlib.Omega.{arith}
use lib.ListN.{get_or}
use Rattle.finite.specs.Range.{sum_to}
use Rattle.finite.proofs.Sum.{sum_to-none}
use Rattle.graph.specs.Graph.{empty_table}
use Rattle.graph.proofs.Counts.{same_table}
use Rattle.table.specs.Block.{block_cell, block_isolated}
use Rattle.journal.specs.Journal.{phase_taking, phase, blocks, slot_at, block_at, journal_ok, table_of}
use Rattle.journal.proofs.Facts.{facts_journal}
use Rattle.journal.proofs.Slot.{zero_rest}

module _ (j : List ℕ) (zeros : (p : ℕ) → get_or j p 0 ≡ 0) where
  pub phase-empty : phase j ≡ phase_taking
  phase-empty = zeros 0

  pub blocks-empty : blocks j ≡ 0
  blocks-empty = zeros 1

  sum-empty : (adds : List ℕ → ℕ) → sum_to (blocks j) (λ i. adds (block_at j i)) ≡ 0
  sum-empty adds = rw blocks-empty (sum_to-none (λ i. adds (block_at j i)))

  pub table_empty : table_of j ≡ empty_table
  table_empty = same_table (λ k l. sum-empty (λ b. block_cell b k l)) (sum-empty block_isolated)

  pub valid-empty : journal_ok j ≡ true
  valid-empty =
      facts_journal j
      (record {
        phase-le = omega (arith, phase-empty);
        blocks-le = omega (arith, blocks-empty);
        used = λ i l. absurd (omega (arith, blocks-empty));
        good = λ i l. absurd (omega (arith, blocks-empty));
        unused = λ i g l. zeros (slot_at i);
        rest = λ i l. zero_rest j i (λ q g m. zeros (slot_at i + 1 + q));
      })
