-- The joint degree matrix of a valid journal is a table: symmetric, 0 in the cells of degree 0 and of a degree above 40.
-- Assumes nothing.
use mathlib.Core.Path.{◌≡◌}
use mathlib.Core.Bool.{true}
use mathlib.Core.List.{List}
use Prim.Native.Nat.{ℕ}
use Rattle.finite.proofs.Sum.{sum_to-cong, sum_to-zero}
use Rattle.graph.specs.Tests.{Table}
use Rattle.table.specs.Block.{block_cell}
use Rattle.table.proofs.Block.{block_cell-sym, block_cell-none_of_0, block_cell-none_above}
use Rattle.journal.specs.Journal.{blocks, block_at, journal_ok, jdm_of}
use Rattle.journal.proofs.Facts.{journal_facts}

pub jdm-table : (j : List ℕ) → journal_ok j ≡ true → Table (jdm_of j)
jdm-table j ok =
    let f = journal_facts j ok in
    record {
      symmetric = λ k l.
          sum_to-cong (blocks j) (λ i. block_cell (block_at j i) k l) (λ i. block_cell (block_at j i) l k) (λ i h. block_cell-sym (block_at j i) k l);
      none_of_0 = λ l. sum_to-zero (blocks j) (λ i. block_cell (block_at j i) 0 l) (λ i h. block_cell-none_of_0 (block_at j i) (f.good i h) l);
      none_above = λ k l m.
          sum_to-zero (blocks j) (λ i. block_cell (block_at j i) k l) (λ i h. block_cell-none_above (block_at j i) (f.good i h) k l m);
    }
