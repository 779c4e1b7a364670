-- The array of cells after n blocks of a journal: its length, its most, and what it holds; after all of them, the isolated vertices and the matrix.
-- Assumes nothing.
use mathlib.Core.Path.{◌≡◌, sym, ap, ◌∙◌, fun_ext}
use mathlib.Core.Bool.{true}
use mathlib.Core.List.{List}
use Prim.Native.Nat.{ℕ, ◌+◌, ◌*◌, ◌≤◌, ◌<◌}
use native.Mathlib.Decide.{ℕ_discrete}
use native.Mathlib.Omega.{arith}
use lib.ListN.{length, get_or, set, length-replicate}
use Rattle.finite.specs.Range.{sum_to, fold_to}
use Rattle.finite.proofs.Fold.{fold_to-keeps}
use Rattle.finite.proofs.Sum.{sum_to-none, sum_to-more, sum_to-cong}
use Rattle.slices.proofs.Part.{bytes_part}
use Rattle.slices.proofs.Zero.{get_or-zeros}
use Rattle.table.specs.Block.{most_records, most_blocks, records, block_cell, block_isolated}
use Rattle.table.specs.Inner.Cells.{cells_size, matrix_of, isolated_place, add_block, AtMost, block_sum_most}
use Rattle.table.proofs.Matrix.{cells_of_none, length-add_block, matrix_none, block_amount, matrix_add_block, at_most_add_block, block_amount-cell, block_amount-isolated, taken_out, taken-cell}
use Rattle.journal.specs.Journal.{journal_size, blocks, slot_at, slot_length, block_at, journal_ok, jdm_of, isolated_of}
use Rattle.journal.proofs.Facts.{Facts, journal_facts, slot_most, length-block}
use Rattle.journal.proofs.Table.{jdm-table}

-- the cells of the first n blocks
abbrev pub cells_to : List ℕ → ℕ → List ℕ
cells_to j n = fold_to n (λ i c. add_block (block_at j i) c) cells_of_none

module _ (j : List ℕ) (e : length j ≡ journal_size) (f : Facts j) (n : ℕ) (h : n ≤ blocks j) where
  records-most : (i : ℕ) → i < n → records (block_at j i) ≤ most_records
  records-most i l =
      let m : i < most_blocks = omega (arith, f.blocks-le) in
      let s = slot_most j f i m in
      omega (arith, length-block j i e m s)

  pub cells-most : ((p : ℕ) → get_or j p 0 < 256) → AtMost (block_sum_most * n) (cells_to j n)
  cells-most bytes =
      fold_to-keeps (λ i c. AtMost (block_sum_most * i) c) (λ i c. add_block (block_at j i) c) cells_of_none n zeros step
    where
      zeros : AtMost (block_sum_most * 0) cells_of_none
      zeros p = omega (arith, get_or-zeros cells_size p)

      step : (i : ℕ) (c : List ℕ) → i < n → AtMost (block_sum_most * i) c → AtMost (block_sum_most * (i + 1)) (add_block (block_at j i) c)
      step i c l g p =
          omega
          (arith, at_most_add_block (block_sum_most * i) (block_at j i) c g (records-most i l) (bytes_part (slot_length j i) (slot_at i + 1) j bytes) p)

  -- at each place, the sum of what each block adds
  cells-held : (length (cells_to j n) ≡ cells_size) × ((k l : ℕ) → matrix_of (cells_to j n) k l ≡ sum_to n (λ i. block_amount (block_at j i) k l))
  cells-held =
      fold_to-keeps Held (λ i c. add_block (block_at j i) c) cells_of_none n
      (length-replicate {A = ℕ} cells_size 0, λ k l. at k l matrix_none ∙ sym (sum_to-none (λ i. block_amount (block_at j i) k l))) step
    where
      Held : ℕ → List ℕ → Type 0
      Held i c = (length c ≡ cells_size) × ((k l : ℕ) → matrix_of c k l ≡ sum_to i (λ i. block_amount (block_at j i) k l))

      at : (k l : ℕ) {S T : ℕ → ℕ → ℕ} → S ≡ T → S k l ≡ T k l
      at k l e = ap (λ (m : ℕ → ℕ → ℕ). m k l) e

      step : (i : ℕ) (c : List ℕ) → i < n → Held i c → Held (i + 1) (add_block (block_at j i) c)
      step i c m g = (
        length-add_block (block_at j i) c ∙ g.0,
        λ k l.
            matrix_add_block (block_at j i) c g.0 (f.good i (omega arith)) k l
            ∙ ap (λ (s : ℕ). s + block_amount (block_at j i) k l) (g.1 k l) ∙ sym (sum_to-more (λ i. block_amount (block_at j i) k l) i),
      )

-- The array of all blocks holds the isolated vertices beside the cells, and without them the matrix.
module _ (j : List ℕ) (e : length j ≡ journal_size) (ok : journal_ok j ≡ true) where
  f : Facts j
  f = journal_facts j ok

  pub cells-isolated : get_or (cells_to j (blocks j)) isolated_place 0 ≡ isolated_of j
  cells-isolated =
      (cells-held j e f (blocks j) (omega arith)).1 0 0
      ∙ sum_to-cong (blocks j) (λ i. block_amount (block_at j i) 0 0) (λ i. block_isolated (block_at j i)) (λ i h. block_amount-isolated (block_at j i))

  pub cells-matrix : matrix_of (set (cells_to j (blocks j)) isolated_place 0) ≡ jdm_of j
  cells-matrix = fun_ext (λ k. fun_ext (λ l. cell k l (ℕ_discrete k 0) (ℕ_discrete l 0)))
    where
      held : (length (cells_to j (blocks j)) ≡ cells_size)
          × ((k l : ℕ) → matrix_of (cells_to j (blocks j)) k l ≡ sum_to (blocks j) (λ i. block_amount (block_at j i) k l))
      held = cells-held j e f (blocks j) (omega arith)

      other : (k l : ℕ) → (k ≡ 0 → l ≡ 0 → ⊥) → matrix_of (set (cells_to j (blocks j)) isolated_place 0) k l ≡ jdm_of j k l
      other k l h =
          taken-cell (cells_to j (blocks j)) held.0 k l h
          ∙ held.1 k l
          ∙ sum_to-cong (blocks j) (λ i. block_amount (block_at j i) k l) (λ i. block_cell (block_at j i) k l) (λ i m. block_amount-cell (block_at j i) k l h)

      cell : (k l : ℕ) → Dec (k ≡ 0) → Dec (l ≡ 0) → matrix_of (set (cells_to j (blocks j)) isolated_place 0) k l ≡ jdm_of j k l
      cell k l (yes p) (yes q) = rw (p, q) (taken_out (cells_to j (blocks j)) held.0 ∙ sym ((jdm-table j ok).none_of_0 0))
      cell k l (yes p) (no q) = other k l (λ _ y. q y)
      cell k l (no p) d = other k l (λ x _. p x)
