-- A journal passes its check if and only if each clause of document 01 holds of its bytes (specs/Clauses.antt).
-- Assumes nothing.
use mathlib.Core.Path.{◌≡◌, ap, ◌∙◌}
use mathlib.Core.List.{List}
use mathlib.Core.Logic.{◌⊎◌, inl, inr, ⊎_elim}
use Prim.Native.Nat.{ℕ, ◌+◌, ◌-◌, ◌*◌, ◌%◌, ◌≤◌, ◌<◌}
use native.Mathlib.Nat.{add-zero}
use native.Mathlib.Decide.{ℕ_discrete, dec_lt}
use native.Mathlib.Omega.{arith}
use lib.Dec.{leb}
use lib.ListN.{length, get_or}
use borrow.Author.Tests.{le-leb, eqb-true, eq-eqb}
use Rattle.finite.proofs.All.{and_right, and_both}
use Rattle.slices.proofs.Part.{get_or-part}
use Rattle.table.specs.Block.{record_size, block_most, most_blocks, records, first_bad, record_k, record_l, GoodPair}
use Rattle.table.proofs.Block.{good-pair, all-good, good_all}
use Rattle.journal.specs.Journal.{journal_size, phase, blocks, slot_at, slot_length, block_from, block_at}
use Rattle.journal.specs.Clauses.{HoldsBlock, JournalClauses, JournalByClauses}
use Rattle.journal.proofs.Facts.{Facts, journal_facts, facts_journal, length_most, length-block}
use Rattle.journal.proofs.Slot.{rest_zero, zero_rest}

-- a number up to 1
zero_or_one : (n : ℕ) → n ≤ 1 → (n ≡ 0) ⊎ (n ≡ 1)
zero_or_one n h = go (ℕ_discrete n 0)
  where
    go : Dec (n ≡ 0) → (n ≡ 0) ⊎ (n ≡ 1)
    go (yes e) = inl e
    go (no e) = inr (omega arith)

module _ (j : List ℕ) (size : length j ≡ journal_size) (i : ℕ) (l : i < most_blocks) (most : slot_length j i ≤ block_most) where
  -- the records of slot i's block, and the bytes of one
  records-are : records (block_at j i) * record_size ≤ slot_length j i
  records-are = omega (arith, length-block j i size l most)

  byte_of : (q : ℕ) → q < slot_length j i → get_or (block_at j i) q 0 ≡ get_or j (block_from i + q) 0
  byte_of q h = get_or-part (slot_length j i) (block_from i) j q h

  module _ (r : ℕ) (h : r < records (block_at j i)) where
    k-of : record_k (block_at j i) r ≡ get_or j (block_from i + record_size * r) 0
    k-of = byte_of (record_size * r) (omega (arith, records-are))

    l-of : record_l (block_at j i) r ≡ get_or j (block_from i + record_size * r + 1) 0
    l-of =
        let e : block_from i + (record_size * r + 1) ≡ block_from i + record_size * r + 1 = omega arith in
        byte_of (record_size * r + 1) (omega (arith, records-are)) ∙ ap (λ (p : ℕ). get_or j p 0) e

module _ (j : List ℕ) (size : length j ≡ journal_size) where
  facts-clauses : Facts j → JournalClauses j
  facts-clauses f =
      record {
        phase_byte = zero_or_one (phase j) f.phase-le;
        blocks_byte = f.blocks-le;
        used = used;
        unused = unused;
      }
    where
      used : (i : ℕ) → i < blocks j → HoldsBlock j (slot_at i)
      used i u =
          record {
            most = most;
            whole = whole;
            good = good;
            rest = rest_zero j i (f.rest i l);
          }
        where
          l : i < most_blocks
          l = omega (arith, f.blocks-le)

          most : slot_length j i ≤ block_most
          most = length_most (slot_length j i) (f.used i u)

          whole : slot_length j i % record_size ≡ 0
          whole = eqb-true (slot_length j i % record_size) 0 (and_right (leb (slot_length j i) block_most) _ (f.used i u))

          good : (r : ℕ) → record_size * r < slot_length j i → GoodPair (get_or j (block_from i + record_size * r) 0) (get_or j (block_from i + record_size * r + 1) 0)
          good r h =
              let n : r < records (block_at j i) = omega (arith, whole, length-block j i size l most) in
              rw (k-of j size i l most r n, l-of j size i l most r n) at ((good-pair (block_at j i) r).0 (all-good (block_at j i) (f.good i u) r n))

      unused : (i : ℕ) → blocks j ≤ i → i < most_blocks → (q : ℕ) → q < 65 → get_or j (slot_at i + q) 0 ≡ 0
      unused i g l q m = go (ℕ_discrete q 0)
        where
          none : slot_length j i ≡ 0
          none = f.unused i g l

          go : Dec (q ≡ 0) → get_or j (slot_at i + q) 0 ≡ 0
          go (yes e) = rw (e, add-zero (slot_at i)) none
          go (no e) =
              let p : slot_at i + q ≡ slot_at i + 1 + (q - 1) = omega arith in
              rw p (rest_zero j i (f.rest i l) (q - 1) (omega (arith, none)) (omega arith))

  clauses-facts : JournalClauses j → Facts j
  clauses-facts c =
      record {
        phase-le = ⊎_elim (λ e. omega (arith, e)) (λ e. omega (arith, e)) c.phase_byte;
        blocks-le = c.blocks_byte;
        used = λ i u. and_both _ _ (le-leb (slot_length j i) block_most (c.used i u).most) (eq-eqb _ 0 (c.used i u).whole);
        good = good;
        unused = λ i g l. rw (add-zero (slot_at i)) at (c.unused i g l 0 (omega arith));
        rest = λ i l. zero_rest j i (λ q g m. rest i l q g m (dec_lt i (blocks j)));
      }
    where
      good : (i : ℕ) → i < blocks j → first_bad (block_at j i) ≡ records (block_at j i)
      good i u = good_all (block_at j i) (λ r n. (good-pair (block_at j i) r).1 (rw (k-of j size i l most r n, l-of j size i l most r n) ((c.used i u).good r (small r n))))
        where
          l : i < most_blocks
          l = omega (arith, c.blocks_byte)

          most : slot_length j i ≤ block_most
          most = (c.used i u).most

          small : (r : ℕ) → r < records (block_at j i) → record_size * r < slot_length j i
          small r n = omega (arith, records-are j size i l most)

      rest : (i : ℕ) → i < most_blocks → (q : ℕ) → slot_length j i ≤ q → q < block_most → Dec (i < blocks j) → get_or j (slot_at i + 1 + q) 0 ≡ 0
      rest i l q g m (yes u) = (c.used i u).rest q g m
      rest i l q g m (no u) =
          let e : slot_at i + (1 + q) ≡ slot_at i + 1 + q = omega arith in
          rw e at (c.unused i (omega arith) l (1 + q) (omega arith))

pub journal_by_clauses : JournalByClauses
journal_by_clauses j size = (λ h. facts-clauses j size (journal_facts j h), λ c. facts_journal j (clauses-facts j size c))
