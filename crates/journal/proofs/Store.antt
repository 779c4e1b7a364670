-- Storing a block: the journal's bytes, its blocks, that it stays valid, and the table that its blocks add up to.
-- Assumes nothing.
use mathlib.Core.Path.{◌≡◌, sym, ap, ◌∙◌}
use mathlib.Core.Bool.{true}
use mathlib.Core.List.{List, [], ◌∷◌}
use Prim.Native.Nat.{ℕ, suc, ◌+◌, ◌≤◌, ◌<◌}
use native.Mathlib.Nat.{add-zero}
use native.Mathlib.Decide.{ℕ_discrete, dec_lt}
use native.Mathlib.Omega.{arith}
use lib.ListN.{length, get_or, set, take, drop, length-set}
use lib.Seq.{sets, length-sets, get_or-set_same, get_or-set_other, set-get_or, ext_get_or}
use Rattle.finite.proofs.Sum.{sum_to-more, sum_to-cong}
use Rattle.finite.specs.Range.{sum_to}
use Rattle.graph.proofs.Counts.{same_table}
use Rattle.slices.specs.Slices.{all_zero}
use Rattle.slices.proofs.Part.{length_part, get_or-part, get_or-sets_before, get_or-sets_after, get_or-sets_in}
use Rattle.table.specs.Block.{block_most, most_blocks, block_length, records, first_bad, well_formed, block_cell, block_isolated, plus}
use Rattle.journal.specs.Journal.{slot_size, journal_size, phase, blocks, slot_at, slot_length, block_at, slot_rest, journal_ok, table_of, stored}
use Rattle.journal.proofs.Facts.{Facts, journal_facts, facts_journal, length_most, slot_most, well_formed-length, well_formed-good}
use Rattle.journal.proofs.Slot.{rest_zero, zero_rest, slot_length-kept, block_at-kept, slot_rest-kept}

-- The bytes of the new journal: the count, the length byte, the block's; before the slot and behind the block they are kept.
module _ (j b : List ℕ) (size : length j ≡ journal_size) (room : blocks j < most_blocks) (most : length b ≤ block_most) where
  -- the journal with the block in its slot, not yet counted
  written : List ℕ
  written = sets j (slot_at (blocks j)) (length b ∷ b)

  length-written : length written ≡ journal_size
  unfolding written
  length-written = length-sets j (slot_at (blocks j)) (length b ∷ b) ∙ size

  stored-length : length (stored j b) ≡ journal_size
  unfolding written
  stored-length = length-set written 1 (blocks j + 1) ∙ length-written

  stored_other : (p : ℕ) → (p ≡ 1 → ⊥) → get_or (stored j b) p 0 ≡ get_or written p 0
  unfolding written
  stored_other p h = get_or-set_other written 1 p (blocks j + 1) 0 h

  stored-blocks : blocks (stored j b) ≡ blocks j + 1
  unfolding written
  stored-blocks = get_or-set_same written 1 (blocks j + 1) 0 (omega (arith, length-written))

  stored-before : (p : ℕ) → (p ≡ 1 → ⊥) → p < slot_at (blocks j) → get_or (stored j b) p 0 ≡ get_or j p 0
  unfolding written
  stored-before p h l = stored_other p h ∙ get_or-sets_before j (slot_at (blocks j)) (length b ∷ b) p l

  stored-after : (p : ℕ) → slot_at (blocks j) + 1 + length b ≤ p → get_or (stored j b) p 0 ≡ get_or j p 0
  unfolding written
  stored-after p l = stored_other p (λ e. absurd (omega arith)) ∙ get_or-sets_after j (slot_at (blocks j)) (length b ∷ b) p (omega arith)

  stored-in : (q : ℕ) → q < suc (length b) → get_or (stored j b) (slot_at (blocks j) + q) 0 ≡ get_or (length b ∷ b) q 0
  unfolding written
  stored-in q l =
      stored_other (slot_at (blocks j) + q) (λ e. absurd (omega arith))
      ∙ get_or-sets_in j (slot_at (blocks j)) (length b ∷ b) q (omega arith) l

  -- a slot but the new one has the bytes that it had
  kept : (i : ℕ) → (i ≡ blocks j → ⊥) → (q : ℕ) → q < slot_size → get_or (stored j b) (slot_at i + q) 0 ≡ get_or j (slot_at i + q) 0
  kept i other q l = go (dec_lt i (blocks j))
    where
      go : Dec (i < blocks j) → get_or (stored j b) (slot_at i + q) 0 ≡ get_or j (slot_at i + q) 0
      go (yes h) = stored-before (slot_at i + q) (λ e. absurd (omega arith)) (omega arith)
      go (no h) = stored-after (slot_at i + q) (omega arith)

  same_size : length (stored j b) ≡ length j
  same_size = stored-length ∙ sym size

  -- the new slot
  slot_length-new : slot_length (stored j b) (blocks j) ≡ length b
  slot_length-new = rw (add-zero (slot_at (blocks j))) at (stored-in 0 (omega arith))

  stored-new : block_at (stored j b) (blocks j) ≡ b
  stored-new =
      rw slot_length-new
      (ext_get_or 0 _ b (length_part (length b) (slot_at (blocks j) + 1) (stored j b) ∙ omega (arith, stored-length)) at)
    where
      at : (q : ℕ) → q < length (take (length b) (drop (slot_at (blocks j) + 1) (stored j b)))
          → get_or (take (length b) (drop (slot_at (blocks j) + 1) (stored j b))) q 0 ≡ get_or b q 0
      at q l =
          let m : q < length b = omega (arith, length_part (length b) (slot_at (blocks j) + 1) (stored j b)) in
          let e : slot_at (blocks j) + 1 + q ≡ slot_at (blocks j) + suc q = omega arith in
          get_or-part (length b) (slot_at (blocks j) + 1) (stored j b) q m ∙ ap (λ (p : ℕ). get_or (stored j b) p 0) e ∙ stored-in (suc q) (omega arith)

module _ (j b : List ℕ) (size : length j ≡ journal_size) (ok : journal_ok j ≡ true) (room : blocks j < most_blocks) (good : well_formed b ≡ true) where
  f : Facts j
  f = journal_facts j ok

  most : length b ≤ block_most
  most = length_most (length b) (well_formed-length b good)

  pub length-stored : length (stored j b) ≡ journal_size
  length-stored = stored-length j b size room most

  pub phase-stored : phase (stored j b) ≡ phase j
  phase-stored = stored-before j b size room most 0 (λ e. absurd (omega arith)) (omega arith)

  pub blocks-stored : blocks (stored j b) ≡ blocks j + 1
  blocks-stored = stored-blocks j b size room most

  pub block_at-stored : (i : ℕ) → i < blocks j → block_at (stored j b) i ≡ block_at j i
  block_at-stored i l =
      block_at-kept j (stored j b) (same_size j b size room most) i (kept j b size room most i (λ e. absurd (omega arith)))
      (slot_most j f i (omega arith))

  pub block_at-new : block_at (stored j b) (blocks j) ≡ b
  block_at-new = stored-new j b size room most

  pub valid-stored : journal_ok (stored j b) ≡ true
  valid-stored =
      facts_journal (stored j b)
      (record {
        phase-le = rw phase-stored f.phase-le;
        blocks-le = rw blocks-stored (omega arith);
        used = λ i l. used-at i (rw blocks-stored at l) (ℕ_discrete i (blocks j));
        good = λ i l. good-at i (rw blocks-stored at l) (ℕ_discrete i (blocks j));
        unused = λ i g l. unused-at i (rw blocks-stored at g) l;
        rest = λ i l. rest_at i l (ℕ_discrete i (blocks j));
      })
    where
      length_at : (i : ℕ) → (i ≡ blocks j → ⊥) → slot_length (stored j b) i ≡ slot_length j i
      length_at i h = slot_length-kept j (stored j b) (same_size j b size room most) i (kept j b size room most i h)

      used-at : (i : ℕ) → i < blocks j + 1 → Dec (i ≡ blocks j) → block_length (slot_length (stored j b) i) ≡ true
      used-at i l (yes e) = rw (e, slot_length-new j b size room most) (well_formed-length b good)
      used-at i l (no e) = rw (length_at i e) (f.used i (omega arith))

      good-at : (i : ℕ) → i < blocks j + 1 → Dec (i ≡ blocks j) → first_bad (block_at (stored j b) i) ≡ records (block_at (stored j b) i)
      good-at i l (yes e) = rw (e, block_at-new) (well_formed-good b good)
      good-at i l (no e) = rw (block_at-stored i (omega arith)) (f.good i (omega arith))

      unused-at : (i : ℕ) → blocks j + 1 ≤ i → i < most_blocks → slot_length (stored j b) i ≡ 0
      unused-at i g l = length_at i (λ e. absurd (omega arith)) ∙ f.unused i (omega arith) l

      -- behind the new block stand the zeros of the slot when it was unused
      rest_at : (i : ℕ) → i < most_blocks → Dec (i ≡ blocks j) → all_zero (slot_rest (stored j b) i) ≡ true
      rest_at i l (yes e) = rw e (zero_rest (stored j b) (blocks j) new)
        where
          new : (q : ℕ) → slot_length (stored j b) (blocks j) ≤ q → q < block_most → get_or (stored j b) (slot_at (blocks j) + 1 + q) 0 ≡ 0
          new q g m =
              stored-after j b size room most (slot_at (blocks j) + 1 + q) (omega (arith, slot_length-new j b size room most))
              ∙ rest_zero j (blocks j) (f.rest (blocks j) room) q (omega (arith, f.unused (blocks j) (omega arith) room)) m
      rest_at i l (no e) =
          rw (slot_rest-kept j (stored j b) (same_size j b size room most) i (kept j b size room most i e)) (f.rest i l)

  -- whatever the blocks add up to, the new one adds to it
  sum-stored : (adds : List ℕ → ℕ) →
      sum_to (blocks (stored j b)) (λ i. adds (block_at (stored j b) i)) ≡ sum_to (blocks j) (λ i. adds (block_at j i)) + adds b
  sum-stored adds =
      rw (
        blocks-stored,
        sum_to-more,
        block_at-new,
        sum_to-cong (blocks j) (λ i. adds (block_at (stored j b) i)) (λ i. adds (block_at j i)) (λ i h. ap adds (block_at-stored i h)),
      )

  pub table_stored : table_of (stored j b) ≡ plus (table_of j) b
  table_stored = same_table (λ k l. sum-stored (λ b. block_cell b k l)) (sum-stored block_isolated)

-- storing the block of no bytes counts it, and writes no other byte: its slot is zero already
pub stored-empty : (j : List ℕ) → journal_ok j ≡ true → blocks j < most_blocks → stored j [] ≡ set j 1 (blocks j + 1)
stored-empty j ok room = ap (λ (x : List ℕ). set x 1 (blocks j + 1)) unchanged
  where
    unchanged : set j (slot_at (blocks j)) 0 ≡ j
    unchanged =
        ap (set j (slot_at (blocks j))) (sym ((journal_facts j ok).unused (blocks j) (omega arith) room)) ∙ set-get_or j (slot_at (blocks j)) 0
