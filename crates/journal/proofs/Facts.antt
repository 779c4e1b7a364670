-- What `journal_ok` says, as named facts, and back; the length of a slot and of its block.
-- Assumes nothing.
use mathlib.Core.Path.{◌≡◌, sym, ◌∙◌}
use mathlib.Core.Bool.{Bool, true, false, ◌&&◌, cond}
use mathlib.Core.List.{List, []}
use Prim.Native.Nat.{ℕ, ◌+◌, ◌≤◌, ◌<◌}
use native.Mathlib.Decide.{dec_lt}
use native.Mathlib.Omega.{arith}
use lib.Dec.{eqb, ltb, leb}
use lib.ListN.{length, drop, length-drop}
use lib.Seq.{length-take-le}
use borrow.Author.Tests.{leb-true, le-leb, lt-leb, eqb-true, eq-eqb, ne_eqb, lt-ltb, le-ltb}
use Rattle.finite.specs.Range.{all_to}
use Rattle.finite.proofs.All.{and_left, and_right, and_both, all_to-at, all_to-holds}
use Rattle.slices.specs.Slices.{all_zero}
use Rattle.table.specs.Block.{block_most, most_blocks, block_length, records, first_bad, well_formed}
use Rattle.table.proofs.Empty.{empty-well_formed}
use Rattle.journal.specs.Journal.{journal_size, phase_laid, phase, blocks, slot_at, slot_length, block_at, slot_rest, slot_ok, journal_ok}

-- phase 0 or 1; at most 64 blocks; a used slot has a block's length and good records, an unused one length 0; zeros behind
pub record Facts (j : List ℕ) : Type 0 where
  pub phase-le : phase j ≤ phase_laid
  pub blocks-le : blocks j ≤ most_blocks
  pub used : (i : ℕ) → i < blocks j → block_length (slot_length j i) ≡ true
  pub good : (i : ℕ) → i < blocks j → first_bad (block_at j i) ≡ records (block_at j i)
  pub unused : (i : ℕ) → blocks j ≤ i → i < most_blocks → slot_length j i ≡ 0
  pub rest : (i : ℕ) → i < most_blocks → all_zero (slot_rest j i) ≡ true

-- the tests of a used and of an unused slot
used_ok : List ℕ → ℕ → Bool
used_ok j i = block_length (slot_length j i) && eqb (first_bad (block_at j i)) (records (block_at j i))

module _ (j : List ℕ) (i : ℕ) where
  slot-used : i < blocks j → slot_ok j i ≡ used_ok j i && all_zero (slot_rest j i)
  unfolding used_ok
  slot-used l = rw (lt-ltb i (blocks j) l)

  slot-unused : blocks j ≤ i → slot_ok j i ≡ eqb (slot_length j i) 0 && all_zero (slot_rest j i)
  slot-unused l = rw (le-ltb i (blocks j) l)

  -- no slot is ok whose length byte is above a block's most
  pub slot_too_long : block_most < slot_length j i → slot_ok j i ≡ false
  unfolding used_ok
  slot_too_long h = go (dec_lt i (blocks j))
    where
      go : Dec (i < blocks j) → slot_ok j i ≡ false
      go (yes l) = slot-used l ∙ rw (lt-leb (slot_length j i) block_most h)
      go (no l) = slot-unused (omega arith) ∙ rw (ne_eqb (slot_length j i) 0 (λ e. absurd (omega arith)))

  -- a slot of length 0, all of it zero, is ok: used, it holds the block of no bytes, and only the count of blocks tells it from an unused one
  pub empty-slot : slot_length j i ≡ 0 → all_zero (slot_rest j i) ≡ true → slot_ok j i ≡ true
  unfolding used_ok
  empty-slot e z = go (dec_lt i (blocks j))
    where
      none : block_at j i ≡ []
      none = rw e

      well-formed : used_ok j i ≡ true
      well-formed = rw (none, e) empty-well_formed

      go : Dec (i < blocks j) → slot_ok j i ≡ true
      go (yes l) = slot-used l ∙ and_both (used_ok j i) (all_zero (slot_rest j i)) well-formed z
      go (no l) = slot-unused (omega arith) ∙ and_both (eqb (slot_length j i) 0) (all_zero (slot_rest j i)) (eq-eqb (slot_length j i) 0 e) z

pub journal_facts : (j : List ℕ) → journal_ok j ≡ true → Facts j
unfolding used_ok
journal_facts j h =
    let two = and_left (leb (phase j) phase_laid && leb (blocks j) most_blocks) (all_to most_blocks (slot_ok j)) h in
    let slots = all_to-at (slot_ok j) most_blocks (and_right (leb (phase j) phase_laid && leb (blocks j) most_blocks) (all_to most_blocks (slot_ok j)) h) in
    let most = leb-true (blocks j) most_blocks (and_right (leb (phase j) phase_laid) (leb (blocks j) most_blocks) two) in
    record {
      phase-le = leb-true (phase j) phase_laid (and_left (leb (phase j) phase_laid) (leb (blocks j) most_blocks) two);
      blocks-le = most;
      used = λ i l. and_left (block_length (slot_length j i)) _ (usable i l (slots i (omega arith)));
      good = λ i l. eqb-true _ _ (and_right (block_length (slot_length j i)) _ (usable i l (slots i (omega arith))));
      unused = λ i g l. eqb-true _ _ (and_left _ (all_zero (slot_rest j i)) (sym (slot-unused j i g) ∙ slots i l));
      rest = λ i l. and_right (cond (ltb i (blocks j)) (used_ok j i) (eqb (slot_length j i) 0)) (all_zero (slot_rest j i)) (slots i l);
    }
  where
    usable : (i : ℕ) → i < blocks j → slot_ok j i ≡ true → used_ok j i ≡ true
    usable i l e = and_left (used_ok j i) (all_zero (slot_rest j i)) (sym (slot-used j i l) ∙ e)

pub facts_journal : (j : List ℕ) → Facts j → journal_ok j ≡ true
unfolding used_ok
facts_journal j f =
    and_both _ (all_to most_blocks (slot_ok j))
    (and_both _ _ (le-leb (phase j) phase_laid f.phase-le) (le-leb (blocks j) most_blocks f.blocks-le))
    (all_to-holds (slot_ok j) most_blocks (λ i l. slot i l (dec_lt i (blocks j))))
  where
    slot : (i : ℕ) → i < most_blocks → Dec (i < blocks j) → slot_ok j i ≡ true
    slot i l (yes u) =
        slot-used j i u ∙ and_both (used_ok j i) (all_zero (slot_rest j i)) (and_both _ _ (f.used i u) (eq-eqb _ _ (f.good i u))) (f.rest i l)
    slot i l (no u) =
        slot-unused j i (omega arith) ∙ and_both _ (all_zero (slot_rest j i)) (eq-eqb _ _ (f.unused i (omega arith) l)) (f.rest i l)

-- what a block's length says
pub length_most : (n : ℕ) → block_length n ≡ true → n ≤ block_most
length_most n h = leb-true n block_most (and_left (leb n block_most) _ h)

module _ (j : List ℕ) (f : Facts j) (i : ℕ) (l : i < most_blocks) where
  pub slot_most : slot_length j i ≤ block_most
  slot_most = go (dec_lt i (blocks j))
    where
      go : Dec (i < blocks j) → slot_length j i ≤ block_most
      go (yes u) = length_most (slot_length j i) (f.used i u)
      go (no u) = omega (arith, f.unused i (omega arith) l)

-- a slot's block is as long as its length byte says
pub length-block : (j : List ℕ) (i : ℕ) → length j ≡ journal_size → i < most_blocks → slot_length j i ≤ block_most
    → length (block_at j i) ≡ slot_length j i
length-block j i e l h = length-take-le (slot_length j i) (drop (slot_at i + 1) j) (omega (arith, length-drop (slot_at i + 1) j))

-- a block that 4 and 5 let pass
module _ (b : List ℕ) (h : well_formed b ≡ true) where
  pub well_formed-length : block_length (length b) ≡ true
  well_formed-length = and_left (block_length (length b)) (eqb (first_bad b) (records b)) h

  pub well_formed-good : first_bad b ≡ records b
  well_formed-good = eqb-true _ _ (and_right (block_length (length b)) (eqb (first_bad b) (records b)) h)

-- the block of a used slot is one
pub used_well_formed : (j : List ℕ) → length j ≡ journal_size → Facts j → (i : ℕ) → i < blocks j → well_formed (block_at j i) ≡ true
used_well_formed j e f i l =
    let m : i < most_blocks = omega (arith, f.blocks-le) in
    and_both (block_length (length (block_at j i))) _ (rw (length-block j i e m (slot_most j f i m)) (f.used i l)) (eq-eqb _ _ (f.good i l))
