-- A slot and its bytes: zeros behind the block, and two journals with equal bytes in a slot.
-- Assumes nothing.
use mathlib.Core.Path.{◌≡◌, sym, ap, ◌∙◌}
use mathlib.Core.Bool.{true}
use mathlib.Core.List.{List}
use Prim.Native.Nat.{ℕ, ◌+◌, ◌-◌, ◌≤◌, ◌<◌}
use native.Mathlib.Nat.{add-zero}
use native.Mathlib.Omega.{arith}
use lib.ListN.{length, get_or}
use Rattle.slices.specs.Slices.{all_zero}
use Rattle.slices.proofs.Part.{length_part, get_or-part, part-cong}
use Rattle.slices.proofs.Zero.{all_zero-at, zeros-all_zero}
use Rattle.table.specs.Block.{block_most}
use Rattle.journal.specs.Journal.{slot_size, slot_at, slot_length, block_at, slot_rest}

-- the bytes behind the block of slot i
module _ (j : List ℕ) (i : ℕ) where
  rest_at : (p : ℕ) → p < block_most - slot_length j i → get_or (slot_rest j i) p 0 ≡ get_or j (slot_at i + 1 + slot_length j i + p) 0
  rest_at p l = get_or-part (block_most - slot_length j i) (slot_at i + 1 + slot_length j i) j p l

  pub rest_zero : all_zero (slot_rest j i) ≡ true → (q : ℕ) → slot_length j i ≤ q → q < block_most → get_or j (slot_at i + 1 + q) 0 ≡ 0
  rest_zero h q g l =
      let e : slot_at i + 1 + q ≡ slot_at i + 1 + slot_length j i + (q - slot_length j i) = omega arith in
      ap (λ (p : ℕ). get_or j p 0) e ∙ sym (rest_at (q - slot_length j i) (omega arith)) ∙ all_zero-at (slot_rest j i) h (q - slot_length j i)

  pub zero_rest : ((q : ℕ) → slot_length j i ≤ q → q < block_most → get_or j (slot_at i + 1 + q) 0 ≡ 0) → all_zero (slot_rest j i) ≡ true
  zero_rest f = zeros-all_zero (slot_rest j i) at
    where
      at : (p : ℕ) → p < length (slot_rest j i) → get_or (slot_rest j i) p 0 ≡ 0
      at p l =
          let m : p < block_most - slot_length j i = omega (arith, length_part (block_most - slot_length j i) (slot_at i + 1 + slot_length j i) j) in
          let e : slot_at i + 1 + slot_length j i + p ≡ slot_at i + 1 + (slot_length j i + p) = omega arith in
          rest_at p m ∙ ap (λ (q : ℕ). get_or j q 0) e ∙ f (slot_length j i + p) (omega arith) (omega arith)

module _ (j m : List ℕ) (size : length m ≡ length j) (i : ℕ)
    (kept : (q : ℕ) → q < slot_size → get_or m (slot_at i + q) 0 ≡ get_or j (slot_at i + q) 0) where
  pub slot_length-kept : slot_length m i ≡ slot_length j i
  slot_length-kept = rw add-zero at (kept 0 (omega arith))

  -- the bytes from place 1 + k of the slot on
  from : (k p : ℕ) → k + p < block_most → get_or m (slot_at i + 1 + k + p) 0 ≡ get_or j (slot_at i + 1 + k + p) 0
  from k p l = let e : slot_at i + 1 + k + p ≡ slot_at i + (1 + k + p) = omega arith in rw e (kept (1 + k + p) (omega arith))

  pub block_at-kept : slot_length j i ≤ block_most → block_at m i ≡ block_at j i
  block_at-kept h =
      rw slot_length-kept
      (part-cong (slot_length j i) (slot_at i + 1) m j size (λ p l. rw (add-zero (slot_at i + 1)) at (from 0 p (omega arith))))

  pub slot_rest-kept : slot_rest m i ≡ slot_rest j i
  slot_rest-kept =
      rw slot_length-kept
      (part-cong (block_most - slot_length j i) (slot_at i + 1 + slot_length j i) m j size (λ p l. from (slot_length j i) p (omega arith)))
