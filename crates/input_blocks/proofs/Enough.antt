-- What lies behind 65 blocks is not taken: block 64 is refused before.
-- Assumes nothing.
use mathlib.Core.Path.{◌≡◌, refl, sym, ap, ◌∙◌}
use mathlib.Core.List.{List}
use Prim.Native.Nat.{ℕ, zero, suc, ◌+◌, ◌-◌, ◌*◌, ◌≤◌, ◌<◌, min}
use native.Mathlib.Numerals.{add-one}
use native.Mathlib.Decide.{dec_lt}
use native.Mathlib.Omega.{arith}
use lib.ListN.{length, take, drop, length-take}
use lib.Seq.{take_all as whole_taken, get_or-take, ext_get_or}
use Rattle.std.specs.Prelude.{Ok, Err}
use Rattle.finite.proofs.Fold.{fold_to-none, fold_to-more}
use Rattle.answer.specs.Refusals.{Verdict, Go}
use Rattle.slices.proofs.Part.{length_part, get_or-part}
use Rattle.table.specs.Block.{block_most, most_blocks}
use Rattle.state.specs.State.{State}
use Rattle.input_blocks.specs.Blocks.{blocks_in, block_in, Taking, take_next, take_all, input_most}
use Rattle.input_blocks.proofs.Taking.{after, stays, full}

-- a part that lies in the first m elements
part_in : (n k m : ℕ) (l : List ℕ) → k + n ≤ m → m ≤ length l → take n (drop k (take m l)) ≡ take n (drop k l)
part_in n k m l h fits =
    let e : length (take m l) ≡ m = length-take m l ∙ (omega arith) in
    let a : length (take n (drop k (take m l))) ≡ n = length_part n k (take m l) ∙ ap (λ (s : ℕ). min n (s - k)) e ∙ (omega arith) in
    let b : length (take n (drop k l)) ≡ n = length_part n k l ∙ (omega arith) in
    ext_get_or 0 (take n (drop k (take m l))) (take n (drop k l)) (a ∙ sym b)
    (λ p q.
    let r : p < n = omega arith in
    get_or-part n k (take m l) p r ∙ get_or-take m l (k + p) 0 (omega arith) ∙ sym (get_or-part n k l p r))

module _ (s : State) (input : List ℕ) (long : input_most < length input) where
  same_block : (i : ℕ) → i < most_blocks + 1 → block_in (take input_most input) i ≡ block_in input i
  same_block i h = part_in block_most (block_most * i) input_most input (omega arith) (omega arith)

  same_next : (i : ℕ) (t : Taking) → i < most_blocks + 1 → take_next (take input_most input) i t ≡ take_next input i t
  same_next i t h = rw (same_block i h)

  same_after : (i : ℕ) → i ≤ most_blocks + 1 → after s (take input_most input) i ≡ after s input i
  same_after zero h =
      fold_to-none (take_next (take input_most input)) (record { state = s; verdict = Go })
      ∙ sym (fold_to-none (take_next input) (record { state = s; verdict = Go }))
  same_after (suc i) h =
      rw (← (add-one i))
      (fold_to-more (take_next (take input_most input)) (record { state = s; verdict = Go }) i
      ∙ ap (take_next (take input_most input) i) (same_after i (omega arith))
      ∙ same_next i (after s input i) (omega arith)
      ∙ sym (fold_to-more (take_next input) (record { state = s; verdict = Go }) i))

  -- block 64 is refused, and the refusal stays
  same-all : take_all s input ≡ take_all s (take input_most input)
  same-all = go (after s input (most_blocks + 1)).verdict refl
    where
      size : length (take input_most input) ≡ input_most
      size = length-take input_most input ∙ (omega arith)

      go : (v : Verdict) → (after s input (most_blocks + 1)).verdict ≡ v → take_all s input ≡ take_all s (take input_most input)
      go (Ok _) e = absurd (full s input e)
      go (Err r) e =
          let p : blocks_in input ≡ most_blocks + 1 + (blocks_in input - (most_blocks + 1)) = omega arith in
          let q : most_blocks + 1 ≡ blocks_in (take input_most input) = omega (arith, size) in
          ap (after s input) p
          ∙ stays s input (most_blocks + 1) (blocks_in input - (most_blocks + 1)) (after s input (most_blocks + 1)) r e refl
          ∙ sym (same_after (most_blocks + 1) (omega arith))
          ∙ ap (after s (take input_most input)) q

pub takes_enough : (s : State) (input : List ℕ) → take_all s input ≡ take_all s (take input_most input)
takes_enough s input = go (dec_lt input_most (length input))
  where
    go : Dec (input_most < length input) → take_all s input ≡ take_all s (take input_most input)
    go (yes h) = same-all s input h
    go (no h) = ap (take_all s) (sym (whole_taken input_most input (omega arith)))
