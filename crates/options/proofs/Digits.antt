-- A word's number: what reading it digit by digit may go by.
-- Assumes nothing.
use mathlib.Core.Path.{◌≡◌}
use mathlib.Core.Bool.{Bool, true, false, ◌&&◌}
use mathlib.Core.List.{List}
use Prim.Native.Nat.{ℕ, zero, suc, ◌+◌, ◌-◌, ◌*◌, ◌≤◌, ◌<◌}
use native.Mathlib.Nat.{add-zero}
use native.Mathlib.Omega.{arith}
use lib.Dec.{leb}
use lib.ListN.{length, get_or}
use borrow.Author.Tests.{leb-true, le-leb, lt-leb, lt-ltb, le-ltb}
use Rattle.finite.specs.Range.{all_to, fold_to}
use Rattle.finite.proofs.All.{and_left, and_right, and-false, all_to-fails}
use Rattle.finite.proofs.Fold.{fold_to-more, fold_to-after}
use Rattle.std.specs.Prelude.{Some, None}
use Rattle.options.specs.Options.{is_digit, with_digit, value_of, number_end, word_number}

pub digit_range : (b : ℕ) → is_digit b ≡ true → (48 ≤ b) × (b ≤ 57)
digit_range b h = (leb-true 48 b (and_left (leb 48 b) (leb b 57) h), leb-true b 57 (and_right (leb 48 b) (leb b 57) h))

module _ (word : List ℕ) where
  -- the byte i is a digit
  abbrev pub digit_at : ℕ → Bool
  digit_at i = is_digit (get_or word i 0)

  -- the number of the first i digits
  abbrev pub value_to : ℕ → ℕ
  value_to i = fold_to i (with_digit word) 0

  -- one more
  pub value_next : (i value b : ℕ) → value ≡ value_to i → b ≡ get_or word i 0 → value * 10 + (b - 48) ≡ value_to (i + 1)
  value_next i value b e q = fold_to-after (with_digit word) 0 i value (value * 10 + (b - 48)) e (rw q)

  -- it only grows
  value_grows : (i k : ℕ) → value_to i ≤ value_to (i + k)
  value_grows i zero = rw add-zero (omega arith)
  value_grows i (suc k) =
      let q : i + suc k ≡ i + k + 1 = omega arith in
      rw q (omega (arith, value_grows i k, fold_to-more (with_digit word) 0 (i + k)))

  pub none_empty : length word ≡ 0 → None ≡ word_number word
  none_empty e = rw (lt-leb 1 (length word) (omega arith))

  pub none_other : (i : ℕ) → i < length word → digit_at i ≡ false → None ≡ word_number word
  none_other i l e = rw (all_to-fails digit_at (length word) i l e, and-false (leb 1 (length word)))

  pub none_large : (i : ℕ) → i ≤ length word → number_end ≤ value_to i → None ≡ word_number word
  none_large i l h =
      let q : i + (length word - i) ≡ length word = omega arith in
      let g : value_to i ≤ value_of word = rw q at (value_grows i (length word - i)) in
      rw (le-ltb (value_of word) number_end (omega arith), and-false (leb 1 (length word) && all_to (length word) digit_at))

  pub some : (length word ≡ 0 → ⊥) → all_to (length word) digit_at ≡ true → value_of word < number_end → Some (value_of word) ≡ word_number word
  some filled digits small = rw (le-leb 1 (length word) (omega arith), digits, lt-ltb (value_of word) number_end small)
