-- Laws of `all_to`.
-- Assumes nothing.
use mathlib.Core.Path.{◌≡◌, refl, sym, ◌∙◌}
use mathlib.Core.Bool.{Bool, true, false, ◌&&◌, ◌||◌, or-true}
use mathlib.Core.Logic.{⊎_elim}
use Prim.Native.Nat.{ℕ, zero, suc, ◌+◌, ◌≤◌, ◌<◌}
use native.Mathlib.Nat.{not-suc-le-zero, eq-or-lt_of_le, le_of_suc-le-suc}
use native.Mathlib.Numerals.{add-one}
use native.Mathlib.Decide.{dec_lt}
use native.Mathlib.Omega.{arith}
use lib.Dec.{ltb}
use borrow.Author.Tests.{le-ltb}
use Rattle.finite.specs.Range.{all_to}

pub and_left : (a b : Bool) → a && b ≡ true → a ≡ true
and_left true b e = refl
and_left false b e = e

pub and_right : (a b : Bool) → a && b ≡ true → b ≡ true
and_right true b e = e
and_right false b e = cc

pub and_both : (a b : Bool) → a ≡ true → b ≡ true → a && b ≡ true
and_both a b p q = rw (p, q)

pub and-false : (a : Bool) → a && false ≡ false
and-false true = refl
and-false false = refl

pub all_to-none : (p : ℕ → Bool) → all_to 0 p ≡ true
unfolding all_to
all_to-none p = refl

pub all_to-more : (p : ℕ → Bool) (n : ℕ) → all_to (n + 1) p ≡ all_to n p && p n
unfolding all_to
all_to-more p n = rw add-one

pub all_to-fails : (p : ℕ → Bool) (n k : ℕ) → k < n → p k ≡ false → all_to n p ≡ false
unfolding all_to
all_to-fails p zero k h e = absurd (not-suc-le-zero h)
all_to-fails p (suc n) k h e =
    ⊎_elim (λ q. rw (← q, e) (and-false (all_to k p))) (λ l. rw (all_to-fails p n k l e)) (eq-or-lt_of_le (le_of_suc-le-suc h))

pub all_to-at : (p : ℕ → Bool) (n : ℕ) → all_to n p ≡ true → (k : ℕ) → k < n → p k ≡ true
unfolding all_to
all_to-at p zero h k l = absurd (not-suc-le-zero l)
all_to-at p (suc n) h k l =
    ⊎_elim (λ q. rw q (and_right (all_to n p) (p n) h)) (λ m. all_to-at p n (and_left (all_to n p) (p n) h) k m) (eq-or-lt_of_le (le_of_suc-le-suc l))

pub all_to-holds : (p : ℕ → Bool) (n : ℕ) → ((k : ℕ) → k < n → p k ≡ true) → all_to n p ≡ true
unfolding all_to
all_to-holds p zero h = refl
all_to-holds p (suc n) h = and_both (all_to n p) (p n) (all_to-holds p n (λ k l. h k (omega arith))) (h n (omega arith))

pub all_to-cong : (p q : ℕ → Bool) (n : ℕ) → ((k : ℕ) → k < n → p k ≡ q k) → all_to n p ≡ all_to n q
unfolding all_to
all_to-cong p q zero h = refl
all_to-cong p q (suc n) h = rw (all_to-cong p q n (λ k l. h k (omega arith)), h n (omega arith))

-- tests that imply each other are equal
pub test_same : (a b : Bool) → (a ≡ true → b ≡ true) → (b ≡ true → a ≡ true) → a ≡ b
test_same true b f g = sym (f refl)
test_same false true f g = g refl
test_same false false f g = refl

-- a test of pairs that is the same in either order holds at all pairs where it holds at those in order
pub all_to-upper : (n : ℕ) (p : ℕ → ℕ → Bool) → ((k l : ℕ) → k < n → l < n → p k l ≡ p l k)
    → all_to n (λ k. all_to n (p k)) ≡ all_to n (λ k. all_to n (λ l. ltb l k || p k l))
all_to-upper n p s = test_same _ _ forth back
  where
    upper : ℕ → ℕ → Bool
    upper k l = ltb l k || p k l

    forth : all_to n (λ k. all_to n (p k)) ≡ true → all_to n (λ k. all_to n (upper k)) ≡ true
    forth h =
        all_to-holds (λ k. all_to n (upper k)) n
        (λ k i. all_to-holds (upper k) n (λ l j. rw (all_to-at (p k) n (all_to-at (λ k. all_to n (p k)) n h k i) l j) (or-true (ltb l k))))

    back : all_to n (λ k. all_to n (upper k)) ≡ true → all_to n (λ k. all_to n (p k)) ≡ true
    back h = all_to-holds (λ k. all_to n (p k)) n (λ k i. all_to-holds (p k) n (λ l j. pair k l i j (dec_lt l k)))
      where
        ordered : (k l : ℕ) → k < n → l < n → k ≤ l → p k l ≡ true
        ordered k l i j m = rw (le-ltb l k m) at (all_to-at (upper k) n (all_to-at (λ k. all_to n (upper k)) n h k i) l j)

        pair : (k l : ℕ) → k < n → l < n → Dec (l < k) → p k l ≡ true
        pair k l i j (yes m) = s k l i j ∙ ordered l k j i (omega arith)
        pair k l i j (no m) = ordered k l i j (omega arith)
