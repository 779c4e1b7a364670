-- Laws of `lowest`: it is in its range, the test holds there if it is below the end, no number before it passes,
-- it is the only such number, it is below the end where some number passes, and numbers that fail may be passed over.
-- Assumes nothing.
use mathlib.Core.Path.{◌≡◌, refl, sym, ◌∙◌}
use mathlib.Core.Bool.{Bool, true, false, cond, true≢false}
use mathlib.Core.Logic.{⊎_elim}
use Prim.Native.Nat.{ℕ, zero, suc, ◌+◌, ◌-◌, ◌≤◌, ◌<◌}
use native.Mathlib.Nat.{eq-or-lt_of_le, add-zero}
use native.Mathlib.Numerals.{add-one}
use native.Mathlib.Decide.{dec_lt}
use native.Mathlib.Omega.{arith}
use Rattle.finite.specs.Range.{lowest, low_from}

-- the step laws of a search that counts up
pub lowest-end : (a b : ℕ) (p : ℕ → Bool) → b ≤ a → lowest a b p ≡ a
unfolding lowest
lowest-end a b p h = let e : b - a ≡ 0 = omega arith in rw e

pub lowest-here : (a b : ℕ) (p : ℕ → Bool) → a < b → p a ≡ true → lowest a b p ≡ a
unfolding lowest
lowest-here a b p h t = let e : b - a ≡ suc (b - suc a) = omega arith in rw (e, t)

pub lowest-next : (a b : ℕ) (p : ℕ → Bool) → a < b → p a ≡ false → lowest a b p ≡ lowest (a + 1) b p
unfolding lowest
lowest-next a b p h t = let e : b - a ≡ suc (b - suc a) = omega arith in rw (add-one, e, t)

-- numbers that fail may be passed over
pub lowest-skip : (a c b : ℕ) (p : ℕ → Bool) → a ≤ c → c ≤ b → ((i : ℕ) → a ≤ i → i < c → p i ≡ false) → lowest a b p ≡ lowest c b p
lowest-skip a c b p h l f = let e : c ≡ a + (c - a) = omega arith in rw e (go (c - a) a (omega arith) (λ i m k. f i m (omega arith)))
  where
    go : (d a : ℕ) → a + d ≤ b → ((i : ℕ) → a ≤ i → i < a + d → p i ≡ false) → lowest a b p ≡ lowest (a + d) b p
    go zero a h f = rw add-zero
    go (suc d) a h f =
        let e : a + suc d ≡ a + 1 + d = omega arith in
        rw e (lowest-next a b p (omega arith) (f a (omega arith) (omega arith)) ∙ go d (a + 1) (omega arith) (λ i m k. f i (omega arith) (omega arith)))

-- equal tests, equal outcomes
low_from-cong : (n a : ℕ) (p q : ℕ → Bool) → ((i : ℕ) → a ≤ i → i < a + n → p i ≡ q i) → low_from n a p ≡ low_from n a q
unfolding low_from
low_from-cong zero a p q h = refl
low_from-cong (suc n) a p q h = rw (h a (omega arith) (omega arith), low_from-cong n (suc a) p q (λ i l m. h i (omega arith) (omega arith)))

pub lowest-cong : (a b : ℕ) (p q : ℕ → Bool) → ((i : ℕ) → a ≤ i → i < b → p i ≡ q i) → lowest a b p ≡ lowest a b q
unfolding lowest
lowest-cong a b p q h = low_from-cong (b - a) a p q (λ i l m. h i l (omega arith))

low_from-le : (n a : ℕ) (p : ℕ → Bool) → low_from n a p ≤ a + n
unfolding low_from
low_from-le zero a p = omega arith
low_from-le (suc n) a p = go (p a) (low_from-le n (suc a) p)
  where
    go : (t : Bool) → low_from n (suc a) p ≤ suc a + n → cond t a (low_from n (suc a) p) ≤ a + suc n
    go true h = omega arith
    go false h = omega arith

low_from-ge : (n a : ℕ) (p : ℕ → Bool) → a ≤ low_from n a p
unfolding low_from
low_from-ge zero a p = omega arith
low_from-ge (suc n) a p = go (p a) (low_from-ge n (suc a) p)
  where
    go : (t : Bool) → suc a ≤ low_from n (suc a) p → a ≤ cond t a (low_from n (suc a) p)
    go true h = omega arith
    go false h = omega arith

low_from-before : (n a : ℕ) (p : ℕ → Bool) (k : ℕ) → a ≤ k → k < low_from n a p → p k ≡ false
unfolding low_from
low_from-before zero a p k h l = absurd (omega arith)
low_from-before (suc n) a p k h l = go (p a) refl (low_from-before n (suc a) p k) l
  where
    go : (t : Bool) → p a ≡ t → (suc a ≤ k → k < low_from n (suc a) p → p k ≡ false) → k < cond t a (low_from n (suc a) p) → p k ≡ false
    go true e f m = absurd (omega arith)
    go false e f m = ⊎_elim (λ q. rw (← q) e) (λ s. f s m) (eq-or-lt_of_le h)

low_from-holds : (n a : ℕ) (p : ℕ → Bool) → low_from n a p < a + n → p (low_from n a p) ≡ true
unfolding low_from
low_from-holds zero a p l = absurd (omega arith)
low_from-holds (suc n) a p l = go (p a) refl (low_from-holds n (suc a) p) l
  where
    go : (t : Bool) → p a ≡ t → (low_from n (suc a) p < suc a + n → p (low_from n (suc a) p) ≡ true) → cond t a (low_from n (suc a) p) < a + suc n
        → p (cond t a (low_from n (suc a) p)) ≡ true
    go true e f m = e
    go false e f m = f (omega arith)

module _ (a b : ℕ) (p : ℕ → Bool) (h : a ≤ b) where
  pub lowest-ge : a ≤ lowest a b p
  unfolding lowest
  lowest-ge = low_from-ge (b - a) a p

  pub lowest-le : lowest a b p ≤ b
  unfolding lowest
  lowest-le = omega (arith, low_from-le (b - a) a p)

  pub lowest-before : (k : ℕ) → a ≤ k → k < lowest a b p → p k ≡ false
  unfolding lowest
  lowest-before k = low_from-before (b - a) a p k

  pub lowest-holds : lowest a b p < b → p (lowest a b p) ≡ true
  unfolding lowest
  lowest-holds l = low_from-holds (b - a) a p (omega arith)

  -- where some number passes, the lowest is found, and is no higher
  pub lowest-found : (k : ℕ) → a ≤ k → k < b → p k ≡ true → lowest a b p ≤ k
  lowest-found k g l t = go (dec_lt k (lowest a b p))
    where
      go : Dec (k < lowest a b p) → lowest a b p ≤ k
      go (yes s) = absurd (true≢false (sym t ∙ lowest-before k g s))
      go (no s) = omega arith

  -- a number that passes, with none before it, is the lowest
  pub lowest-only : (k : ℕ) → a ≤ k → k < b → p k ≡ true → ((j : ℕ) → a ≤ j → j < k → p j ≡ false) → lowest a b p ≡ k
  lowest-only k g l t f = go (dec_lt (lowest a b p) k)
    where
      go : Dec (lowest a b p < k) → lowest a b p ≡ k
      go (yes s) = absurd (true≢false (sym (lowest-holds (omega arith)) ∙ f (lowest a b p) lowest-ge s))
      go (no s) = omega (arith, lowest-found k g l t)

  -- where none passes, it is the end
  pub lowest-none : ((j : ℕ) → a ≤ j → j < b → p j ≡ false) → lowest a b p ≡ b
  lowest-none f = go (dec_lt (lowest a b p) b)
    where
      go : Dec (lowest a b p < b) → lowest a b p ≡ b
      go (yes s) = absurd (true≢false (sym (lowest-holds s) ∙ f (lowest a b p) lowest-ge s))
      go (no s) = omega (arith, lowest-le)
