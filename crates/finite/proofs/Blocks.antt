-- Lists of the same length, one behind the other: how long they are together, and what stands where.
-- Assumes nothing.
use mathlib.Core.Path.{◌≡◌, refl, sym, ap, ◌∙◌}
use mathlib.Core.List.{List, [], ◌∷◌, ◌++◌}
use Prim.Native.Nat.{ℕ, zero, suc, ◌+◌, ◌*◌, ◌<◌}
use native.Mathlib.Omega.{arith}
use lib.ListN.{length, get_or, length-append, get_or-append}
use lib.Seq.{get_or-append-add}
use native.Mathlib.Decide.{dec_lt}
use Rattle.finite.specs.Range.{cat_to}

-- one number each
module _ (f : ℕ → ℕ) where
  pub singles_length : (n : ℕ) → length (cat_to n (λ i. f i ∷ [])) ≡ n
  unfolding cat_to
  singles_length zero = refl
  singles_length (suc n) = rw length-append (omega (arith, singles_length n))

  pub singles_at : (n i : ℕ) → i < n → get_or (cat_to n (λ i. f i ∷ [])) i 0 ≡ f i
  unfolding cat_to
  singles_at zero i h = absurd (omega arith)
  singles_at (suc n) i h = go (dec_lt i n) (singles_at n i)
    where
      go : Dec (i < n) → (i < n → get_or (cat_to n (λ i. f i ∷ [])) i 0 ≡ f i) → get_or (cat_to n (λ i. f i ∷ []) ++ (f n ∷ [])) i 0 ≡ f i
      go (yes l) before = get_or-append (cat_to n (λ i. f i ∷ [])) (f n ∷ []) 0 i (omega (arith, singles_length n)) ∙ before l
      go (no l) before =
          let e : i ≡ n = omega arith in
          let s : i ≡ length (cat_to n (λ i. f i ∷ [])) + 0 = omega (arith, singles_length n) in
          ap (λ (j : ℕ). get_or (cat_to n (λ i. f i ∷ []) ++ (f n ∷ [])) j 0) s ∙ get_or-append-add (cat_to n (λ i. f i ∷ [])) (f n ∷ []) 0 0 ∙ ap f (sym e)

-- six numbers each
module _ (F : ℕ → List ℕ) (sized : (p : ℕ) → length (F p) ≡ 6) where
  pub sixes_length : (n : ℕ) → length (cat_to n F) ≡ 6 * n
  unfolding cat_to
  sixes_length zero = refl
  sixes_length (suc n) = rw length-append (omega (arith, sixes_length n, sized n))

  pub sixes_at : (n p i : ℕ) → p < n → i < 6 → get_or (cat_to n F) (6 * p + i) 0 ≡ get_or (F p) i 0
  unfolding cat_to
  sixes_at zero p i h l = absurd (omega arith)
  sixes_at (suc n) p i h l = go (dec_lt p n) (λ m. sixes_at n p i m l)
    where
      go : Dec (p < n) → (p < n → get_or (cat_to n F) (6 * p + i) 0 ≡ get_or (F p) i 0) → get_or (cat_to n F ++ F n) (6 * p + i) 0 ≡ get_or (F p) i 0
      go (yes m) before = get_or-append (cat_to n F) (F n) 0 (6 * p + i) (omega (arith, sixes_length n)) ∙ before m
      go (no m) before =
          let e : p ≡ n = omega arith in
          let s : 6 * p + i ≡ length (cat_to n F) + i = omega (arith, sixes_length n) in
          ap (λ (j : ℕ). get_or (cat_to n F ++ F n) j 0) s ∙ get_or-append-add (cat_to n F) (F n) i 0 ∙ ap (λ (j : ℕ). get_or (F j) i 0) (sym e)
