-- Laws of `fold_to`, `cat_to`, `fill_to` and `iterate`.
-- Assumes nothing.
use mathlib.Core.Path.{◌≡◌, refl, sym, ap, ◌∙◌}
use mathlib.Core.Bool.{Bool, true, false, cond}
use mathlib.Core.List.{List, [], ◌∷◌, ◌++◌}
use mathlib.Core.Logic.{⊎_elim}
use Prim.Native.Nat.{ℕ, zero, suc, ◌+◌, ◌-◌, ◌≤◌, ◌<◌}
use native.Mathlib.Nat.{not-suc-le-zero, eq-or-lt_of_le, le_of_suc-le-suc, add-zero, suc-add, add-suc}
use native.Mathlib.Numerals.{add-one}
use native.Mathlib.Omega.{arith}
use lib.ListN.{length, get_or, set, length-set, length-append}
use lib.Seq.{sets, get_or-set_same, get_or-set_other}
use Rattle.finite.specs.Range.{sum_to, fold_to, cat_to, iterate}
use Rattle.finite.specs.Inner.Fill.{fill_to}
use Rattle.finite.proofs.Sum.{sum_to-more, sum_to-le}

pub fold_to-none : {A : Type 0} (f : ℕ → A → A) (s : A) → fold_to 0 f s ≡ s
unfolding fold_to
fold_to-none f s = refl

pub fold_to-more : {A : Type 0} (f : ℕ → A → A) (s : A) (n : ℕ) → fold_to (n + 1) f s ≡ f n (fold_to n f s)
unfolding fold_to
fold_to-more f s n = rw add-one

-- one more turn, from the state x that the first i led to
pub fold_to-after : {A : Type 0} (f : ℕ → A → A) (s : A) (i : ℕ) (x y : A) → x ≡ fold_to i f s → y ≡ f i x → y ≡ fold_to (i + 1) f s
fold_to-after f s i x y ex ey = ey ∙ ap (f i) ex ∙ sym (fold_to-more f s i)

-- equal steps, one after the other, are equal
pub fold_to-cong : {A : Type 0} (f g : ℕ → A → A) (s : A) (n : ℕ) → ((i : ℕ) (x : A) → i < n → f i x ≡ g i x) → fold_to n f s ≡ fold_to n g s
unfolding fold_to
fold_to-cong f g s zero h = refl
fold_to-cong f g s (suc n) h =
    ap (f n) (fold_to-cong f g s n (λ i x l. h i x (omega arith))) ∙ h n (fold_to n g s) (omega arith)

pub cat_to-none : (f : ℕ → List ℕ) → cat_to 0 f ≡ []
unfolding cat_to
cat_to-none f = refl

pub cat_to-more : (f : ℕ → List ℕ) (n : ℕ) → cat_to (n + 1) f ≡ cat_to n f ++ f n
unfolding cat_to
cat_to-more f n = rw add-one

-- equal lists, one after the other, are equal
pub cat_to-cong : (f g : ℕ → List ℕ) (n : ℕ) → ((i : ℕ) → i < n → f i ≡ g i) → cat_to n f ≡ cat_to n g
unfolding cat_to
cat_to-cong f g zero h = refl
cat_to-cong f g (suc n) h = rw (cat_to-cong f g n (λ i l. h i (omega arith)), h n (omega arith))

pub cat_to-empty : (f : ℕ → List ℕ) (n : ℕ) → ((i : ℕ) → i < n → f i ≡ []) → cat_to n f ≡ []
unfolding cat_to
cat_to-empty f zero h = refl
cat_to-empty f (suc n) h = rw (cat_to-empty f n (λ i l. h i (omega arith)), h n (omega arith))

pub cat_to-length : (f : ℕ → List ℕ) (n : ℕ) → length (cat_to n f) ≡ sum_to n (λ i. length (f i))
unfolding cat_to sum_to
cat_to-length f zero = refl
cat_to-length f (suc n) = rw (length-append, cat_to-length f n)

-- the lists up to f m are a part of the whole
pub cat_to-part : (f : ℕ → List ℕ) (n m : ℕ) → m < n → length (cat_to m f) + length (f m) ≤ length (cat_to n f)
cat_to-part f n m h =
    rw (cat_to-length f m, cat_to-length f n, ← (sum_to-more (λ i. length (f i)) m)) (sum_to-le (m + 1) n (λ i. length (f i)) (omega arith))

-- what is written after a is written behind it
pub sets-append : (l : List ℕ) (i : ℕ) (a b : List ℕ) → sets l i (a ++ b) ≡ sets (sets l i a) (i + length a) b
sets-append l i [] b = rw add-zero
sets-append l i (x ∷ a) b = rw (sets-append (set l i x) (suc i) a b, suc-add, add-suc)

pub fill_to-none : (f : ℕ → ℕ) (t : List ℕ) → fill_to 0 f t ≡ t
unfolding fill_to
fill_to-none f t = refl

pub fill_to-more : (f : ℕ → ℕ) (t : List ℕ) (n : ℕ) → fill_to (n + 1) f t ≡ set (fill_to n f t) n (f n)
unfolding fill_to
fill_to-more f t n = rw add-one

pub fill_to-length : (f : ℕ → ℕ) (t : List ℕ) (n : ℕ) → length (fill_to n f t) ≡ length t
unfolding fill_to
fill_to-length f t zero = refl
fill_to-length f t (suc n) = rw (length-set, fill_to-length f t n)

pub fill_to-at : (f : ℕ → ℕ) (t : List ℕ) (n k : ℕ) → n ≤ length t → k < n → get_or (fill_to n f t) k 0 ≡ f k
unfolding fill_to
fill_to-at f t zero k h l = absurd (not-suc-le-zero l)
fill_to-at f t (suc n) k h l =
    ⊎_elim
    (λ e. ap (λ (j : ℕ). get_or (fill_to (suc n) f t) j 0) e ∙ get_or-set_same (fill_to n f t) n (f n) 0 (rw (fill_to-length f t n) h) ∙ sym (ap f e))
    (λ s. get_or-set_other (fill_to n f t) n k (f n) 0 (omega arith) ∙ fill_to-at f t n k (omega arith) s)
    (eq-or-lt_of_le (le_of_suc-le-suc l))

pub fill_to-behind : (f : ℕ → ℕ) (t : List ℕ) (n k : ℕ) → n ≤ k → get_or (fill_to n f t) k 0 ≡ get_or t k 0
unfolding fill_to
fill_to-behind f t zero k h = refl
fill_to-behind f t (suc n) k h = get_or-set_other (fill_to n f t) n k (f n) 0 (omega arith) ∙ fill_to-behind f t n k (omega arith)

module _ {A : Type 0} (m i : ℕ) (p : A → Bool) (f : A → A) (s : A) where
  pub iterate-next : i < m → p s ≡ true → iterate (m - i) p f s ≡ iterate (m - (i + 1)) p f (f s)
  unfolding iterate
  iterate-next h t = let e : m - i ≡ suc (m - suc i) = omega arith in rw (add-one, e, t)

  pub iterate-stop : p s ≡ false → iterate m p f s ≡ s
  unfolding iterate
  iterate-stop t = go m
    where
      go : (m : ℕ) → iterate m p f s ≡ s
      go zero = refl
      go (suc m) = rw t

-- what holds at first and is kept by each step holds at the end
pub fold_to-keeps : {A : Type 0} (P : ℕ → A → Type 0) (f : ℕ → A → A) (s : A) (n : ℕ) → P 0 s
    → ((i : ℕ) (x : A) → i < n → P i x → P (i + 1) (f i x)) → P n (fold_to n f s)
unfolding fold_to
fold_to-keeps P f s zero h k = h
fold_to-keeps P f s (suc n) h k =
    rw (← (add-one n)) (k n (fold_to n f s) (omega arith) (fold_to-keeps P f s n h (λ i x l. k i x (omega arith))))

pub iterate-keeps : {A : Type 0} (P : A → Type 0) (p : A → Bool) (f : A → A) (fuel : ℕ) (s : A) → P s
    → ((x : A) → P x → p x ≡ true → P (f x)) → P (iterate fuel p f s)
unfolding iterate
iterate-keeps P p f zero s h k = h
iterate-keeps P p f (suc fuel) s h k = go (p s) refl (λ q. iterate-keeps P p f fuel (f s) q k)
  where
    go : (t : Bool) → p s ≡ t → (P (f s) → P (iterate fuel p f (f s))) → P (cond t (iterate fuel p f (f s)) s)
    go true e rest = rest (k s h e)
    go false e rest = h
