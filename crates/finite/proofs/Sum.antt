-- Laws of `sum_to`.
-- Assumes nothing.
use mathlib.Core.Path.{◌≡◌, refl, sym, ap, ◌∙◌}
use mathlib.Core.Logic.{◌≢◌, ⊎_elim}
use Prim.Native.Nat.{ℕ, zero, suc, ◌+◌, ◌*◌, ◌-◌, ◌≤◌, ◌<◌}
use native.Mathlib.Nat.{not-suc-le-zero, eq-or-lt_of_le, le_of_suc-le-suc, add-zero, add-suc, add_assoc, zero-mul, one-mul, mul-zero, mul-add, mul_comm, mul_left_comm, suc-mul}
use native.Mathlib.Numerals.{add-one}
use native.Mathlib.Decide.{ℕ_discrete, dec_lt}
use native.Mathlib.Omega.{arith}
use lib.Dec.{ltb}
use borrow.Author.Tests.{lt-ltb, le-ltb}
use Rattle.finite.specs.Range.{bit, δ, sum_to}
use Rattle.finite.proofs.Delta.{δ-self, δ-other, δ-sym}

pub sum_to-none : (f : ℕ → ℕ) → sum_to 0 f ≡ 0
unfolding sum_to
sum_to-none f = refl

pub sum_to-more : (f : ℕ → ℕ) (n : ℕ) → sum_to (n + 1) f ≡ sum_to n f + f n
unfolding sum_to
sum_to-more f n = rw add-one

-- equal terms, equal sums
pub sum_to-cong : (n : ℕ) (f g : ℕ → ℕ) → ((i : ℕ) → i < n → f i ≡ g i) → sum_to n f ≡ sum_to n g
unfolding sum_to
sum_to-cong zero f g h = refl
sum_to-cong (suc n) f g h = rw (sum_to-cong n f g (λ i l. h i (omega arith)), h n (omega arith))

pub sum_to-cong₂ : (n m : ℕ) (f g : ℕ → ℕ → ℕ) → ((i j : ℕ) → i < n → j < m → f i j ≡ g i j)
    → sum_to n (λ i. sum_to m (f i)) ≡ sum_to n (λ i. sum_to m (g i))
sum_to-cong₂ n m f g h =
    sum_to-cong n (λ i. sum_to m (f i)) (λ i. sum_to m (g i)) (λ i l. sum_to-cong m (f i) (g i) (λ j k. h i j l k))

pub sum_to-add : (n : ℕ) (f g : ℕ → ℕ) → sum_to n (λ i. f i + g i) ≡ sum_to n f + sum_to n g
unfolding sum_to
sum_to-add zero f g = refl
sum_to-add (suc n) f g = rw (sum_to-add n f g) (omega arith)

pub sum_to-scale : (c n : ℕ) (f : ℕ → ℕ) → sum_to n (λ i. c * f i) ≡ c * sum_to n f
unfolding sum_to
sum_to-scale c zero f = sym (mul-zero c)
sum_to-scale c (suc n) f = rw (sum_to-scale c n f, mul-add)

pub sum_to-scale_right : (c n : ℕ) (f : ℕ → ℕ) → sum_to n (λ i. f i * c) ≡ sum_to n f * c
sum_to-scale_right c n f = sum_to-cong n (λ i. f i * c) (λ i. c * f i) (λ i l. mul_comm (f i) c) ∙ sum_to-scale c n f ∙ mul_comm c (sum_to n f)

pub sum_to-const : (c n : ℕ) → sum_to n (λ i. c) ≡ n * c
unfolding sum_to
sum_to-const c zero = sym (zero-mul c)
sum_to-const c (suc n) = rw (sum_to-const c n, suc-mul)

pub sum_to-zero : (n : ℕ) (f : ℕ → ℕ) → ((i : ℕ) → i < n → f i ≡ 0) → sum_to n f ≡ 0
unfolding sum_to
sum_to-zero zero f h = refl
sum_to-zero (suc n) f h = rw (sum_to-zero n f (λ i l. h i (omega arith)), h n (omega arith))

-- the order of two sums does not matter
pub sum_to-swap : (n m : ℕ) (f : ℕ → ℕ → ℕ) → sum_to n (λ i. sum_to m (λ j. f i j)) ≡ sum_to m (λ j. sum_to n (λ i. f i j))
unfolding sum_to
sum_to-swap zero m f = sym (sum_to-zero m (λ j. 0) (λ i l. refl))
sum_to-swap (suc n) m f = rw (sum_to-swap n m f) (sym (sum_to-add m (λ j. sum_to n (λ i. f i j)) (f n)))

-- one index
pub sum_to-at : (n j : ℕ) (f : ℕ → ℕ) → j < n → sum_to n (λ i. δ i j * f i) ≡ f j
unfolding sum_to
sum_to-at zero j f h = absurd (not-suc-le-zero h)
sum_to-at (suc n) j f h = ⊎_elim last (λ l. earlier l (sum_to-at n j f l)) (eq-or-lt_of_le (le_of_suc-le-suc h))
  where
    last : j ≡ n → sum_to n (λ i. δ i j * f i) + δ n j * f n ≡ f j
    last e =
        rw (sum_to-zero n (λ i. δ i j * f i) (λ i l. rw (δ-other i j (omega arith)) (zero-mul (f i))))
        (rw (e, δ-self n, one-mul (f n)) (omega arith))

    earlier : j < n → sum_to n (λ i. δ i j * f i) ≡ f j → sum_to n (λ i. δ i j * f i) + δ n j * f n ≡ f j
    earlier l ih = rw (ih, δ-other n j (omega arith), zero-mul (f n)) (add-zero (f j))

-- a sum that is 0 but at one index
pub sum_to-point : (n j c : ℕ) (f : ℕ → ℕ) → j < n → sum_to n (λ i. f i * (δ i j * c)) ≡ f j * c
sum_to-point n j c f h =
    sum_to-cong n (λ i. f i * (δ i j * c)) (λ i. δ i j * (f i * c)) (λ i l. mul_left_comm (f i) (δ i j) c) ∙ sum_to-at n j (λ i. f i * c) h

-- of the weights δ j i only the one at j counts
pub sum_to-only : (n j c : ℕ) → j < n → sum_to n (λ i. δ j i * c) ≡ c
sum_to-only n j c h = sum_to-cong n (λ i. δ j i * c) (λ i. δ i j * c) (λ i l. ap (λ (d : ℕ). d * c) (δ-sym j i)) ∙ sum_to-at n j (λ i. c) h

pub sum_to-mono : (n : ℕ) (f g : ℕ → ℕ) → ((i : ℕ) → i < n → f i ≤ g i) → sum_to n f ≤ sum_to n g
unfolding sum_to
sum_to-mono zero f g h = omega arith
sum_to-mono (suc n) f g h = omega (arith, sum_to-mono n f g (λ i l. h i (omega arith)), h n (omega arith))

-- one smaller term among terms that are no larger makes the sum smaller
pub sum_to-strict : (n : ℕ) (f g : ℕ → ℕ) → ((i : ℕ) → i < n → f i ≤ g i) → (j : ℕ) → j < n → f j < g j → sum_to n f < sum_to n g
unfolding sum_to
sum_to-strict zero f g h j l s = absurd (not-suc-le-zero l)
sum_to-strict (suc n) f g h j l s =
    ⊎_elim
    (λ e. let t : f n < g n = rw e at s in omega (arith, sum_to-mono n f g (λ i m. h i (omega arith))))
    (λ m. omega (arith, sum_to-strict n f g (λ i k. h i (omega arith)) j m s, h n (omega arith)))
    (eq-or-lt_of_le (le_of_suc-le-suc l))

-- what one term is smaller by, among terms that are no larger, the sum is smaller by
pub sum_to-gap : (n : ℕ) (f g : ℕ → ℕ) → ((i : ℕ) → i < n → f i ≤ g i) → (j c : ℕ) → j < n → f j + c ≤ g j → sum_to n f + c ≤ sum_to n g
sum_to-gap n f g h j c l s =
    rw (← (sum_to-at n j (λ i. c) l), ← (sum_to-add n f (λ i. δ i j * c)))
    (sum_to-mono n (λ i. f i + δ i j * c) g (λ i m. term i m (ℕ_discrete i j)))
  where
    term : (i : ℕ) → i < n → Dec (i ≡ j) → f i + δ i j * c ≤ g i
    term i m (yes e) = rw (e, δ-self j, one-mul c) s
    term i m (no e) = rw (δ-other i j e, zero-mul c, add-zero (f i)) (h i m)

-- a smaller sum has a smaller term
pub sum_to-less : (n : ℕ) (f g : ℕ → ℕ) → sum_to n f < sum_to n g → (i : ℕ) × (i < n) × (f i < g i)
unfolding sum_to
sum_to-less zero f g h = absurd (omega arith)
sum_to-less (suc n) f g h = go (dec_lt (f n) (g n)) (sum_to-less n f g)
  where
    go : Dec (f n < g n) → (sum_to n f < sum_to n g → (i : ℕ) × (i < n) × (f i < g i)) → (i : ℕ) × (i < suc n) × (f i < g i)
    go (yes l) ih = (n, omega arith, l)
    go (no l) ih = let r = ih (omega arith) in (r.0, omega (arith, r.1), r.2)

-- equal sums of terms that are no larger have equal terms
pub sum_to-tight : (n : ℕ) (f g : ℕ → ℕ) → ((i : ℕ) → i < n → f i ≤ g i) → sum_to n f ≡ sum_to n g → (i : ℕ) → i < n → f i ≡ g i
sum_to-tight n f g h e i l = go (dec_lt (f i) (g i))
  where
    go : Dec (f i < g i) → f i ≡ g i
    go (yes s) = absurd (omega (arith, sum_to-strict n f g h i l s))
    go (no s) = omega (arith, h i l)

-- the same of sums over pairs
pub sum_to-mono₂ : (n m : ℕ) (f g : ℕ → ℕ → ℕ) → ((i j : ℕ) → i < n → j < m → f i j ≤ g i j)
    → sum_to n (λ i. sum_to m (f i)) ≤ sum_to n (λ i. sum_to m (g i))
sum_to-mono₂ n m f g h =
    sum_to-mono n (λ i. sum_to m (f i)) (λ i. sum_to m (g i)) (λ i l. sum_to-mono m (f i) (g i) (λ j k. h i j l k))

pub sum_to-strict₂ : (n m : ℕ) (f g : ℕ → ℕ → ℕ) → ((i j : ℕ) → i < n → j < m → f i j ≤ g i j)
    → (i j : ℕ) → i < n → j < m → f i j < g i j → sum_to n (λ i. sum_to m (f i)) < sum_to n (λ i. sum_to m (g i))
sum_to-strict₂ n m f g h i j l k s =
    sum_to-strict n (λ i. sum_to m (f i)) (λ i. sum_to m (g i)) (λ i l. sum_to-mono m (f i) (g i) (λ j k. h i j l k))
    i l (sum_to-strict m (f i) (g i) (λ j k. h i j l k) j k s)

pub sum_to-less₂ : (n m : ℕ) (f g : ℕ → ℕ → ℕ) → sum_to n (λ i. sum_to m (f i)) < sum_to n (λ i. sum_to m (g i))
    → (i j : ℕ) × (i < n) × (j < m) × (f i j < g i j)
sum_to-less₂ n m f g h =
    let a = sum_to-less n (λ i. sum_to m (f i)) (λ i. sum_to m (g i)) h in
    let b = sum_to-less m (f a.0) (g a.0) a.2 in
    (a.0, b.0, a.1, b.1, b.2)

pub sum_to-tight₂ : (n m : ℕ) (f g : ℕ → ℕ → ℕ) → ((i j : ℕ) → i < n → j < m → f i j ≤ g i j)
    → sum_to n (λ i. sum_to m (f i)) ≡ sum_to n (λ i. sum_to m (g i)) → (i j : ℕ) → i < n → j < m → f i j ≡ g i j
sum_to-tight₂ n m f g h e i j l k =
    sum_to-tight m (f i) (g i) (λ j k. h i j l k)
    (sum_to-tight n (λ i. sum_to m (f i)) (λ i. sum_to m (g i)) (λ i l. sum_to-mono m (f i) (g i) (λ j k. h i j l k)) e i l) j k

-- a term is at most the sum
pub sum_to-term : (n : ℕ) (f : ℕ → ℕ) (j : ℕ) → j < n → f j ≤ sum_to n f
unfolding sum_to
sum_to-term zero f j l = absurd (not-suc-le-zero l)
sum_to-term (suc n) f j l =
    ⊎_elim (λ e. rw e (omega arith)) (λ m. omega (arith, sum_to-term n f j m)) (eq-or-lt_of_le (le_of_suc-le-suc l))

-- a longer sum is no smaller
pub sum_to-longer : (n k : ℕ) (f : ℕ → ℕ) → sum_to n f ≤ sum_to (n + k) f
unfolding sum_to
sum_to-longer n zero f = rw add-zero (omega arith)
sum_to-longer n (suc k) f = rw add-suc (omega (arith, sum_to-longer n k f))

pub sum_to-le : (n m : ℕ) (f : ℕ → ℕ) → n ≤ m → sum_to n f ≤ sum_to m f
sum_to-le n m f h = let e : m ≡ n + (m - n) = omega arith in rw e (sum_to-longer n (m - n) f)

-- a sum in two parts
pub sum_to-split : (n k : ℕ) (f : ℕ → ℕ) → sum_to (n + k) f ≡ sum_to n f + sum_to k (λ i. f (n + i))
unfolding sum_to
sum_to-split n zero f = rw (add-zero, add-zero)
sum_to-split n (suc k) f = rw (add-suc, sum_to-split n k f) (add_assoc (sum_to n f) (sum_to k (λ i. f (n + i))) (f (n + k)))

-- two sums that differ at one index only
pub sum_to-change : (n j : ℕ) (f g : ℕ → ℕ) → j < n → ((i : ℕ) → i ≢ j → f i ≡ g i) → sum_to n f + g j ≡ sum_to n g + f j
unfolding sum_to
sum_to-change zero j f g h same = absurd (not-suc-le-zero h)
sum_to-change (suc n) j f g h same =
    ⊎_elim
    (λ e. rw e (omega (arith, sum_to-cong n f g (λ i l. same i (omega arith)))))
    (λ l. omega (arith, sum_to-change n j f g l same, same n (omega arith)))
    (eq-or-lt_of_le (le_of_suc-le-suc h))

-- a sum of which only the d terms from s on count
pub sum_to-part : (n s d : ℕ) (f : ℕ → ℕ) → s + d ≤ n → ((i : ℕ) → i < s → f i ≡ 0) → ((i : ℕ) → s + d ≤ i → i < n → f i ≡ 0)
    → sum_to n f ≡ sum_to d (λ i. f (s + i))
sum_to-part n s d f h before behind =
    let e : n ≡ s + d + (n - (s + d)) = omega arith in
    omega (
      arith,
      ap (λ (m : ℕ). sum_to m f) e,
      sum_to-split (s + d) (n - (s + d)) f,
      sum_to-split s d f,
      sum_to-zero s f before,
      sum_to-zero (n - (s + d)) (λ i. f (s + d + i)) (λ i l. behind (s + d + i) (omega arith) (omega arith)),
    )

-- how many numbers below n are below p
pub sum_to-below : (n p : ℕ) → p ≤ n → sum_to n (λ v. bit (ltb v p)) ≡ p
unfolding sum_to
sum_to-below zero p h = omega arith
sum_to-below (suc n) p h = ⊎_elim whole (λ l. part l (sum_to-below n p (omega arith))) (eq-or-lt_of_le h)
  where
    all : (m : ℕ) → m ≤ p → sum_to m (λ v. bit (ltb v p)) ≡ m
    all zero l = refl
    all (suc m) l = rw (all m (omega arith), lt-ltb m p (omega arith)) (add-one m)

    whole : p ≡ suc n → sum_to n (λ v. bit (ltb v p)) + bit (ltb n p) ≡ p
    whole e = rw (all n (omega arith), lt-ltb n p (omega arith)) (omega arith)

    part : p < suc n → sum_to n (λ v. bit (ltb v p)) ≡ p → sum_to n (λ v. bit (ltb v p)) + bit (ltb n p) ≡ p
    part l ih = rw (ih, le-ltb n p (omega arith)) (add-zero p)

-- equal terms below the diagonal, equal sums over the lower triangle
pub sum_to-cong_lower : (n : ℕ) (f g : ℕ → ℕ → ℕ) → ((v w : ℕ) → v < n → w < v → f v w ≡ g v w)
    → sum_to n (λ v. sum_to v (f v)) ≡ sum_to n (λ v. sum_to v (g v))
sum_to-cong_lower n f g h =
    sum_to-cong n (λ v. sum_to v (f v)) (λ v. sum_to v (g v)) (λ v l. sum_to-cong v (f v) (g v) (λ w m. h v w l m))

pub sum_to-scale_lower : (c n : ℕ) (f : ℕ → ℕ → ℕ) → sum_to n (λ v. sum_to v (λ w. c * f v w)) ≡ c * sum_to n (λ v. sum_to v (f v))
sum_to-scale_lower c n f =
    sum_to-cong n (λ v. sum_to v (λ w. c * f v w)) (λ v. c * sum_to v (f v)) (λ v l. sum_to-scale c v (f v)) ∙ sum_to-scale c n (λ v. sum_to v (f v))

-- a sum with an empty diagonal is that over its lower triangle, each place taken with its mirror image
pub sum_to-mirror : (n : ℕ) (f : ℕ → ℕ → ℕ) → ((v : ℕ) → v < n → f v v ≡ 0)
    → sum_to n (λ v. sum_to n (f v)) ≡ sum_to n (λ v. sum_to v (λ w. f v w + f w v))
unfolding sum_to
sum_to-mirror zero f d = refl
sum_to-mirror (suc n) f d =
    rw (
      sum_to-add n (λ v. sum_to n (f v)) (λ v. f v n),
      sum_to-mirror n f (λ v l. d v (omega arith)),
      sum_to-add n (f n) (λ w. f w n),
      d n (omega arith),
    )
    (omega arith)

-- a symmetric one is twice its lower triangle
pub sum_to-triangle : (n : ℕ) (f : ℕ → ℕ → ℕ) → ((v w : ℕ) → v < n → w < n → f v w ≡ f w v) → ((v : ℕ) → v < n → f v v ≡ 0)
    → sum_to n (λ v. sum_to n (f v)) ≡ 2 * sum_to n (λ v. sum_to v (f v))
sum_to-triangle n f s d =
    sum_to-mirror n f d
    ∙ sum_to-cong_lower n (λ v w. f v w + f w v) (λ v w. 2 * f v w) (λ v w l m. omega (arith, s v w l (omega arith)))
    ∙ sum_to-scale_lower 2 n f
