-- Where the columns start, and that each bit has one place.
-- Assumes nothing.
use mathlib.Core.Path.{◌≡◌, refl, ap, ◌∙◌}
use Prim.Native.Nat.{ℕ, zero, suc, ◌+◌, ◌-◌, ◌≤◌, ◌<◌}
use lib.Dec.{eqb}
use lib.ListN.{get_or}
use native.Mathlib.Nat.{suc-mul, mul-suc, add-zero}
use native.Mathlib.Decide.{dec_lt}
use native.Mathlib.Omega.{arith}
use borrow.Author.Tests.{eqb-true}
use Rattle.finite.specs.Range.{sum_to}
use Rattle.finite.proofs.All.{all_to-at}
use Rattle.finite.proofs.Sum.{sum_to-split}
use Rattle.layout.specs.Layout.{most_vertices}
use Rattle.graph6.specs.Format.{column_start, most_bits}
use Rattle.graph6.proofs.Starts.{column_starts, starts_test}

-- entry w of the constant is where column w starts
pub column-start : (w : ℕ) → w < most_vertices → get_or column_starts w 0 ≡ column_start w
column-start w l =
    eqb-true (get_or column_starts w 0) (column_start w) (all_to-at (λ w. eqb (get_or column_starts w 0) (column_start w)) most_vertices starts_test w l)

pub columns_none : column_start 0 ≡ 0
unfolding column_start
columns_none = refl

columns_last : column_start most_vertices ≡ most_bits
unfolding column_start
columns_last = refl

-- a column has as many bits as vertices before it
pub columns_next : (n : ℕ) → column_start (suc n) ≡ column_start n + n
unfolding column_start
columns_next zero = refl
columns_next (suc n) =
    let e : suc (suc n) - 1 ≡ suc n = omega arith in
    let d : suc n - 1 ≡ n = omega arith in
    rw (e, d) (omega (arith, suc-mul (suc n) (suc n), mul-suc (suc n) n))

columns_longer : (n k : ℕ) → column_start n ≤ column_start (n + k)
columns_longer n zero = rw add-zero (omega arith)
columns_longer n (suc k) =
    let e : n + suc k ≡ suc (n + k) = omega arith in
    rw e (omega (arith, columns_next (n + k), columns_longer n k))

pub columns_mono : (m n : ℕ) → m ≤ n → column_start m ≤ column_start n
columns_mono m n h = let e : m + (n - m) ≡ n = omega arith in rw e at (columns_longer m (n - m))

-- a bit of column w stands before the columns behind it
pub place-before : (v w n : ℕ) → v < w → w < n → column_start w + v < column_start n
place-before v w n h l = omega (arith, columns_next w, columns_mono (suc w) n l)

-- two bits have two places
pub place_same : (v w x y : ℕ) → v < w → x < y → column_start w + v ≡ column_start y + x → (v ≡ x) × (w ≡ y)
place_same v w x y h l e = go (dec_lt w y) (dec_lt y w)
  where
    go : Dec (w < y) → Dec (y < w) → (v ≡ x) × (w ≡ y)
    go (yes p) q = absurd (omega (arith, place-before v w y h p))
    go (no p) (yes q) = absurd (omega (arith, place-before x y w l q))
    go (no p) (no q) = let s : w ≡ y = omega arith in let r = ap column_start s in (omega arith, s)

-- and each place before column n is that of a bit
pub place_of : (n q : ℕ) → q < column_start n → (v w : ℕ) × (v < w) × (w < n) × (q ≡ column_start w + v)
unfolding column_start
place_of zero q h = absurd (omega arith)
place_of (suc n) q h = go (dec_lt q (column_start n)) (place_of n q)
  where
    go : Dec (q < column_start n) → (q < column_start n → (v w : ℕ) × (v < w) × (w < n) × (q ≡ column_start w + v))
        → (v w : ℕ) × (v < w) × (w < suc n) × (q ≡ column_start w + v)
    go (yes l) before = let r = before l in (r.0, r.1, r.2, omega (arith, r.3), r.4)
    go (no l) before =
        (q - column_start n, n, omega (arith, columns_next n), omega arith, omega arith)

-- a sum over the places is one over the columns
pub columns_sum : (f : ℕ → ℕ) (n : ℕ) → sum_to (column_start n) f ≡ sum_to n (λ w. sum_to w (λ v. f (column_start w + v)))
unfolding sum_to
columns_sum f zero = ap (λ (n : ℕ). sum_to n f) columns_none
columns_sum f (suc n) = rw (columns_next n) (sum_to-split (column_start n) n f ∙ ap (λ (s : ℕ). s + sum_to n (λ v. f (column_start n + v))) (columns_sum f n))

-- of up to 200 vertices there are at most 19,900
pub columns_most : (n : ℕ) → n ≤ most_vertices → column_start n ≤ most_bits
columns_most n h = omega (arith, columns_mono n most_vertices h, columns_last)
