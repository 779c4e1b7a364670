-- The fewest digits that hold a number are one number, and how long the lines are.
-- Assumes nothing.
use mathlib.Core.Path.{◌≡◌, refl, ap, ◌∙◌}
use mathlib.Core.Bool.{false}
use mathlib.Core.List.{List}
use Prim.Native.Nat.{ℕ, zero, suc, ◌+◌, ◌-◌, ◌*◌, ◌/◌, ◌^◌, ◌≤◌, ◌<◌}
use native.Mathlib.Nat.{pow-le-pow_right}
use native.Mathlib.Numerals.{add-one}
use native.Mathlib.Decide.{dec_lt}
use native.Mathlib.Omega.{arith}
use lib.Dec.{ltb}
use lib.ListN.{length, get_or, length-append}
use borrow.Author.Tests.{lt-ltb, le-ltb}
use Rattle.io.specs.Digits.{last_digits, IsDigitCount}
use Rattle.finite.specs.Range.{lowest}
use Rattle.finite.proofs.Lowest.{lowest-le, lowest-found, lowest-only, lowest-none}
use Rattle.finite.proofs.Fold.{cat_to-length}
use Rattle.finite.proofs.Sum.{sum_to-mono, sum_to-const}
use Rattle.answer.specs.declared.Refusal.{Refusal}
use Rattle.text.specs.Text.{decimal_most, decimal, field, refused_line, head_line, edge_line, edge_line_at, edge_lines, head_most, edge_most}

-- a number below 10^20 has at most 20 digits
fewest_most : (n k : ℕ) → n < 10 ^ decimal_most → IsDigitCount 10 1 n k → k ≤ decimal_most
fewest_most n k small f = go (dec_lt decimal_most k)
  where
    go : Dec (decimal_most < k) → k ≤ decimal_most
    go (yes h) =
        absurd (omega (arith, small, pow-le-pow_right {n = 10} (omega arith) {i = decimal_most} {j = k - 1} (omega arith), f.2 (omega arith)))
    go (no h) = omega arith

fewest_lowest : (n k : ℕ) → k ≤ decimal_most → IsDigitCount 10 1 n k → lowest 1 decimal_most (λ i. ltb n (10 ^ i)) ≡ k
fewest_lowest n k most f = go (dec_lt k decimal_most)
  where
    below : (i : ℕ) → 1 ≤ i → i < k → ltb n (10 ^ i) ≡ false
    below i l h =
        le-ltb n (10 ^ i) (omega (arith, pow-le-pow_right {n = 10} (omega arith) {i = i} {j = k - 1} (omega arith), f.2 (omega arith)))

    go : Dec (k < decimal_most) → lowest 1 decimal_most (λ i. ltb n (10 ^ i)) ≡ k
    go (yes h) = lowest-only 1 decimal_most (λ i. ltb n (10 ^ i)) (omega arith) k f.0 h (lt-ltb n (10 ^ k) f.1) below
    go (no h) =
        let e : decimal_most ≡ k = omega arith in
        lowest-none 1 decimal_most (λ i. ltb n (10 ^ i)) (omega arith) (λ i l m. below i l (omega arith)) ∙ e

digits_length : (k n : ℕ) → length (last_digits 10 k n) ≡ k
digits_length zero n = refl
digits_length (suc k) n = rw (length-append, digits_length k (n / 10)) (add-one k)

pub decimal-fewest : (n k : ℕ) → n < 10 ^ decimal_most → IsDigitCount 10 1 n k → decimal n ≡ last_digits 10 k n
decimal-fewest n k small f = ap (λ (k : ℕ). last_digits 10 k n) (fewest_lowest n k (fewest_most n k small f) f)

-- a number has at most 20 digits ..
pub decimal-length : (n : ℕ) → length (decimal n) ≤ decimal_most
decimal-length n = rw (digits_length (lowest 1 decimal_most (λ k. ltb n (10 ^ k))) n) (lowest-le 1 decimal_most (λ k. ltb n (10 ^ k)) (omega arith))

-- so that there is room for a word and a number where there is for the word and 20 digits
pub field_room : (word : List ℕ) (n p k : ℕ) → p + length word + decimal_most ≤ k → p + length (field word n) ≤ k
field_room word n p k h = omega (arith, h, length-append word (decimal n), decimal-length n)

-- .. and one below 1,000 at most 3
decimal-short : (n : ℕ) → n < 1000 → length (decimal n) ≤ 3
decimal-short n h =
    rw (digits_length (lowest 1 decimal_most (λ k. ltb n (10 ^ k))) n)
    (lowest-found 1 decimal_most (λ k. ltb n (10 ^ k)) (omega arith) 3 (omega arith) (omega arith) (lt-ltb n 1000 h))

-- a refusal and a first line fit
pub refused-length : (r : Refusal) → length (refused_line r) ≤ head_most
refused-length r =
    simp length-append
    (omega (arith, decimal-length (Rattle.answer.specs.Numbers.number_of r.cause), decimal-length r.first, decimal-length r.second))

pub head_length : (n links switches : ℕ) → length (head_line n links switches) ≤ head_most
head_length n links switches = simp length-append (omega (arith, decimal-length n, decimal-length links, decimal-length switches))

edge-length : (v w : ℕ) → v < 1000 → w < 1000 → length (edge_line v w) ≤ edge_most
edge-length v w a b = simp length-append (omega (arith, decimal-short v a, decimal-short w b))

-- and the lines of an edge list whose vertices are below 1,000
pub edges-length : (e : List ℕ) → ((i : ℕ) → i < length e / 2 → (get_or e (2 * i) 0 < 1000) × (get_or e (2 * i + 1) 0 < 1000))
    → length (edge_lines e) ≤ edge_most * (length e / 2)
edges-length e small =
    omega (
      arith,
      cat_to-length (edge_line_at e) (length e / 2),
      sum_to-mono (length e / 2) (λ i. length (edge_line_at e i)) (λ i. edge_most)
          (λ i l. edge-length (get_or e (2 * i) 0) (get_or e (2 * i + 1) 0) (small i l).0 (small i l).1),
      sum_to-const edge_most (length e / 2),
    )
