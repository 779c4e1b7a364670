-- Which term of a sum a position falls in.
-- Assumes nothing.
use mathlib.Core.Path.{◌≡◌, refl}
use mathlib.Core.Bool.{Bool, true, false}
use Prim.Native.Nat.{ℕ, zero, suc, ◌+◌, ◌≤◌, ◌<◌}
use native.Mathlib.Decide.{dec_lt}
use native.Mathlib.Omega.{arith}
use Rattle.finite.specs.Range.{bit, sum_to}
use Rattle.finite.proofs.Delta.{bit_le}

-- the sum before it is not above the position, and with it the sum is
pub sum_to-seek : (n : ℕ) (f : ℕ → ℕ) (q : ℕ) → q < sum_to n f → (v : ℕ) × (v < n) × (sum_to v f ≤ q) × (q < sum_to v f + f v)
unfolding sum_to
sum_to-seek zero f q h = absurd (omega arith)
sum_to-seek (suc n) f q h = go (dec_lt q (sum_to n f)) (sum_to-seek n f q)
  where
    go : Dec (q < sum_to n f) → (q < sum_to n f → (v : ℕ) × (v < n) × (sum_to v f ≤ q) × (q < sum_to v f + f v))
        → (v : ℕ) × (v < suc n) × (sum_to v f ≤ q) × (q < sum_to v f + f v)
    go (yes p) before = let r = before p in (r.0, omega (arith, r.1), r.2, r.3)
    go (no p) before = (n, omega arith, omega arith, h)

bit-true : (t : Bool) → 0 < bit t → t ≡ true
bit-true true h = refl
bit-true false h = absurd (omega arith)

-- of the numbers at which p holds, the one at the position: so many stand before it
pub bits_seek : (n : ℕ) (p : ℕ → Bool) (q : ℕ) → q < sum_to n (λ i. bit (p i)) → (w : ℕ) × (w < n) × (p w ≡ true) × (sum_to w (λ i. bit (p i)) ≡ q)
bits_seek n p q h =
    let r = sum_to-seek n (λ i. bit (p i)) q h in
    (r.0, r.1, bit-true (p r.0) (omega (arith, r.2, r.3)), omega (arith, r.2, r.3, bit_le (p r.0)))
