-- `all_zero`: every byte is 0.
-- Assumes nothing.
use mathlib.Core.Path.{◌≡◌, refl, sym, ap, ◌∙◌}
use mathlib.Core.Bool.{Bool, true, ◌&&◌}
use mathlib.Core.List.{List}
use Prim.Native.Nat.{ℕ, zero, suc, ◌<◌, max}
use lib.Dec.{eqb}
use lib.ListN.{length, get_or, replicate, get_or-eq_default}
use native.Mathlib.Decide.{dec_lt, ℕ_discrete}
use native.Mathlib.Omega.{arith}
use borrow.Author.Tests.{eqb-true, eq-eqb, ne_eqb}
use Rattle.std.proofs.Math.Nat.{le-max_left, zero-max}
use Rattle.finite.proofs.All.{all_to-at, all_to-holds}
use Rattle.slices.specs.Slices.{all_zero}

module _ (s : List ℕ) where
  pub all_zero-at : all_zero s ≡ true → (i : ℕ) → get_or s i 0 ≡ 0
  all_zero-at h i = go (dec_lt i (length s))
    where
      go : Dec (i < length s) → get_or s i 0 ≡ 0
      go (yes l) = eqb-true _ _ (all_to-at (λ i. eqb (get_or s i 0) 0) (length s) h i l)
      go (no l) = get_or-eq_default s 0 (omega arith)

  pub zeros-all_zero : ((i : ℕ) → i < length s → get_or s i 0 ≡ 0) → all_zero s ≡ true
  zeros-all_zero f = all_to-holds (λ i. eqb (get_or s i 0) 0) (length s) (λ i l. eq-eqb _ _ (f i l))

-- a list of zeros reads 0 at every place, also past its end
pub get_or-zeros : (n p : ℕ) → ◌≡◌ {A = ℕ} (get_or (replicate n 0) p 0) 0
get_or-zeros zero p = refl
get_or-zeros (suc n) zero = refl
get_or-zeros (suc n) (suc p) = get_or-zeros n p

-- the larger of two numbers is 0 where both are
pub max_zero : (a b : ℕ) → eqb (max a b) 0 ≡ (eqb a 0 && eqb b 0)
max_zero a b = go (ℕ_discrete a 0)
  where
    go : Dec (a ≡ 0) → eqb (max a b) 0 ≡ (eqb a 0 && eqb b 0)
    go (yes e) = rw (e, zero-max)
    go (no n) =
        let l = le-max_left a b in
        ne_eqb (max a b) 0 (λ e. n (omega (arith, e, l))) ∙ sym (ap (λ (t : Bool). t && eqb b 0) (ne_eqb a 0 n))
