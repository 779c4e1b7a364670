-- Laws of Kronecker's delta and of a test as a number.
-- Assumes nothing.
use mathlib.Core.Path.{◌≡◌, refl, sym, ◌∙◌}
use mathlib.Core.Bool.{Bool, true, false, ◌&&◌, ◌||◌}
use mathlib.Core.Logic.{◌≢◌}
use Prim.Native.Nat.{ℕ, ◌+◌, ◌*◌, ◌≤◌, ◌<◌}
use native.Mathlib.Nat.{one-mul, zero-mul, lt_irrefl}
use native.Mathlib.Decide.{ℕ_discrete}
use native.Mathlib.Omega.{arith}
use lib.Dec.{eqb}
use borrow.Author.Tests.{eq-eqb, ne_eqb}
use Rattle.finite.specs.Range.{bit, δ}

pub bit_le : (t : Bool) → bit t ≤ 1
bit_le true = omega arith
bit_le false = omega arith

pub bit_and : (s t : Bool) → bit (s && t) ≡ bit s * bit t
bit_and true true = refl
bit_and true false = refl
bit_and false true = refl
bit_and false false = refl

pub bit_or : (s t : Bool) → bit (s || t) + bit (s && t) ≡ bit s + bit t
bit_or true true = refl
bit_or true false = refl
bit_or false true = refl
bit_or false false = refl

pub δ-bit : (a b : ℕ) → bit (eqb a b) ≡ δ a b
unfolding δ
δ-bit a b = refl

pub δ-same : (a b : ℕ) → a ≡ b → δ a b ≡ 1
unfolding δ
δ-same a b e = rw (eq-eqb a b e)

pub δ-self : (a : ℕ) → δ a a ≡ 1
δ-self a = δ-same a a refl

pub δ-other : (a b : ℕ) → a ≢ b → δ a b ≡ 0
unfolding δ
δ-other a b e = rw (ne_eqb a b e)

pub δ-le : (a b : ℕ) → δ a b ≤ 1
unfolding δ
δ-le a b = bit_le (eqb a b)

pub δ-sym : (a b : ℕ) → δ a b ≡ δ b a
δ-sym a b = go (ℕ_discrete a b)
  where
    go : Dec (a ≡ b) → δ a b ≡ δ b a
    go (yes e) = rw e
    go (no e) = δ-other a b e ∙ sym (δ-other b a (λ q. e (sym q)))

pub δ-times_le : (a b x : ℕ) → δ a b * x ≤ x
δ-times_le a b x = go (ℕ_discrete a b)
  where
    go : Dec (a ≡ b) → δ a b * x ≤ x
    go (yes e) = rw (δ-same a b e, one-mul x) (omega arith)
    go (no e) = rw (δ-other a b e, zero-mul x) (omega arith)

-- a factor δ a b lets a stand for b
pub δ-move : (f : ℕ → ℕ) (a b : ℕ) → δ a b * f a ≡ δ a b * f b
δ-move f a b = go (ℕ_discrete a b)
  where
    go : Dec (a ≡ b) → δ a b * f a ≡ δ a b * f b
    go (yes e) = rw e
    go (no e) = rw (δ-other a b e, zero-mul, zero-mul)

-- what is smaller under a factor δ a b is smaller, and at equal numbers
pub δ-less : (a b x y : ℕ) → δ a b * x < δ a b * y → (a ≡ b) × (x < y)
δ-less a b x y h = go (ℕ_discrete a b)
  where
    go : Dec (a ≡ b) → (a ≡ b) × (x < y)
    go (yes e) = (e, rw (δ-same a b e, one-mul x, one-mul y) at h)
    go (no e) = absurd (lt_irrefl 0 (rw (δ-other a b e, zero-mul x, zero-mul y) at h))

pub δ-square : (a b : ℕ) → δ a b * δ a b ≡ δ a b
δ-square a b = go (ℕ_discrete a b)
  where
    go : Dec (a ≡ b) → δ a b * δ a b ≡ δ a b
    go (yes e) = rw (δ-same a b e)
    go (no e) = rw (δ-other a b e)
