-- Equation (1) counted over the edges, each taken once at its higher end.
-- Assumes nothing.
use mathlib.Core.Path.{◌≡◌, refl, sym, ap, ap₂, ◌∙◌}
use mathlib.Core.Bool.{Bool, true, false, ◌&&◌, ◌||◌}
use mathlib.Core.Logic.{◌≢◌}
use Prim.Native.Nat.{ℕ, ◌+◌, ◌*◌, ◌<◌}
use native.Mathlib.Nat.{mul_assoc, mul_comm, mul_left_comm, mul-zero, add-mul}
use native.Mathlib.Omega.{arith}
use lib.Dec.{eqb}
use borrow.Author.Tests.{eqb-true}
use Rattle.finite.specs.Range.{bit, δ, sum_to}
use Rattle.finite.proofs.Delta.{bit_and, bit_or, δ-bit, δ-sym}
use Rattle.finite.proofs.Sum.{sum_to-cong_lower, sum_to-scale_lower, sum_to-mirror}
use Rattle.graph.specs.Graph.{Graph, jdm, at_edge}
use Rattle.graph.proofs.Matrix.{jdm-pairs}

-- (k, l) is the pair (a, b), in either order
abbrev pub is_pair : ℕ → ℕ → ℕ → ℕ → Bool
is_pair k l a b = (eqb k a && eqb l b) || (eqb k b && eqb l a)

-- how many edges have ends of the classes k and l
abbrev pub pair_count : ℕ → (ℕ → ℕ) → Graph → ℕ → ℕ → ℕ
pair_count n cls E k l = sum_to n (λ v. sum_to v (λ w. bit (is_pair k l (cls v) (cls w)) * E v w))

-- a pair that is both orders at once comes twice
is_pair-orders : (k l a b : ℕ) → bit (is_pair k l a b) + bit ((eqb k a && eqb l b) && (eqb k b && eqb l a)) ≡ at_edge k l a b
is_pair-orders k l a b =
    bit_or (eqb k a && eqb l b) (eqb k b && eqb l a)
    ∙ ap₂ ◌+◌ (bit_and (eqb k a) (eqb l b)) (bit_and (eqb k b) (eqb l a) ∙ mul_comm (bit (eqb k b)) (bit (eqb l a)))
    ∙ ap₂ ◌+◌ (ap₂ ◌*◌ (turn k a) (turn l b)) (ap₂ ◌*◌ (turn l a) (turn k b))
  where
    turn : (x y : ℕ) → bit (eqb x y) ≡ δ y x
    turn x y = δ-bit x y ∙ δ-sym x y

pub is_pair-other : (k l a b : ℕ) → k ≢ l → bit (is_pair k l a b) ≡ at_edge k l a b
is_pair-other k l a b h = omega (arith, is_pair-orders k l a b, one (eqb k a) (eqb l b) (eqb k b) (eqb l a) both)
  where
    both : eqb k a ≡ true → eqb l a ≡ true → ⊥
    both p q = h (eqb-true k a p ∙ sym (eqb-true l a q))

    one : (p q r s : Bool) → (p ≡ true → s ≡ true → ⊥) → bit ((p && q) && (r && s)) ≡ 0
    one true true true true f = absurd (f refl refl)
    one true true true false f = refl
    one true true false s f = refl
    one true false r s f = refl
    one false q r s f = refl

pub is_pair-same : (k a b : ℕ) → 2 * bit (is_pair k k a b) ≡ at_edge k k a b
is_pair-same k a b = omega (arith, is_pair-orders k k a b, twice (eqb k a) (eqb k b))
  where
    twice : (p q : Bool) → bit ((p && q) && (q && p)) ≡ bit ((p && q) || (q && p))
    twice true true = refl
    twice true false = refl
    twice false true = refl
    twice false false = refl

module _ (n : ℕ) (cls : ℕ → ℕ) (E : Graph) (symmetric : (v w : ℕ) → v < n → w < n → E v w ≡ E w v) (loopless : (v : ℕ) → v < n → E v v ≡ 0) where
  -- an edge counts at (k, l) as often as its classes are k and l, in this or the other order
  pub jdm-lower : (k l : ℕ) → jdm n cls E k l ≡ sum_to n (λ v. sum_to v (λ w. at_edge k l (cls v) (cls w) * E v w))
  jdm-lower k l =
      jdm-pairs n cls E k l
      ∙ sum_to-mirror n at (λ v h. rw (loopless v h, mul-zero (δ (cls v) l)) (mul-zero (δ (cls v) k)))
      ∙ sum_to-cong_lower n (λ v w. at v w + at w v) (λ v w. at_edge k l (cls v) (cls w) * E v w) (λ v w h m. term v w h (omega arith))
    where
      at : ℕ → ℕ → ℕ
      at v w = δ (cls v) k * (δ (cls w) l * E v w)

      term : (v w : ℕ) → v < n → w < n → at v w + at w v ≡ at_edge k l (cls v) (cls w) * E v w
      term v w h m =
          rw (
            symmetric w v m h,
            mul_left_comm (δ (cls w) k) (δ (cls v) l) (E v w),
            add-mul (δ (cls v) k * δ (cls w) l) (δ (cls v) l * δ (cls w) k) (E v w),
            mul_assoc (δ (cls v) k) (δ (cls w) l) (E v w),
            mul_assoc (δ (cls v) l) (δ (cls w) k) (E v w),
          )

  -- each edge between two classes counts once
  pub jdm-pair_count : (k l : ℕ) → k ≢ l → jdm n cls E k l ≡ pair_count n cls E k l
  jdm-pair_count k l h =
      jdm-lower k l
      ∙ sum_to-cong_lower n (λ v w. at_edge k l (cls v) (cls w) * E v w) (λ v w. bit (is_pair k l (cls v) (cls w)) * E v w)
      (λ v w p q. ap (λ (x : ℕ). x * E v w) (sym (is_pair-other k l (cls v) (cls w) h)))

  -- each edge inside a class counts twice
  pub jdm-pair_count_same : (k : ℕ) → jdm n cls E k k ≡ 2 * pair_count n cls E k k
  jdm-pair_count_same k =
      jdm-lower k k
      ∙ sum_to-cong_lower n (λ v w. at_edge k k (cls v) (cls w) * E v w) (λ v w. 2 * (bit (is_pair k k (cls v) (cls w)) * E v w))
      (λ v w p q. rw (← (is_pair-same k (cls v) (cls w))) (mul_assoc 2 (bit (is_pair k k (cls v) (cls w))) (E v w)))
      ∙ sum_to-scale_lower 2 n (λ v w. bit (is_pair k k (cls v) (cls w)) * E v w)
