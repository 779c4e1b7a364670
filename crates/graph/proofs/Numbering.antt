-- The numbering of the vertices by rising class: where each class lies, and that it has its size.
-- Assumes nothing.
use mathlib.Core.Path.{◌≡◌, refl}
use mathlib.Core.Logic.{◌↔◌}
use Prim.Native.Nat.{ℕ, zero, suc, ◌+◌, ◌≤◌, ◌<◌, zero-le}
use native.Mathlib.Numerals.{add-one}
use native.Mathlib.Decide.{dec_lt}
use native.Mathlib.Omega.{arith}
use lib.Dec.{ltb}
use borrow.Author.Tests.{ltb-true, ltb-false, lt-ltb, le-ltb}
use Rattle.finite.specs.Range.{bit, δ, sum_to}
use Rattle.finite.proofs.Delta.{δ-same, δ-other}
use Rattle.finite.proofs.Sum.{sum_to-none, sum_to-more, sum_to-cong, sum_to-add, sum_to-le, sum_to-below}
use Rattle.finite.proofs.Lowest.{lowest-le, lowest-before, lowest-holds, lowest-found, lowest-only}
use Rattle.graph.specs.Graph.{size}
use Rattle.graph.specs.Numbering.{total, class_of}

module _ (C : ℕ) (D : ℕ → ℕ) where
  -- a vertex has a class
  pub class_of-below : (v : ℕ) → v < total C D → class_of C D v < C
  class_of-below v h = go C refl
    where
      go : (c : ℕ) → C ≡ c → class_of C D v < C
      go zero e = absurd (omega (arith, rw (e, sum_to-none D) at h))
      go (suc c) e =
          omega (
            arith,
            lowest-found 0 C (λ k. ltb v (sum_to (k + 1) D)) zero-le c zero-le (omega arith)
                (lt-ltb v (sum_to (c + 1) D) (rw (add-one c, ← e) h)),
          )

  -- the vertices of the classes up to v's own include v ..
  pub class_of-end : (v : ℕ) → class_of C D v < C → v < sum_to (class_of C D v + 1) D
  class_of-end v h = ltb-true v (sum_to (class_of C D v + 1) D) (lowest-holds 0 C (λ k. ltb v (sum_to (k + 1) D)) zero-le h)

  -- .. and those of the classes below it do not
  pub class_of-start : (v : ℕ) → sum_to (class_of C D v) D ≤ v
  class_of-start v = go (class_of C D v) refl
    where
      go : (c : ℕ) → class_of C D v ≡ c → sum_to c D ≤ v
      go zero e = rw (sum_to-none D) zero-le
      go (suc c) e =
          rw (← (add-one c))
          (ltb-false v (sum_to (c + 1) D) (lowest-before 0 C (λ k. ltb v (sum_to (k + 1) D)) zero-le c zero-le (omega arith)))

  -- where class k lies
  pub class_of-range : (v k : ℕ) → v < total C D → (class_of C D v ≡ k) ↔ (sum_to k D ≤ v) × (v < sum_to (k + 1) D)
  class_of-range v k h = (forth, back)
    where
      forth : class_of C D v ≡ k → (sum_to k D ≤ v) × (v < sum_to (k + 1) D)
      forth e = (rw e at (class_of-start v), rw e at (class_of-end v (class_of-below v h)))

      back : (sum_to k D ≤ v) × (v < sum_to (k + 1) D) → class_of C D v ≡ k
      back r =
          lowest-only 0 C (λ k. ltb v (sum_to (k + 1) D)) zero-le k zero-le (at (dec_lt k C)) (lt-ltb v (sum_to (k + 1) D) r.1)
          (λ j g l. le-ltb v (sum_to (j + 1) D) (omega (arith, sum_to-le (j + 1) k D (omega arith), r.0)))
        where
          at : Dec (k < C) → k < C
          at (yes l) = l
          at (no l) = absurd (omega (arith, sum_to-le C k D (omega arith), r.0))

  -- a vertex past the end of class k is in a later one
  pub class_after : (v k : ℕ) → v < total C D → sum_to (k + 1) D ≤ v → k + 1 < C
  class_after v k h past = go (dec_lt (k + 1) C)
    where
      go : Dec (k + 1 < C) → k + 1 < C
      go (yes l) = l
      go (no l) = absurd (omega (arith, sum_to-le C (k + 1) D (omega arith)))

  -- a later vertex has no lower class
  pub class_of-rises : (v w : ℕ) → v ≤ w → class_of C D v ≤ class_of C D w
  class_of-rises v w h = go (dec_lt (class_of C D w) C)
    where
      go : Dec (class_of C D w < C) → class_of C D v ≤ class_of C D w
      go (yes l) =
          lowest-found 0 C (λ k. ltb v (sum_to (k + 1) D)) zero-le (class_of C D w) zero-le l
          (lt-ltb v (sum_to (class_of C D w + 1) D) (omega (arith, class_of-end w l)))
      go (no l) = omega (arith, lowest-le 0 C (λ k. ltb v (sum_to (k + 1) D)) zero-le)

  -- class k has D k vertices: those below its end, less those below its start
  pub class_of-size : (k : ℕ) → k < C → size (total C D) (class_of C D) k ≡ D k
  class_of-size k h =
      omega (
        arith,
        sum_to-below (total C D) (sum_to k D) (sum_to-le k C D (omega arith)),
        sum_to-below (total C D) (sum_to (k + 1) D) (sum_to-le (k + 1) C D (omega arith)),
        sum_to-add (total C D) (λ v. δ (class_of C D v) k) (λ v. bit (ltb v (sum_to k D))),
        sum_to-cong (total C D) (λ v. δ (class_of C D v) k + bit (ltb v (sum_to k D))) (λ v. bit (ltb v (sum_to (k + 1) D))) at,
        sum_to-more D k,
      )
    where
      at : (v : ℕ) → v < total C D → δ (class_of C D v) k + bit (ltb v (sum_to k D)) ≡ bit (ltb v (sum_to (k + 1) D))
      at v p = before (dec_lt v (sum_to k D))
        where
          from : Dec (v < sum_to (k + 1) D) → sum_to k D ≤ v → δ (class_of C D v) k + bit (ltb v (sum_to k D)) ≡ bit (ltb v (sum_to (k + 1) D))
          from (yes l) g =
              rw (δ-same (class_of C D v) k ((class_of-range v k p).1 (g, l)), le-ltb v (sum_to k D) g, lt-ltb v (sum_to (k + 1) D) l)
          from (no l) g =
              rw (
                δ-other (class_of C D v) k (λ e. l ((class_of-range v k p).0 e).1),
                le-ltb v (sum_to k D) g,
                le-ltb v (sum_to (k + 1) D) (omega arith),
              )

          before : Dec (v < sum_to k D) → δ (class_of C D v) k + bit (ltb v (sum_to k D)) ≡ bit (ltb v (sum_to (k + 1) D))
          before (yes l) =
              rw (
                δ-other (class_of C D v) k (λ e. absurd (omega (arith, ((class_of-range v k p).0 e).0))),
                lt-ltb v (sum_to k D) l,
                lt-ltb v (sum_to (k + 1) D) (omega (arith, sum_to-more D k)),
              )
          before (no l) = from (dec_lt v (sum_to (k + 1) D)) (omega arith)
