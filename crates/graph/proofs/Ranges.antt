-- Sums over a class of vertices numbered by rising class are sums over a range, so a cell is the number of edges in a block.
-- Assumes nothing.
use mathlib.Core.Path.{◌≡◌, ◌∙◌}
use Prim.Native.Nat.{ℕ, ◌+◌, ◌*◌, ◌≤◌, ◌<◌}
use native.Mathlib.Nat.{zero-mul, one-mul}
use native.Mathlib.Omega.{arith}
use Rattle.finite.specs.Range.{δ, sum_to}
use Rattle.finite.proofs.Delta.{δ-same, δ-other}
use Rattle.finite.proofs.Sum.{sum_to-more, sum_to-cong, sum_to-le, sum_to-part}
use Rattle.graph.specs.Graph.{Graph, jdm}
use Rattle.graph.specs.Numbering.{total, class_of}
use Rattle.graph.proofs.Numbering.{class_of-range}

module _ (C : ℕ) (D : ℕ → ℕ) where
  pub class_sum : (k : ℕ) → k < C → (f : ℕ → ℕ) → sum_to (total C D) (λ v. δ (class_of C D v) k * f v) ≡ sum_to (D k) (λ i. f (sum_to k D + i))
  class_sum k h f =
      sum_to-part (total C D) (sum_to k D) (D k) (λ v. δ (class_of C D v) k * f v) fits
      (λ v l. rw (δ-other (class_of C D v) k (λ e. omega (arith, ((class_of-range C D v k (omega (arith, fits))).0 e).0))) (zero-mul (f v)))
      (λ v g l. rw (δ-other (class_of C D v) k (λ e. omega (arith, ((class_of-range C D v k l).0 e).1, sum_to-more D k))) (zero-mul (f v)))
      ∙ sum_to-cong (D k) (λ i. δ (class_of C D (sum_to k D + i)) k * f (sum_to k D + i)) (λ i. f (sum_to k D + i)) here
    where
      fits : sum_to k D + D k ≤ total C D
      fits = omega (arith, sum_to-le (k + 1) C D (omega arith), sum_to-more D k)

      here : (i : ℕ) → i < D k → δ (class_of C D (sum_to k D + i)) k * f (sum_to k D + i) ≡ f (sum_to k D + i)
      here i l =
          rw (δ-same (class_of C D (sum_to k D + i)) k ((class_of-range C D (sum_to k D + i) k (omega (arith, fits))).1 (omega arith, omega (arith, sum_to-more D k))))
          (one-mul (f (sum_to k D + i)))

  pub jdm-block : (E : Graph) (k l : ℕ) → k < C → l < C
      → jdm (total C D) (class_of C D) E k l ≡ sum_to (D k) (λ i. sum_to (D l) (λ j. E (sum_to k D + i) (sum_to l D + j)))
  unfolding jdm
  jdm-block E k l kC lC =
      class_sum k kC (λ v. sum_to (total C D) (λ w. δ (class_of C D w) l * E v w))
      ∙ sum_to-cong (D k) (λ i. sum_to (total C D) (λ w. δ (class_of C D w) l * E (sum_to k D + i) w))
      (λ i. sum_to (D l) (λ j. E (sum_to k D + i) (sum_to l D + j))) (λ i m. class_sum l lC (E (sum_to k D + i)))
