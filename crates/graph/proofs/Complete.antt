-- A graph whose cells are all full has each vertex at its degree; where a class is a degree, its own matrix is the target.
-- Assumes nothing.
use mathlib.Core.Path.{◌≡◌, sym, ◌∙◌}
use Prim.Native.Nat.{ℕ, ◌*◌, ◌≤◌, ◌<◌}
use native.Mathlib.Nat.{one-mul, mul_comm, mul-le-mul_left}
use Rattle.finite.specs.Range.{δ, sum_to}
use Rattle.finite.proofs.Delta.{δ-self, δ-move}
use Rattle.finite.proofs.Sum.{sum_to-cong, sum_to-scale_right, sum_to-tight}
use Rattle.graph.specs.Graph.{degree, size, jdm}
use Rattle.graph.specs.Theorems.{CompleteIsExact, CompleteHasTarget}
use Rattle.graph.proofs.Matrix.{jdm-classes}
use Rattle.graph.proofs.Necessary.{necessary_always}

-- Class k has the edges of all its vertices at their degree, and none is above it.
pub complete-is_exact : CompleteIsExact
complete-is_exact n C cls deg T E target part full v p =
    rw (δ-self (cls v), one-mul (degree n E v), one-mul (deg (cls v))) at (sum_to-tight n has should most (same (target.classed v p)) v p)
  where
    has : ℕ → ℕ
    has u = δ (cls u) (cls v) * degree n E u

    should : ℕ → ℕ
    should u = δ (cls u) (cls v) * deg (cls v)

    most : (u : ℕ) → u < n → has u ≤ should u
    most u q = rw (← (δ-move deg (cls u) (cls v))) (mul-le-mul_left (δ (cls u) (cls v)) (part.room u q))

    same : cls v < C → sum_to n has ≡ sum_to n should
    same c =
        sym ((necessary_always n C cls E part.simple target.classed).rows (cls v))
        ∙ sum_to-cong C (jdm n cls E (cls v)) (T (cls v)) (λ l q. full (cls v) l c q)
        ∙ target.rows (cls v) c
        ∙ mul_comm (deg (cls v)) (size n cls (cls v))
        ∙ sym (sum_to-scale_right (deg (cls v)) n (λ u. δ (cls u) (cls v)))

pub complete-has_target : CompleteHasTarget
complete-has_target n C cls T E target part full k l p q =
    jdm-classes n (degree n E) cls E (complete-is_exact n C cls (λ j. j) T E target part full) k l ∙ full k l p q
