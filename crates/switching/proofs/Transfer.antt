-- The search for t may pass over vertices that are linked to b wherever they are linked to a.
-- Assumes nothing.
use mathlib.Core.Path.{◌≡◌, subst}
use mathlib.Core.Bool.{true, false, ◌&&◌, not}
use Prim.Native.Nat.{ℕ, ◌+◌, ◌-◌, ◌≤◌, ◌<◌}
use native.Mathlib.Decide.{ℕ_discrete, dec_lt}
use native.Mathlib.Omega.{arith}
use lib.Dec.{eqb, leb}
use borrow.Author.Tests.{leb-true, ne_eqb}
use Rattle.finite.specs.Range.{all_to}
use Rattle.finite.proofs.All.{and-false, all_to-at}
use Rattle.graph.specs.Graph.{Graph}
use Rattle.graph.specs.Switch.{can_transfer}

module _ (E : Graph) (a b : ℕ) where
  no-transfer : (t : ℕ) → E a t ≤ E b t → can_transfer E a b t ≡ false
  no-transfer t h = go (ℕ_discrete (E a t) 1)
    where
      go : Dec (E a t ≡ 1) → can_transfer E a b t ≡ false
      go (yes e) = rw (ne_eqb (E b t) 0 (omega arith)) (and-false (not (eqb t b) && eqb (E a t) 1))
      go (no e) = rw (ne_eqb (E a t) 1 e, and-false (not (eqb t b)))

  pub transfers_passed : (m t : ℕ) → ((i : ℕ) → i < t → can_transfer E a b i ≡ false)
      → all_to m (λ i. leb (E a (t + i)) (E b (t + i))) ≡ true → (i : ℕ) → i < t + m → can_transfer E a b i ≡ false
  transfers_passed m t before h i l = go (dec_lt i t)
    where
      go : Dec (i < t) → can_transfer E a b i ≡ false
      go (yes p) = before i p
      go (no p) =
          let e : t + (i - t) ≡ i = omega arith in
          subst (λ (j : ℕ). can_transfer E a b j ≡ false) e
          (no-transfer (t + (i - t)) (leb-true _ _ (all_to-at (λ i. leb (E a (t + i)) (E b (t + i))) m h (i - t) (omega arith))))
