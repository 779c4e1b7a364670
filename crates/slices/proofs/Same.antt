-- `equal_bytes` is equality of lists.
-- Assumes nothing.
use mathlib.Core.Path.{◌≡◌, ap}
use mathlib.Core.Bool.{Bool, true}
use mathlib.Core.List.{List}
use Prim.Native.Nat.{ℕ}
use lib.Dec.{eqb}
use lib.ListN.{length, get_or}
use lib.Seq.{ext_get_or}
use borrow.Author.Tests.{eqb-true, eq-eqb}
use Rattle.finite.specs.Range.{all_to}
use Rattle.finite.proofs.All.{and_left, and_right, and_both, all_to-at, all_to-holds}
use Rattle.slices.specs.Slices.{equal_bytes}

module _ (a b : List ℕ) where
  pub same_bytes_eq : equal_bytes a b ≡ true → a ≡ b
  same_bytes_eq h =
      let p : ℕ → Bool = λ i. eqb (get_or a i 0) (get_or b i 0) in
      let e = eqb-true (length a) (length b) (and_left _ (all_to (length a) p) h) in
      ext_get_or 0 a b e (λ i l. eqb-true _ _ (all_to-at p (length a) (and_right (eqb (length a) (length b)) _ h) i l))

  pub eq_same_bytes : a ≡ b → equal_bytes a b ≡ true
  eq_same_bytes e =
      and_both _ _ (eq-eqb (length a) (length b) (ap length e)) (all_to-holds _ (length a) (λ i l. eq-eqb _ _ (ap (λ (s : List ℕ). get_or s i 0) e)))
