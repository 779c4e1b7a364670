-- The tests 9, 10 and 11 pass if and only if each cell and each row is as `Passed` says.
-- Assumes nothing.
use mathlib.Core.Path.{◌≡◌}
use mathlib.Core.Bool.{Bool, true, false, ◌&&◌}
use mathlib.Core.Logic.{◌↔◌}
use Prim.Native.Nat.{ℕ, ◌%◌, ◌≤◌, ◌<◌}
use native.Mathlib.Omega.{arith}
use lib.Dec.{eqb, ltb}
use borrow.Author.Tests.{eqb-true, eq-eqb, ltb-false, le-ltb, not-false}
use Rattle.finite.specs.Range.{lowest}
use Rattle.finite.proofs.All.{and_left, and_right, and_both}
use Rattle.finite.proofs.Lowest.{lowest-le, lowest-before, lowest-none}
use Rattle.graph.specs.Target.{cell_most}
use Rattle.graph.specs.Tests.{least_class, most_classes, row_sum, count, odd, uneven, overfull, first_odd, first_uneven, first_overfull_in, first_overfull, passes, Passed}

-- a search through the degrees comes to their end if and only if none of them passes
none : (p : ℕ → Bool) → (lowest least_class most_classes p ≡ most_classes) ↔ ((k : ℕ) → least_class ≤ k → k < most_classes → p k ≡ false)
none p =
    (λ e k a b. lowest-before least_class most_classes p (omega arith) k a (omega arith), lowest-none least_class most_classes p (omega arith))

module _ (T : ℕ → ℕ → ℕ) where
  passed : passes T ≡ true → Passed T
  passed h =
      record {
        even = λ k a b. eqb-true (T k k % 2) 0 (not-false (eqb (T k k % 2) 0) ((none (odd T)).0 (eqb-true (first_odd T) most_classes tests.0) k a b));
        rows =
            λ k a b. eqb-true (row_sum T k % k) 0
            (not-false (eqb (row_sum T k % k) 0) ((none (uneven T)).0 (eqb-true (first_uneven T) most_classes tests.1) k a b));
        fits = λ k l a b c d. ltb-false (cell_most (count T) k l) (T k l) ((none (overfull T k)).0 (row k a b) l c d);
      }
    where
      tests : (eqb (first_odd T) most_classes ≡ true) × (eqb (first_uneven T) most_classes ≡ true) × (eqb (first_overfull T) most_classes ≡ true)
      tests =
          let ab = and_left (eqb (first_odd T) most_classes && eqb (first_uneven T) most_classes) (eqb (first_overfull T) most_classes) h in (
            and_left (eqb (first_odd T) most_classes) (eqb (first_uneven T) most_classes) ab,
            and_right (eqb (first_odd T) most_classes) (eqb (first_uneven T) most_classes) ab,
            and_right (eqb (first_odd T) most_classes && eqb (first_uneven T) most_classes) (eqb (first_overfull T) most_classes) h,
          )

      row : (k : ℕ) → least_class ≤ k → k < most_classes → first_overfull_in T k ≡ most_classes
      row k a b =
          omega (
            arith,
            ltb-false (first_overfull_in T k) most_classes
                ((none (λ k. ltb (first_overfull_in T k) most_classes)).0 (eqb-true (first_overfull T) most_classes tests.2) k a b),
            lowest-le least_class most_classes (overfull T k) (omega arith),
          )

  passing : Passed T → passes T ≡ true
  passing h =
      and_both (eqb (first_odd T) most_classes && eqb (first_uneven T) most_classes) (eqb (first_overfull T) most_classes)
      (and_both (eqb (first_odd T) most_classes) (eqb (first_uneven T) most_classes)
      (eq-eqb (first_odd T) most_classes ((none (odd T)).1 (λ k a b. rw (eq-eqb (T k k % 2) 0 (h.even k a b)))))
      (eq-eqb (first_uneven T) most_classes ((none (uneven T)).1 (λ k a b. rw (eq-eqb (row_sum T k % k) 0 (h.rows k a b))))))
      (eq-eqb (first_overfull T) most_classes
      ((none (λ k. ltb (first_overfull_in T k) most_classes)).1 (λ k a b. le-ltb (first_overfull_in T k) most_classes (omega (arith, row k a b)))))
    where
      row : (k : ℕ) → least_class ≤ k → k < most_classes → first_overfull_in T k ≡ most_classes
      row k a b = (none (overfull T k)).1 (λ l c d. le-ltb (cell_most (count T) k l) (T k l) (h.fits k l a b c d))

  pub passes-passed : (passes T ≡ true) ↔ Passed T
  passes-passed = (passed, passing)
