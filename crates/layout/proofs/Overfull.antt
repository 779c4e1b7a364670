-- The search for the first overfull cell may look at the cells from the diagonal on.
-- Assumes nothing.
use mathlib.Core.Path.{◌≡◌, refl, sym, ap₂, ◌∙◌}
use mathlib.Core.Bool.{Bool, true, false, not, ◌&&◌}
use Prim.Native.Nat.{ℕ, zero, suc, ◌+◌, ◌-◌, ◌*◌, ◌≤◌, ◌<◌}
use native.Mathlib.Decide.{ℕ_discrete, dec_lt}
use native.Mathlib.Omega.{arith}
use lib.Dec.{ltb, leb}
use borrow.Author.Tests.{ltb-false, leb-true, lt-ltb, le-ltb, le-leb, eq-eqb, ne_eqb, not-true, not-false}
use Rattle.finite.specs.Range.{all_to, lowest}
use Rattle.finite.proofs.All.{all_to-at, all_to-holds, all_to-more}
use Rattle.finite.proofs.Lowest.{lowest-ge, lowest-le, lowest-before, lowest-holds, lowest-only, lowest-none}
use Rattle.graph.specs.Target.{cell_most}
use Rattle.graph.proofs.Matrix.{cell_most-sym}
use Rattle.graph.specs.Tests.{least_class, most_classes, count, overfull, first_overfull, first_overfull_in}
use Rattle.layout.specs.Inner.Arrays.{cell_fits, row_fits}
use Rattle.layout.proofs.Counted.{square_less}

module _ (T : ℕ → ℕ → ℕ) (k : ℕ) where
  fits_below : (l : ℕ) → l < k → cell_fits T k l ≡ true
  fits_below l h = rw (lt-ltb l k h)

  fits-from : (l : ℕ) → k ≤ l → cell_fits T k l ≡ leb (T k l) (cell_most (count T) k l)
  fits-from l h = rw (le-ltb l k h)

  -- the diagonal cell, then one cell after the other, with the counts D as they are kept
  module _ (D : ℕ → ℕ) (a : least_class ≤ k) (e : (j : ℕ) → least_class ≤ j → D j ≡ count T j) where
    pub fits-first : all_to (k + 1) (cell_fits T k) ≡ leb (T k k) (D k * D k - D k)
    fits-first =
        rw (e k a, all_to-more, all_to-holds (cell_fits T k) k fits_below, fits-from k (omega arith), eq-eqb k k refl, square_less (count T k))

    pub fits_next : (l : ℕ) → k < l → all_to (l + 1) (cell_fits T k) ≡ all_to l (cell_fits T k) && leb (T k l) (D k * D l)
    fits_next l h = rw (e k a, e l (omega arith), all_to-more, fits-from l (omega arith), ne_eqb k l (omega arith))

  -- a row that does not fit has an overfull cell
  pub row_unfit : least_class ≤ k → row_fits T k ≡ false → ltb (first_overfull_in T k) most_classes ≡ true
  row_unfit h e = go (ltb (first_overfull_in T k) most_classes) refl
    where
      fits : ltb (first_overfull_in T k) most_classes ≡ false → (l : ℕ) → l < most_classes → Dec (l < k) → cell_fits T k l ≡ true
      fits n l m (yes p) = fits_below l p
      fits n l m (no p) =
          let o = lowest-before least_class most_classes (overfull T k) (omega arith) l (omega arith) (omega (arith, ltb-false (first_overfull_in T k) most_classes n)) in
          fits-from l (omega arith) ∙ le-leb (T k l) (cell_most (count T) k l) (ltb-false (cell_most (count T) k l) (T k l) o)

      go : (t : Bool) → ltb (first_overfull_in T k) most_classes ≡ t → t ≡ true
      go true n = refl
      go false n = sym e ∙ all_to-holds (cell_fits T k) most_classes (λ l m. fits n l m (dec_lt l k))

  -- a row that fits, after rows without an overfull cell, has none
  pub row_passes : ((i j : ℕ) → T i j ≡ T j i) → row_fits T k ≡ true
      → ((j l : ℕ) → least_class ≤ j → j < k → least_class ≤ l → l < most_classes → overfull T j l ≡ false)
      → k < most_classes → (l : ℕ) → least_class ≤ l → l < most_classes → overfull T k l ≡ false
  row_passes same e f h l a b = go (dec_lt l k)
    where
      go : Dec (l < k) → overfull T k l ≡ false
      go (yes p) = ap₂ ltb (cell_most-sym (count T) k l) (same k l) ∙ f l k a p (omega arith) h
      go (no p) = le-ltb (cell_most (count T) k l) (T k l) (leb-true (T k l) (cell_most (count T) k l) (sym (fits-from l (omega arith)) ∙ all_to-at (cell_fits T k) most_classes e l b))

  pub row_none : ((l : ℕ) → least_class ≤ l → l < most_classes → overfull T k l ≡ false) → ltb (first_overfull_in T k) most_classes ≡ false
  row_none f = let e = lowest-none least_class most_classes (overfull T k) (omega arith) f in le-ltb (first_overfull_in T k) most_classes (omega arith)

  pub rows_passed : ((j l : ℕ) → least_class ≤ j → j < k → least_class ≤ l → l < most_classes → overfull T j l ≡ false)
      → ((l : ℕ) → least_class ≤ l → l < most_classes → overfull T k l ≡ false)
      → (j l : ℕ) → least_class ≤ j → j < k + 1 → least_class ≤ l → l < most_classes → overfull T j l ≡ false
  rows_passed f g j l a b = go (ℕ_discrete j k)
    where
      go : Dec (j ≡ k) → least_class ≤ l → l < most_classes → overfull T j l ≡ false
      go (yes e) = rw e (g l)
      go (no e) = f j l a (omega arith)

-- so the first row with an overfull cell is the first that does not fit
module _ (T : ℕ → ℕ → ℕ) (same : (i j : ℕ) → T i j ≡ T j i) where
  all_passed : (n : ℕ) → n ≤ most_classes → ((j : ℕ) → least_class ≤ j → j < n → row_fits T j ≡ true)
      → (j l : ℕ) → least_class ≤ j → j < n → least_class ≤ l → l < most_classes → overfull T j l ≡ false
  all_passed zero h f = λ j l a b. absurd (omega arith)
  all_passed (suc n) h f =
      let before = all_passed n (omega arith) (λ j a b. f j a (omega arith)) in
      λ j l a b. go j l a b (ℕ_discrete j n) before
    where
      go : (j l : ℕ) → least_class ≤ j → j < suc n → Dec (j ≡ n) → ((j l : ℕ) → least_class ≤ j → j < n → least_class ≤ l → l < most_classes → overfull T j l ≡ false)
          → least_class ≤ l → l < most_classes → overfull T j l ≡ false
      go j l a b (yes e) before = row_passes T j same (f j a b) (rw e before) (omega arith) l
      go j l a b (no d) before = before j l a (omega arith)

  -- before the number k all rows fit: none of them has an overfull cell
  none_before : (k : ℕ) → k ≤ most_classes → ((j : ℕ) → least_class ≤ j → j < k → not (row_fits T j) ≡ false)
      → (j : ℕ) → least_class ≤ j → j < k → ltb (first_overfull_in T j) most_classes ≡ false
  none_before k h f j a b = row_none T j (λ l. all_passed k h (λ i a b. not-false (row_fits T i) (f i a b)) j l a b)

  pub first_unfit : lowest least_class most_classes (λ k. not (row_fits T k)) ≡ first_overfull T
  first_unfit = go (dec_lt (lowest least_class most_classes (λ k. not (row_fits T k))) most_classes)
    where
      unfit : ℕ → Bool
      unfit k = not (row_fits T k)

      go : Dec (lowest least_class most_classes unfit < most_classes) → lowest least_class most_classes unfit ≡ first_overfull T
      go (yes l) =
          let k = lowest least_class most_classes unfit in
          let g = lowest-ge least_class most_classes unfit (omega arith) in
          let t = lowest-holds least_class most_classes unfit (omega arith) l in
          sym
          (lowest-only least_class most_classes (λ k. ltb (first_overfull_in T k) most_classes) (omega arith) k g l
          (row_unfit T k g (not-true (row_fits T k) t))
          (none_before k (omega arith) (λ j a b. lowest-before least_class most_classes unfit (omega arith) j a b)))
      go (no n) =
          let e : lowest least_class most_classes unfit ≡ most_classes = omega (arith, lowest-le least_class most_classes unfit (omega arith)) in
          e
          ∙ sym
          (lowest-none least_class most_classes (λ k. ltb (first_overfull_in T k) most_classes) (omega arith)
          (none_before most_classes (omega arith) (λ j a b. lowest-before least_class most_classes unfit (omega arith) j a (omega arith))))
