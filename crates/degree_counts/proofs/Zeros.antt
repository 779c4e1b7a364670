-- The zeros among the first n of a list of numbers, as the library's `count` counts them.
-- Assumes nothing.
use Rattle.std.proofs.Common.{◌≡◌, sym, ℕ, zero, suc, ◌+◌, ◌≤◌, List, length, get_or, take, add-one, arith}
use Rattle.std.specs.Prelude.{count_by}
use Rattle.std.proofs.lemmas.List.Sums.{count_by_more_yes, count_by_more_no}
use native.Mathlib.Decide.{ℕ_discrete}
use lib.Dec.{eqb}
use borrow.Author.Tests.{eq-eqb, ne_eqb}
use Rattle.finite.specs.Range.{δ, sum_to}
use Rattle.finite.proofs.Delta.{δ-same, δ-other}
use Rattle.finite.proofs.Sum.{sum_to-none, sum_to-more}

pub zeros_counted : (n : ℕ) (xs : List ℕ) → n ≤ length xs → count_by (λ d. eqb d 0) (take n xs) ≡ sum_to n (λ v. δ (get_or xs v 0) 0)
zeros_counted zero xs h = sym (sum_to-none _)
zeros_counted (suc n) xs h = rw (← add-one n) (step (zeros_counted n xs (omega arith)) (ℕ_discrete (get_or xs n 0) 0))
  where
    step : count_by (λ d. eqb d 0) (take n xs) ≡ sum_to n (λ v. δ (get_or xs v 0) 0) → Dec (get_or xs n 0 ≡ 0)
        → count_by (λ d. eqb d 0) (take (n + 1) xs) ≡ sum_to (n + 1) (λ v. δ (get_or xs v 0) 0)
    step f (yes e) = rw (sum_to-more, δ-same (get_or xs n 0) 0 e, count_by_more_yes (λ d. eqb d 0) xs n 0 (omega arith) (eq-eqb (get_or xs n 0) 0 e), f)
    step f (no e) = rw (sum_to-more, δ-other (get_or xs n 0) 0 e, count_by_more_no (λ d. eqb d 0) xs n 0 (omega arith) (ne_eqb (get_or xs n 0) 0 e), f) (omega arith)
