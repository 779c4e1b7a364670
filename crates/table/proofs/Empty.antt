-- The block of no bytes (document 02, P4): 4 and 5 let it pass, and it adds nothing; and which lengths 4 does not let pass.
-- Assumes nothing.
use mathlib.Core.Path.{◌≡◌, refl, sym, ◌∙◌}
use mathlib.Core.Bool.{true, false, true≢false}
use mathlib.Core.List.{[]}
use mathlib.Core.Logic.{◌⊎◌, inl, inr, ◌↔◌}
use Prim.Native.Nat.{ℕ, ◌%◌, ◌<◌}
use native.Mathlib.Decide.{dec_lt}
use native.Mathlib.Omega.{arith}
use lib.Dec.{leb}
use borrow.Author.Tests.{le-leb, lt-leb, eq-eqb, ne_eqb}
use Rattle.finite.specs.Range.{low_from, lowest}
use Rattle.finite.proofs.All.{and_both, and-false}
use Rattle.finite.proofs.Sum.{sum_to-none}
use Rattle.graph.specs.Graph.{DegreeTable}
use Rattle.graph.proofs.Counts.{same_table}
use Rattle.table.specs.Block.{record_size, block_most, block_length, well_formed, record_cell, record_isolated, block_cell, block_isolated, plus}

pub empty-well_formed : well_formed [] ≡ true
unfolding low_from lowest
empty-well_formed = refl

empty-cell : (k l : ℕ) → block_cell [] k l ≡ 0
empty-cell k l = sum_to-none (λ i. record_cell [] i k l)

empty-isolated : block_isolated [] ≡ 0
empty-isolated = sum_to-none (record_isolated [])

pub empty-adds : (t : DegreeTable) → plus t [] ≡ t
empty-adds t = same_table (λ k l. omega (arith, empty-cell k l)) (omega (arith, empty-isolated))

-- too many bytes, or no whole records
pub other_length : (n : ℕ) → (block_length n ≡ false) ↔ ((block_most < n) ⊎ (n % record_size ≡ 0 → ⊥))
other_length n = (λ h. there h (dec_lt block_most n), back)
  where
    there : block_length n ≡ false → Dec (block_most < n) → (block_most < n) ⊎ (n % record_size ≡ 0 → ⊥)
    there h (yes l) = inl l
    there h (no l) =
        inr (λ e. true≢false (sym (and_both (leb n block_most) _ (le-leb n block_most (omega arith)) (eq-eqb (n % record_size) 0 e)) ∙ h))

    back : (block_most < n) ⊎ (n % record_size ≡ 0 → ⊥) → block_length n ≡ false
    back (inl l) = rw (lt-leb n block_most l)
    back (inr h) = rw (ne_eqb (n % record_size) 0 h) (and-false (leb n block_most))
