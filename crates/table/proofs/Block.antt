-- What a good record is, and what a block adds to the cells: the same to (k, l) as to (l, k), and nothing to a degree out of range.
-- Assumes nothing.
use mathlib.Core.Path.{◌≡◌, refl, sym, ◌∙◌}
use mathlib.Core.Bool.{Bool, true, false, ◌&&◌, ◌||◌, not, cond, true≢false, and-true, or-true}
use mathlib.Core.List.{List}
use mathlib.Core.Logic.{inl, inr, ◌↔◌}
use Prim.Native.Nat.{ℕ, ◌≤◌, ◌<◌}
use native.Mathlib.Decide.{ℕ_discrete}
use native.Mathlib.Omega.{arith}
use lib.Dec.{eqb, leb}
use borrow.Author.Tests.{leb-true, le-leb, eqb-true, eq-eqb, ne_eqb, not-false}
use Rattle.finite.proofs.All.{and_left, and_right, and-false}
use Rattle.finite.proofs.Lowest.{lowest-before, lowest-none}
use Rattle.finite.proofs.Sum.{sum_to-cong, sum_to-zero}
use Rattle.graph.specs.Tests.{least_degree, most_degree}
use Rattle.table.specs.Block.{is_degree, records, record_k, record_l, record_count, of_isolated, of_cell, good_record, GoodPair, first_bad, same_pair, record_cell, record_isolated, block_cell}

-- k and l of a record of isolated vertices
isolated-zeros : (b : List ℕ) (i : ℕ) → of_isolated b i ≡ true → (record_k b i ≡ 0) × (record_l b i ≡ 0)
isolated-zeros b i e = (
  eqb-true (record_k b i) 0 (and_left (eqb (record_k b i) 0) (eqb (record_l b i) 0) e),
  eqb-true (record_l b i) 0 (and_right (eqb (record_k b i) 0) (eqb (record_l b i) 0) e),
)

zeros-isolated : (b : List ℕ) (i : ℕ) → record_k b i ≡ 0 → record_l b i ≡ 0 → of_isolated b i ≡ true
zeros-isolated b i p q = rw (p, q)

-- the degrees of a good record: k ≤ l ≤ most, and least ≤ k unless it is one of isolated vertices
pub record Good (b : List ℕ) (i : ℕ) : Type 0 where
  pub least : of_isolated b i ≡ false → least_degree ≤ record_k b i
  pub ordered : record_k b i ≤ record_l b i
  pub most : record_l b i ≤ most_degree

-- the test of a record is what its first two bytes are to be
pub good-pair : (b : List ℕ) (i : ℕ) → (good_record b i ≡ true) ↔ GoodPair (record_k b i) (record_l b i)
good-pair b i = (λ e. there (of_cell b i) refl e, back)
  where
    k : ℕ
    k = record_k b i

    l : ℕ
    l = record_l b i

    there : (t : Bool) → of_cell b i ≡ t → t || of_isolated b i ≡ true → GoodPair (record_k b i) (record_l b i)
    there true c e =
        let d = and_left (is_degree k && is_degree l) _ c in
        inl (
          leb-true least_degree k (and_left (leb least_degree k) (leb k most_degree) (and_left (is_degree k) (is_degree l) d)),
          leb-true k l (and_right (is_degree k && is_degree l) _ c),
          leb-true l most_degree (and_right (leb least_degree l) (leb l most_degree) (and_right (is_degree k) (is_degree l) d)),
        )
    there false c e = inr (isolated-zeros b i e)

    back : GoodPair (record_k b i) (record_l b i) → good_record b i ≡ true
    back (inl (p, q, r)) =
        rw (le-leb least_degree k p, le-leb k most_degree (omega arith), le-leb least_degree l (omega arith), le-leb l most_degree r, le-leb k l q)
    back (inr (p, q)) = rw (zeros-isolated b i p q) (or-true (of_cell b i))

pub good-record : (b : List ℕ) (i : ℕ) → good_record b i ≡ true → Good b i
good-record b i e = go ((good-pair b i).0 e)
  where
    go : GoodPair (record_k b i) (record_l b i) → Good b i
    go (inl (p, q, r)) = record { least = λ _. p; ordered = q; most = r }
    go (inr (p, q)) =
        record { least = λ n. absurd (true≢false (sym (zeros-isolated b i p q) ∙ n)); ordered = omega (arith, p, q); most = omega (arith, q) }

-- a block has no bad record if and only if each one is good
pub all-good : (b : List ℕ) → first_bad b ≡ records b → (i : ℕ) → i < records b → good_record b i ≡ true
all-good b e i l =
    not-false (good_record b i) (lowest-before 0 (records b) (λ i. not (good_record b i)) (omega arith) i (omega arith) (rw e l))

pub good_all : (b : List ℕ) → ((i : ℕ) → i < records b → good_record b i ≡ true) → first_bad b ≡ records b
good_all b f = lowest-none 0 (records b) (λ i. not (good_record b i)) (omega arith) (λ i g l. rw (f i l))

both_fail : (k a l b : ℕ) → (k ≡ a → l ≡ b → ⊥) → eqb k a && eqb l b ≡ false
both_fail k a l b h = go (ℕ_discrete k a)
  where
    go : Dec (k ≡ a) → eqb k a && eqb l b ≡ false
    go (yes e) = rw (ne_eqb l b (h e)) (and-false (eqb k a))
    go (no e) = rw (ne_eqb k a e)

module _ (k l a b : ℕ) where
  pub same_pair-straight : k ≡ a → l ≡ b → same_pair k l a b ≡ true
  same_pair-straight p q = rw (eq-eqb k a p, eq-eqb l b q)

  pub same_pair-crossed : k ≡ b → l ≡ a → same_pair k l a b ≡ true
  same_pair-crossed p q = rw (eq-eqb k b p, eq-eqb l a q) (or-true (eqb k a && eqb l b))

  pub same_pair-none : (k ≡ a → l ≡ b → ⊥) → (k ≡ b → l ≡ a → ⊥) → same_pair k l a b ≡ false
  same_pair-none f g = rw (both_fail k a l b f, both_fail k b l a g)

crossed : (p q r s : Bool) → (p && q) || (r && s) ≡ (s && r) || (q && p)
crossed true true true true = refl
crossed true true true false = refl
crossed true true false true = refl
crossed true true false false = refl
crossed true false true true = refl
crossed true false true false = refl
crossed true false false true = refl
crossed true false false false = refl
crossed false true true true = refl
crossed false true true false = refl
crossed false true false true = refl
crossed false true false false = refl
crossed false false true true = refl
crossed false false true false = refl
crossed false false false true = refl
crossed false false false false = refl

pub record_cell-sym : (b : List ℕ) (i k l : ℕ) → record_cell b i k l ≡ record_cell b i l k
record_cell-sym b i k l = rw (crossed (eqb k (record_k b i)) (eqb l (record_l b i)) (eqb k (record_l b i)) (eqb l (record_k b i)))

-- a good record adds nothing where k is no degree
pub record_cell-none : (b : List ℕ) (i k l : ℕ) → Good b i → (least_degree ≤ k → k ≤ most_degree → ⊥) → record_cell b i k l ≡ 0
record_cell-none b i k l g h = go (of_isolated b i) refl
  where
    go : (t : Bool) → of_isolated b i ≡ t → record_cell b i k l ≡ 0
    go true e = simp (e, and-false (same_pair k l (record_k b i) (record_l b i)))
    go false e =
        simp (same_pair-none k l (record_k b i) (record_l b i)
        (λ p q. h (omega (arith, g.least e)) (omega (arith, g.ordered, g.most)))
        (λ p q. h (omega (arith, g.least e, g.ordered)) (omega (arith, g.most))))

-- What record i adds to an array of cells at the place of (k, l): to a cell what it adds to the matrix, and at (0, 0) its isolated vertices.
abbrev pub amount : List ℕ → ℕ → ℕ → ℕ → ℕ
amount b i k l = cond (same_pair k l (record_k b i) (record_l b i)) (record_count b i) 0

module _ (b : List ℕ) (i : ℕ) where
  pub amount-sym : (k l : ℕ) → amount b i k l ≡ amount b i l k
  amount-sym k l = rw (crossed (eqb k (record_k b i)) (eqb l (record_l b i)) (eqb k (record_l b i)) (eqb l (record_k b i)))

  pub amount-none_above : (k l : ℕ) → Good b i → most_degree < k → amount b i k l ≡ 0
  amount-none_above k l g m =
      rw (same_pair-none k l (record_k b i) (record_l b i) (λ p q. omega (arith, g.ordered, g.most)) (λ p q. omega (arith, g.most)))

  pub amount-cell : (k l : ℕ) → (k ≡ 0 → l ≡ 0 → ⊥) → amount b i k l ≡ record_cell b i k l
  amount-cell k l h = go (of_isolated b i) refl
    where
      go : (t : Bool) → of_isolated b i ≡ t → amount b i k l ≡ cond (same_pair k l (record_k b i) (record_l b i) && not t) (record_count b i) 0
      go true e =
          let z = isolated-zeros b i e in
          rw (same_pair-none k l (record_k b i) (record_l b i) (λ p q. h (p ∙ z.0) (q ∙ z.1)) (λ p q. h (p ∙ z.1) (q ∙ z.0)))
      go false e = rw (and-true (same_pair k l (record_k b i) (record_l b i)))

  pub amount-isolated : amount b i 0 0 ≡ record_isolated b i
  amount-isolated = go (of_isolated b i) refl
    where
      go : (t : Bool) → of_isolated b i ≡ t → amount b i 0 0 ≡ cond t (record_count b i) 0
      go true e =
          let z = isolated-zeros b i e in
          rw (same_pair-straight 0 0 (record_k b i) (record_l b i) (sym z.0) (sym z.1))
      go false e =
          rw (same_pair-none 0 0 (record_k b i) (record_l b i)
          (λ p q. true≢false (sym (zeros-isolated b i (sym p) (sym q)) ∙ e)) (λ p q. true≢false (sym (zeros-isolated b i (sym q) (sym p)) ∙ e)))

module _ (b : List ℕ) where
  pub block_cell-sym : (k l : ℕ) → block_cell b k l ≡ block_cell b l k
  block_cell-sym k l = sum_to-cong (records b) (λ i. record_cell b i k l) (λ i. record_cell b i l k) (λ i h. record_cell-sym b i k l)

  block_cell-none : first_bad b ≡ records b → (k l : ℕ) → (least_degree ≤ k → k ≤ most_degree → ⊥) → block_cell b k l ≡ 0
  block_cell-none e k l h =
      sum_to-zero (records b) (λ i. record_cell b i k l) (λ i m. record_cell-none b i k l (good-record b i (all-good b e i m)) h)

  pub block_cell-none_of_0 : first_bad b ≡ records b → (l : ℕ) → block_cell b 0 l ≡ 0
  block_cell-none_of_0 e l = block_cell-none e 0 l (λ p q. absurd (omega arith))

  pub block_cell-none_above : first_bad b ≡ records b → (k l : ℕ) → most_degree < k → block_cell b k l ≡ 0
  block_cell-none_above e k l m = block_cell-none e k l (λ p q. absurd (omega arith))
