-- Read back, the records of a table give the table; they are good, and where each count fits 16 bits they are bytes.
-- Assumes nothing.
use mathlib.Core.Path.{◌≡◌, refl, sym, ap, ◌∙◌}
use mathlib.Core.Bool.{Bool, true, false, ◌&&◌, not, cond, and-false, and-true}
use mathlib.Core.List.{List, [], ◌∷◌, ◌++◌}
use mathlib.Core.Logic.{◌≢◌, ◌⊎◌, inl, inr}
use Prim.Native.Nat.{ℕ, zero, suc, ◌+◌, ◌-◌, ◌*◌, ◌/◌, ◌%◌, ◌≤◌, ◌<◌, min, max}
use native.Mathlib.Nat.{add-zero, zero-add, mul-zero, zero-mul, one-mul}
use native.Mathlib.Decide.{ℕ_discrete, dec_lt}
use native.Mathlib.Omega.{arith}
use lib.Dec.{eqb, leb}
use lib.ListN.{length, get_or, get_or-append}
use lib.Seq.{get_or-append-add}
use borrow.Author.Tests.{le-leb, lt-leb, eq-eqb, ne_eqb}
use Rattle.finite.specs.Range.{δ, sum_to, cat_to}
use Rattle.finite.proofs.Delta.{δ-same, δ-other}
use Rattle.finite.proofs.Lowest.{lowest-none}
use Rattle.finite.proofs.Sum.{sum_to-cong, sum_to-scale, sum_to-at, sum_to-zero}
use Rattle.graph.specs.Graph.{DegreeTable}
use Rattle.graph.specs.Tests.{least_class, most_degree, most_classes, Table}
use Rattle.table.specs.Block.{records, record_k, record_l, record_count, good_record, first_bad, block_cell, block_isolated, same_pair}
use Rattle.table.proofs.Block.{same_pair-straight, same_pair-crossed, same_pair-none, block_cell-sym, block_cell-none_above}
use Rattle.table_records.specs.Records.{count_record, cell_record, cell_records, records_of}
use Rattle.table_records.proofs.Records.{Whole, added, OfTable, whole_append, added-append, two_bytes, first_whole, cell_least, cell_whole, records-shown}

-- weights that are 1 at (m, n) and 0 elsewhere
module _ (i j m n x : ℕ) where
  weighed-here : i ≡ m → j ≡ n → δ i m * (δ j n * x) ≡ x
  weighed-here p q = rw (δ-same i m p, δ-same j n q, one-mul x) (one-mul x)

  weighed-apart : (i ≡ m → j ≡ n → ⊥) → δ i m * (δ j n * x) ≡ 0
  weighed-apart h = go (ℕ_discrete i m)
    where
      go : Dec (i ≡ m) → δ i m * (δ j n * x) ≡ 0
      go (yes p) = rw (δ-other j n (h p), zero-mul x) (mul-zero (δ i m))
      go (no p) = rw (δ-other i m p) (zero-mul (δ j n * x))

-- what a record adds to cell (k, l), and to the isolated vertices
abbrev to_cell : ℕ → ℕ → ℕ → ℕ → ℕ → ℕ
to_cell k l x y n = cond (same_pair k l x y && not (eqb x 0 && eqb y 0)) n 0

abbrev to_isolated : ℕ → ℕ → ℕ → ℕ
to_isolated x y n = cond (eqb x 0 && eqb y 0) n 0

none : (t : Bool) → ◌≡◌ {A = ℕ} (cond t 0 0) 0
none true = refl
none false = refl

module _ (f : ℕ → ℕ → ℕ → ℕ) where
  -- what one record adds, where a count of 0 adds nothing
  count-back : (x y n : ℕ) → f x y 0 ≡ 0 → added f (count_record x y n) ≡ f x y n
  unfolding sum_to
  count-back x y n z = go (ℕ_discrete n 0)
    where
      go : Dec (n ≡ 0) → added f (count_record x y n) ≡ f x y n
      go (yes q) = rw (eq-eqb n 0 q, q, z)
      go (no q) = rw (ne_eqb n 0 q, two_bytes n) (zero-add (f x y n))

  -- lists of records one after the other add up
  cat-back : (g : ℕ → List ℕ) (n : ℕ) → ((i : ℕ) → i < n → Whole (g i)) → Whole (cat_to n g) × (added f (cat_to n g) ≡ sum_to n (λ i. added f (g i)))
  unfolding cat_to sum_to
  cat-back g zero h = (refl, refl)
  cat-back g (suc n) h =
      let r = cat-back g n (λ i m. h i (omega arith)) in (
        whole_append (cat_to n g) (g n) r.0 (h n (omega arith)),
        added-append (cat_to n g) (g n) r.0 f ∙ ap (λ (s : ℕ). s + added f (g n)) r.1,
      )

-- The records of a table, which is 0 at degree 0 and above 40.
module _ (t : DegreeTable) (table : Table t.cells) where
  -- row by row
  cells-back : (f : ℕ → ℕ → ℕ → ℕ) → added f (cell_records t.cells) ≡ sum_to most_classes (λ i. sum_to most_classes (λ j. added f (cell_record t.cells i j)))
  cells-back f =
      (cat-back f (λ i. cat_to most_classes (cell_record t.cells i)) most_classes (λ i h. (row i).0)).1
      ∙ sum_to-cong most_classes (λ i. added f (cat_to most_classes (cell_record t.cells i))) (λ i. sum_to most_classes (λ j. added f (cell_record t.cells i j)))
      (λ i h. (row i).1)
    where
      row : (i : ℕ) → Whole (cat_to most_classes (cell_record t.cells i))
          × (added f (cat_to most_classes (cell_record t.cells i)) ≡ sum_to most_classes (λ j. added f (cell_record t.cells i j)))
      row i = cat-back f (cell_record t.cells i) most_classes (cell_whole t table i)

  not-isolated : (i j : ℕ) → t.cells i j ≢ 0 → eqb i 0 ≡ false
  not-isolated i j h = ne_eqb i 0 (λ z. omega (arith, cell_least t table i j h))

  -- what the record of cell (i, j) adds to cell (k, l)
  cell-back : (k l i j : ℕ) → added (to_cell k l) (cell_record t.cells i j) ≡ δ i (min k l) * (δ j (max k l) * t.cells i j)
  unfolding sum_to
  cell-back k l i j = go (dec_lt j i)
    where
      x : ℕ
      x = t.cells i j

      pair : i ≡ min k l → j ≡ max k l → Dec (l < k) → same_pair k l i j ≡ true
      pair p q (yes r) = same_pair-crossed k l i j (omega arith) (omega arith)
      pair p q (no r) = same_pair-straight k l i j (omega arith) (omega arith)

      apart : i ≤ j → (i ≡ min k l → j ≡ max k l → ⊥) → cond (same_pair k l i j) x 0 ≡ δ i (min k l) * (δ j (max k l) * x)
      apart h f =
          rw (
            same_pair-none k l i j (λ p q. f (omega arith) (omega arith)) (λ p q. f (omega arith) (omega arith)),
            weighed-apart i j (min k l) (max k l) x f,
          )

      one : i ≤ j → Dec (i ≡ min k l) → Dec (j ≡ max k l) → cond (same_pair k l i j) x 0 ≡ δ i (min k l) * (δ j (max k l) * x)
      one h (yes p) (yes q) = rw (pair p q (dec_lt l k), weighed-here i j (min k l) (max k l) x p q)
      one h (yes p) (no q) = apart h (λ _ r. q r)
      one h (no p) q = apart h (λ r _. p r)

      adds : i ≤ j → Dec (x ≡ 0) → to_cell k l i j x ≡ δ i (min k l) * (δ j (max k l) * x)
      adds h (yes q) = rw (q, mul-zero (δ j (max k l)), mul-zero (δ i (min k l))) (none (same_pair k l i j && not (eqb i 0 && eqb j 0)))
      adds h (no q) = rw (not-isolated i j q, and-true (same_pair k l i j)) (one h (ℕ_discrete i (min k l)) (ℕ_discrete j (max k l)))

      go : Dec (j < i) → added (to_cell k l) (cell_record t.cells i j) ≡ δ i (min k l) * (δ j (max k l) * x)
      go (yes p) = rw (lt-leb i j p, weighed-apart i j (min k l) (max k l) x (λ r s. omega arith))
      go (no p) =
          rw (le-leb i j (omega arith))
          (count-back (to_cell k l) i j x (none (same_pair k l i j && not (eqb i 0 && eqb j 0))) ∙ adds (omega arith) (ℕ_discrete x 0))

  -- and to the isolated vertices: nothing
  cell-none : (i j : ℕ) → added to_isolated (cell_record t.cells i j) ≡ 0
  unfolding sum_to
  cell-none i j = go (dec_lt j i)
    where
      x : ℕ
      x = t.cells i j

      adds : Dec (x ≡ 0) → to_isolated i j x ≡ 0
      adds (yes q) = rw q (none (eqb i 0 && eqb j 0))
      adds (no q) = rw (not-isolated i j q)

      go : Dec (j < i) → added to_isolated (cell_record t.cells i j) ≡ 0
      go (yes p) = rw (lt-leb i j p)
      go (no p) = rw (le-leb i j (omega arith)) (count-back to_isolated i j x (none (eqb i 0 && eqb j 0)) ∙ adds (ℕ_discrete x 0))

  -- what the first record adds, and the cells behind it
  first_back : (f : ℕ → ℕ → ℕ → ℕ) → f 0 0 0 ≡ 0 → added f (records_of t) ≡ f 0 0 t.isolated + added f (cell_records t.cells)
  first_back f z =
      added-append (count_record 0 0 t.isolated) (cell_records t.cells) (first_whole t.isolated) f
      ∙ ap (λ (s : ℕ). s + added f (cell_records t.cells)) (count-back f 0 0 t.isolated z)

  -- read back, the records are the matrix
  records-back : (k l : ℕ) → k < most_classes → l < most_classes → block_cell (records_of t) k l ≡ t.cells k l
  records-back k l hk hl =
      first_back (to_cell k l) (none (same_pair k l 0 0 && false))
      ∙ rw (and-false (same_pair k l 0 0)) (zero-add (added (to_cell k l) (cell_records t.cells)))
      ∙ cells-back (to_cell k l)
      ∙ sum_to-cong most_classes (λ i. sum_to most_classes (λ j. added (to_cell k l) (cell_record t.cells i j)))
      (λ i. δ i (min k l) * sum_to most_classes (λ j. δ j (max k l) * t.cells i j))
      (λ i h. sum_to-cong most_classes (λ j. added (to_cell k l) (cell_record t.cells i j)) (λ j. δ i (min k l) * (δ j (max k l) * t.cells i j))
      (λ j m. cell-back k l i j)
      ∙ sum_to-scale (δ i (min k l)) most_classes (λ j. δ j (max k l) * t.cells i j))
      ∙ sum_to-at most_classes (min k l) (λ i. sum_to most_classes (λ j. δ j (max k l) * t.cells i j)) (omega arith)
      ∙ sum_to-at most_classes (max k l) (t.cells (min k l)) (omega arith)
      ∙ turn (dec_lt l k)
    where
      turn : Dec (l < k) → t.cells (min k l) (max k l) ≡ t.cells k l
      turn (yes h) =
          let a : min k l ≡ l = omega arith in
          let b : max k l ≡ k = omega arith in
          rw (a, b) (table.symmetric l k)
      turn (no h) =
          let a : min k l ≡ k = omega arith in
          let b : max k l ≡ l = omega arith in
          rw (a, b)

  -- and the isolated vertices
  pub records-isolated : block_isolated (records_of t) ≡ t.isolated
  records-isolated =
      first_back to_isolated refl
      ∙ ap (λ (s : ℕ). t.isolated + s)
      (cells-back to_isolated
      ∙ sum_to-zero most_classes (λ i. sum_to most_classes (λ j. added to_isolated (cell_record t.cells i j)))
      (λ i h. sum_to-zero most_classes (λ j. added to_isolated (cell_record t.cells i j)) (λ j m. cell-none i j)))
      ∙ add-zero t.isolated

  pub records-good : (i : ℕ) → i < records (records_of t) → good_record (records_of t) i ≡ true
  records-good i h = go s.least
    where
      k : ℕ
      k = record_k (records_of t) i

      l : ℕ
      l = record_l (records_of t) i

      s : OfTable k l (record_count (records_of t) i)
      s = records-shown t table i h

      go : (least_class ≤ k) ⊎ (l ≡ 0) → good_record (records_of t) i ≡ true
      go (inl p) =
          rw (
            le-leb least_class k p,
            le-leb k most_degree (omega (arith, s.ordered, s.most)),
            le-leb least_class l (omega (arith, s.ordered)),
            le-leb l most_degree s.most,
            le-leb k l s.ordered,
          )
      go (inr p) = let z : k ≡ 0 = omega (arith, s.ordered) in rw (z, p)

  records-all-good : first_bad (records_of t) ≡ records (records_of t)
  records-all-good =
      lowest-none 0 (records (records_of t)) (λ i. not (good_record (records_of t) i)) (omega arith)
      (λ i g h. ap not (records-good i h))

  -- in every cell
  pub records-exact : (k l : ℕ) → block_cell (records_of t) k l ≡ t.cells k l
  records-exact k l = go (dec_lt k most_classes) (dec_lt l most_classes)
    where
      go : Dec (k < most_classes) → Dec (l < most_classes) → block_cell (records_of t) k l ≡ t.cells k l
      go (yes p) (yes q) = records-back k l p q
      go (yes p) (no q) =
          block_cell-sym (records_of t) k l
          ∙ block_cell-none_above (records_of t) records-all-good l k (omega arith)
          ∙ sym (table.none_above l k (omega arith))
          ∙ table.symmetric l k
      go (no p) q = block_cell-none_above (records_of t) records-all-good k l (omega arith) ∙ sym (table.none_above k l (omega arith))

-- Where each count fits 16 bits they are bytes.

abbrev Bytes : List ℕ → Type 0
Bytes b = (p : ℕ) → get_or b p 0 < 256

bytes_append : (a b : List ℕ) → Bytes a → Bytes b → Bytes (a ++ b)
bytes_append a b f g p = go (dec_lt p (length a))
  where
    go : Dec (p < length a) → get_or (a ++ b) p 0 < 256
    go (yes h) = rw (get_or-append a b 0 p h) (f p)
    go (no h) =
        let e : p ≡ length a + (p - length a) = omega arith in
        rw (e, get_or-append-add a b (p - length a) 0) (g (p - length a))

bytes_cat : (f : ℕ → List ℕ) (n : ℕ) → ((i : ℕ) → i < n → Bytes (f i)) → Bytes (cat_to n f)
unfolding cat_to
bytes_cat f zero h = λ p. omega arith
bytes_cat f (suc n) h = bytes_append (cat_to n f) (f n) (bytes_cat f n (λ i l. h i (omega arith))) (h n (omega arith))

bytes_count : (k l n : ℕ) → k < most_classes → l < most_classes → n < 65536 → Bytes (count_record k l n)
bytes_count k l n p q small = go (eqb n 0)
  where
    four : (a b c d : ℕ) → a < 256 → b < 256 → c < 256 → d < 256 → Bytes (a ∷ b ∷ c ∷ d ∷ [])
    four a b c d p q r s zero = p
    four a b c d p q r s (suc zero) = q
    four a b c d p q r s (suc (suc zero)) = r
    four a b c d p q r s (suc (suc (suc zero))) = s
    four a b c d p q r s (suc (suc (suc (suc n)))) = omega arith

    go : (t : Bool) → Bytes (cond t [] (k ∷ l ∷ n % 256 ∷ n / 256 ∷ []))
    go true = λ i. omega arith
    go false = four k l (n % 256) (n / 256) (omega arith) (omega arith) (omega arith) (omega arith)

pub records-bytes : (t : DegreeTable) → t.isolated < 65536 → ((k l : ℕ) → t.cells k l < 65536) → (p : ℕ) → get_or (records_of t) p 0 < 256
records-bytes t few small =
    bytes_append (count_record 0 0 t.isolated) (cell_records t.cells) (bytes_count 0 0 t.isolated (omega arith) (omega arith) few)
    (bytes_cat (λ k. cat_to most_classes (cell_record t.cells k)) most_classes
    (λ k p. bytes_cat (cell_record t.cells k) most_classes (λ l q. cell k l p q (leb k l))))
  where
    cell : (k l : ℕ) → k < most_classes → l < most_classes → (b : Bool) → Bytes (cond b (count_record k l (t.cells k l)) [])
    cell k l p q true = bytes_count k l (t.cells k l) p q (small k l)
    cell k l p q false = λ i. omega arith
