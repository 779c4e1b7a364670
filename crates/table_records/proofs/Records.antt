-- What the records of a table are: whole records, ascending, none with count 0.
-- Assumes nothing.
use mathlib.Core.Path.{◌≡◌, refl, ap, ap₂, ◌∙◌}
use mathlib.Core.List.{List, [], ◌++◌}
use mathlib.Core.Logic.{◌≢◌, ◌⊎◌, inl, inr}
use Prim.Native.Nat.{ℕ, zero, suc, ◌+◌, ◌-◌, ◌*◌, ◌/◌, ◌%◌, ◌≤◌, ◌<◌}
use native.Mathlib.Nat.{add-zero}
use native.Mathlib.Numerals.{add-one}
use native.Mathlib.Decide.{ℕ_discrete, dec_lt}
use native.Mathlib.Omega.{arith}
use lib.ListN.{length, get_or, length-append, get_or-append}
use lib.Seq.{get_or-append-add}
use borrow.Author.Tests.{le-leb, lt-leb, eq-eqb, ne_eqb}
use Rattle.finite.specs.Range.{sum_to, cat_to}
use Rattle.finite.proofs.Fold.{cat_to-cong, cat_to-empty}
use Rattle.finite.proofs.Sum.{sum_to-cong, sum_to-split}
use Rattle.graph.specs.Graph.{DegreeTable}
use Rattle.graph.specs.Tests.{least_class, most_degree, most_classes, Table}
use Rattle.table.specs.Block.{record_size, records, record_k, record_l, record_count}
use Rattle.table_records.specs.Records.{count_record, cell_record, cell_records, records_of}

-- row k has no record before its diagonal
pub row_starts : (T : ℕ → ℕ → ℕ) (k : ℕ) → cat_to k (cell_record T k) ≡ []
row_starts T k = cat_to-empty (cell_record T k) k (λ l h. rw (lt-leb k l h))

-- they depend on the isolated vertices and the cells alone
pub records-cong : (t u : DegreeTable) → t.isolated ≡ u.isolated → ((k l : ℕ) → k < most_classes → l < most_classes → t.cells k l ≡ u.cells k l)
    → records_of t ≡ records_of u
records-cong t u i h =
    ap₂ ◌++◌ (ap (count_record 0 0) i)
    (cat_to-cong (λ k. cat_to most_classes (cell_record t.cells k)) (λ k. cat_to most_classes (cell_record u.cells k)) most_classes
    (λ k p. cat_to-cong (cell_record t.cells k) (cell_record u.cells k) most_classes (λ l q. rw (h k l p q))))

-- 1. One list of records behind another.

abbrev pub Whole : List ℕ → Type 0
Whole b = length b ≡ record_size * records b

-- the sum over the records, where f says what a record k, l, count adds
abbrev pub added : (ℕ → ℕ → ℕ → ℕ) → List ℕ → ℕ
added f b = sum_to (records b) (λ i. f (record_k b i) (record_l b i) (record_count b i))

module _ (a b : List ℕ) (whole : Whole a) where
  records-append : records (a ++ b) ≡ records a + records b
  records-append = rw length-append (omega arith)

  -- a place in the first, and a place in the second
  first-at : (i c : ℕ) → i < records a → c < record_size → get_or (a ++ b) (record_size * i + c) 0 ≡ get_or a (record_size * i + c) 0
  first-at i c h l = get_or-append a b 0 (record_size * i + c) (omega arith)

  second_at : (i c : ℕ) → get_or (a ++ b) (record_size * (records a + i) + c) 0 ≡ get_or b (record_size * i + c) 0
  second_at i c =
      let e : record_size * (records a + i) + c ≡ length a + (record_size * i + c) = omega arith in
      rw e (get_or-append-add a b (record_size * i + c) 0)

  record-first : (i : ℕ) → i < records a
      → (record_k (a ++ b) i ≡ record_k a i) × (record_l (a ++ b) i ≡ record_l a i) × (record_count (a ++ b) i ≡ record_count a i)
  record-first i h = (
    rw add-zero at (first-at i 0 h (omega arith)),
    first-at i 1 h (omega arith),
    ap₂ (λ (x y : ℕ). x + 256 * y) (first-at i 2 h (omega arith)) (first-at i 3 h (omega arith)),
  )

  record-second : (i : ℕ)
      → (record_k (a ++ b) (records a + i) ≡ record_k b i)
      × (record_l (a ++ b) (records a + i) ≡ record_l b i)
      × (record_count (a ++ b) (records a + i) ≡ record_count b i)
  record-second i = (
    simp add-zero at (second_at i 0),
    second_at i 1,
    ap₂ (λ (x y : ℕ). x + 256 * y) (second_at i 2) (second_at i 3),
  )

  pub whole_append : Whole b → Whole (a ++ b)
  whole_append w = rw length-append (omega arith)

  -- what holds of the records of both holds of those of the whole
  each_append : (P : ℕ → ℕ → ℕ → Type 0)
      → ((i : ℕ) → i < records a → P (record_k a i) (record_l a i) (record_count a i))
      → ((i : ℕ) → i < records b → P (record_k b i) (record_l b i) (record_count b i))
      → (i : ℕ) → i < records (a ++ b) → P (record_k (a ++ b) i) (record_l (a ++ b) i) (record_count (a ++ b) i)
  each_append P f g i h = go (dec_lt i (records a))
    where
      go : Dec (i < records a) → P (record_k (a ++ b) i) (record_l (a ++ b) i) (record_count (a ++ b) i)
      go (yes l) = let r = record-first i l in rw (r.0, r.1, r.2) (f i l)
      go (no l) =
          let e : i ≡ records a + (i - records a) = omega arith in
          let r = record-second (i - records a) in
          rw (e, r.0, r.1, r.2) (g (i - records a) (omega (arith, records-append)))

  -- what the whole adds
  pub added-append : (f : ℕ → ℕ → ℕ → ℕ) → added f (a ++ b) ≡ added f a + added f b
  added-append f =
      rw records-append
      (sum_to-split (records a) (records b) (of (a ++ b))
      ∙ ap₂ ◌+◌
      (sum_to-cong (records a) (of (a ++ b)) (of a) (λ i h. let r = record-first i h in rw (r.0, r.1, r.2)))
      (sum_to-cong (records b) (λ i. of (a ++ b) (records a + i)) (of b) (λ i h. let r = record-second i in rw (r.0, r.1, r.2))))
    where
      of : List ℕ → ℕ → ℕ
      of c i = f (record_k c i) (record_l c i) (record_count c i)

-- as a number, a record's two bytes are its count
pub two_bytes : (n : ℕ) → n % 256 + 256 * (n / 256) ≡ n
two_bytes n = omega arith

-- 2. Records in their order.

-- k and l as one number, by which records rise
abbrev key : ℕ → ℕ → ℕ
key k l = most_classes * k + l

-- P is what holds of each record
module _ (P : ℕ → ℕ → ℕ → Type 0) where
  -- a record with lo ≤ key < hi
  record Shown (lo hi k l n : ℕ) : Type 0 where
    holds : P k l n
    from : lo ≤ key k l
    below : key k l < hi

  -- whole records that rise strictly, from lo on and below hi
  record Run (lo hi : ℕ) (b : List ℕ) : Type 0 where
    whole : Whole b
    each : (i : ℕ) → i < records b → Shown lo hi (record_k b i) (record_l b i) (record_count b i)
    rising : (i j : ℕ) → i < j → j < records b → key (record_k b i) (record_l b i) < key (record_k b j) (record_l b j)

  run_none : (lo hi : ℕ) → Run lo hi []
  run_none lo hi = record { whole = refl; each = λ i h. absurd (omega arith); rising = λ i j h l. absurd (omega arith) }

  -- one record, or none where its count is 0
  run-count : (k l n : ℕ) → (n ≢ 0 → P k l n) → Run (key k l) (key k l + 1) (count_record k l n)
  run-count k l n p = go (ℕ_discrete n 0)
    where
      one : n ≢ 0 → Shown (key k l) (key k l + 1) k l (n % 256 + 256 * (n / 256))
      one q = rw (two_bytes n) (record { holds = p q; from = omega arith; below = omega arith })

      go : Dec (n ≡ 0) → Run (key k l) (key k l + 1) (count_record k l n)
      go (yes q) = rw (eq-eqb n 0 q) (run_none (key k l) (key k l + 1))
      go (no q) =
          rw (ne_eqb n 0 q)
          (record { whole = refl; each = λ i m. let z : i ≡ 0 = omega arith in rw z (one q); rising = λ i j m n. absurd (omega arith) })

  shown-wider : (lo hi lo' hi' k l n : ℕ) → lo' ≤ lo → hi ≤ hi' → Shown lo hi k l n → Shown lo' hi' k l n
  shown-wider lo hi lo' hi' k l n p q s = record { holds = s.holds; from = omega (arith, s.from); below = omega (arith, s.below) }

  run-append : (lo mid hi : ℕ) (a b : List ℕ) → lo ≤ mid → mid ≤ hi → Run lo mid a → Run mid hi b → Run lo hi (a ++ b)
  run-append lo mid hi a b p q r s =
      record {
        whole = whole_append a b r.whole s.whole;
        each = each_append a b r.whole (Shown lo hi)
            (λ i h. shown-wider lo mid lo hi _ _ _ (omega arith) q (r.each i h))
            (λ i h. shown-wider mid hi lo hi _ _ _ p (omega arith) (s.each i h));
        rising = λ i j h l. rising i j h l (dec_lt i (records a)) (dec_lt j (records a));
      }
    where
      at : ℕ → ℕ
      at i = key (record_k (a ++ b) i) (record_l (a ++ b) i)

      first : (i : ℕ) → i < records a → at i ≡ key (record_k a i) (record_l a i)
      first i h = let f = record-first a b r.whole i h in ap₂ key f.0 f.1

      second : (i : ℕ) → records a ≤ i → at i ≡ key (record_k b (i - records a)) (record_l b (i - records a))
      second i h =
          let e : i ≡ records a + (i - records a) = omega arith in
          let f = record-second a b r.whole (i - records a) in
          ap at e ∙ ap₂ key f.0 f.1

      rising : (i j : ℕ) → i < j → j < records (a ++ b) → Dec (i < records a) → Dec (j < records a) → at i < at j
      rising i j h l (yes u) (yes v) = rw (first i u, first j v) (r.rising i j h v)
      rising i j h l (yes u) (no v) =
          rw (first i u, second j (omega arith))
          (omega (arith, (r.each i u).below, (s.each (j - records a) (omega (arith, records-append a b r.whole))).from))
      rising i j h l (no u) (yes v) = absurd (omega arith)
      rising i j h l (no u) (no v) =
          rw (second i (omega arith), second j (omega arith))
          (s.rising (i - records a) (j - records a) (omega arith) (omega (arith, records-append a b r.whole)))

  -- runs one after the other
  run-cat : (f : ℕ → List ℕ) (g : ℕ → ℕ) (n : ℕ) → ((i : ℕ) → i < n → g i ≤ g (i + 1)) → ((i : ℕ) → i < n → Run (g i) (g (i + 1)) (f i))
      → (g 0 ≤ g n) × Run (g 0) (g n) (cat_to n f)
  unfolding cat_to
  run-cat f g zero up h = (omega arith, run_none (g 0) (g 0))
  run-cat f g (suc n) up h =
      let r = run-cat f g n (λ i l. up i (omega arith)) (λ i l. h i (omega arith)) in
      let u = up n (omega arith) in
      rw (← (add-one n)) (omega (arith, r.0), run-append (g 0) (g n) (g (n + 1)) (cat_to n f) (f n) r.0 u r.1 (h n (omega arith)))

-- 3. The records of a table.

-- of a cell: two degrees, and a count that is not 0
record OfCell (k l n : ℕ) : Type 0 where
  least : least_class ≤ k
  ordered : k ≤ l
  most : l ≤ most_degree
  counted : 0 < n

-- of a cell, or 0, 0 for isolated vertices
pub record OfTable (k l n : ℕ) : Type 0 where
  pub least : (least_class ≤ k) ⊎ (l ≡ 0)
  pub ordered : k ≤ l
  pub most : l ≤ most_degree
  pub counted : 0 < n

pub first_whole : (n : ℕ) → Whole (count_record 0 0 n)
first_whole n = (run-count (λ k l n. 0 < n) 0 0 n (λ q. omega arith)).whole

module _ (t : DegreeTable) (table : Table t.cells) where
  -- only cells of a degree are not 0
  pub cell_least : (k l : ℕ) → t.cells k l ≢ 0 → least_class ≤ k
  cell_least k l h = go (ℕ_discrete k 0)
    where
      go : Dec (k ≡ 0) → least_class ≤ k
      go (yes z) = absurd (h (rw z (table.none_of_0 l)))
      go (no z) = omega arith

  run-cell : (k l : ℕ) → l < most_classes → Run OfCell (key k l) (key k l + 1) (cell_record t.cells k l)
  run-cell k l h = go (dec_lt l k)
    where
      go : Dec (l < k) → Run OfCell (key k l) (key k l + 1) (cell_record t.cells k l)
      go (yes p) = rw (lt-leb k l p) (run_none OfCell (key k l) (key k l + 1))
      go (no p) =
          rw (le-leb k l (omega arith))
          (run-count OfCell k l (t.cells k l)
          (λ q. record { least = cell_least k l q; ordered = omega arith; most = omega arith; counted = omega arith }))

  pub cell_whole : (k l : ℕ) → l < most_classes → Whole (cell_record t.cells k l)
  cell_whole k l h = (run-cell k l h).whole

  run_row : (k : ℕ) → Run OfCell (key k 0) (key k most_classes) (cat_to most_classes (cell_record t.cells k))
  run_row k =
      (run-cat OfCell (cell_record t.cells k) (key k) most_classes (λ l h. omega arith)
      (λ l h. let e : key k (l + 1) ≡ key k l + 1 = omega arith in rw e (run-cell k l h))).1

  run-cells : Run OfCell (key 0 0) (key most_classes 0) (cell_records t.cells)
  run-cells =
      (run-cat OfCell (λ k. cat_to most_classes (cell_record t.cells k)) (λ k. key k 0) most_classes (λ k h. omega arith)
      (λ k h. let e : key (k + 1) 0 ≡ key k most_classes = omega arith in rw e (run_row k))).1

  -- each cell is past the key of isolated vertices
  run-table : Run OfTable (key 0 0) (key most_classes 0) (records_of t)
  run-table =
      run-append OfTable (key 0 0) (key 0 0 + 1) (key most_classes 0) (count_record 0 0 t.isolated) (cell_records t.cells) (omega arith) (omega arith)
      (run-count OfTable 0 0 t.isolated (λ q. record { least = inr refl; ordered = omega arith; most = omega arith; counted = omega arith }))
      (record { whole = run-cells.whole; each = λ i h. later _ _ _ (run-cells.each i h); rising = run-cells.rising })
    where
      later : (k l n : ℕ) → Shown OfCell (key 0 0) (key most_classes 0) k l n → Shown OfTable (key 0 0 + 1) (key most_classes 0) k l n
      later k l n s =
          let c = s.holds in
          record {
            holds = record { least = inl c.least; ordered = c.ordered; most = c.most; counted = c.counted };
            from = omega (arith, c.least);
            below = s.below;
          }

  -- they are whole records
  pub records-whole : length (records_of t) ≡ record_size * records (records_of t)
  records-whole = run-table.whole

  -- each is of a cell that is not 0, or of some isolated vertices
  pub records-shown : (i : ℕ) → i < records (records_of t) → OfTable (record_k (records_of t) i) (record_l (records_of t) i) (record_count (records_of t) i)
  records-shown i h = (run-table.each i h).holds

  -- they rise strictly, by k and then l
  pub records-rise : (i j : ℕ) → i < j → j < records (records_of t)
      → (record_k (records_of t) i < record_k (records_of t) j)
      ⊎ ((record_k (records_of t) i ≡ record_k (records_of t) j) × (record_l (records_of t) i < record_l (records_of t) j))
  records-rise i j h l = go (dec_lt (record_k (records_of t) i) (record_k (records_of t) j))
    where
      go : Dec (record_k (records_of t) i < record_k (records_of t) j)
          → (record_k (records_of t) i < record_k (records_of t) j)
          ⊎ ((record_k (records_of t) i ≡ record_k (records_of t) j) × (record_l (records_of t) i < record_l (records_of t) j))
      go (yes p) = inl p
      go (no p) =
          let u = run-table.rising i j h l in
          let a = records-shown i (omega arith) in
          let b = records-shown j l in
          inr (omega (arith, a.most, b.most), omega (arith, a.most, b.most))
