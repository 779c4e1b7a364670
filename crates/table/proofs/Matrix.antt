-- What adding a block does to the array of cells, and to the matrix that it holds.
-- Assumes nothing.
use mathlib.Core.Path.{◌≡◌, refl, sym, ◌∙◌, fun_ext}
use mathlib.Core.Bool.{Bool, true, false, ◌&&◌, cond}
use mathlib.Core.List.{List}
use mathlib.Core.Logic.{◌≢◌}
use Prim.Native.Nat.{ℕ, ◌+◌, ◌*◌, ◌≤◌, ◌<◌}
use native.Mathlib.Nat.{add-zero, add_assoc}
use native.Mathlib.Decide.{ℕ_discrete, dec_lt}
use native.Mathlib.Omega.{arith}
use lib.Dec.{ltb}
use lib.ListN.{length, get_or, set, replicate, length-set}
use lib.Seq.{get_or-set_same, get_or-set_other, set_out}
use borrow.Author.Tests.{lt-ltb, le-ltb}
use Rattle.finite.specs.Range.{sum_to, fold_to}
use Rattle.finite.proofs.All.{and-false}
use Rattle.finite.proofs.Fold.{fold_to-keeps}
use Rattle.finite.proofs.Sum.{sum_to-none, sum_to-more, sum_to-cong}
use Rattle.graph.specs.Tests.{most_classes}
use Rattle.slices.proofs.Zero.{get_or-zeros}
use Rattle.table.specs.Block.{most_records, records, record_k, record_l, record_count, first_bad, same_pair, record_cell, record_isolated, block_cell, block_isolated}
use Rattle.table.specs.Inner.Cells.{record_most, cells_size, place, matrix_of, isolated_place, add_record, add_block, AtMost, block_sum_most}
use Rattle.table.proofs.Block.{Good, good-record, all-good, same_pair-straight, same_pair-crossed, same_pair-none, amount, amount-sym, amount-none_above, amount-cell, amount-isolated}

pub length-add_record : (b : List ℕ) (i : ℕ) (c : List ℕ) → length (add_record b i c) ≡ length c
length-add_record b i c = length-set c _ _

pub length-add_block : (b c : List ℕ) → length (add_block b c) ≡ length c
length-add_block b c =
    fold_to-keeps (λ i x. length x ≡ length c) (add_record b) c (records b) refl (λ i x l e. length-add_record b i x ∙ e)

cond-zero : (t : Bool) (n : ℕ) → n ≡ 0 → cond t n 0 ≡ 0
cond-zero true n e = e
cond-zero false n e = refl

-- an array of zeros
abbrev pub cells_of_none : List ℕ
cells_of_none = replicate cells_size 0

pub matrix_none : matrix_of cells_of_none ≡ (λ k l. 0)
matrix_none = matrix-zeros cells_size
  where
    matrix-zeros : (n : ℕ) → matrix_of (replicate n 0) ≡ (λ k l. 0)
    matrix-zeros n = fun_ext (λ k. fun_ext (λ l. cond-zero (ltb k most_classes && ltb l most_classes) _ (get_or-zeros n (place k l))))

-- one number changed
at_most_set : (m v : ℕ) (c : List ℕ) (p : ℕ) → AtMost m c → v ≤ m → AtMost m (set c p v)
at_most_set m v c p h l q = go (ℕ_discrete q p) (dec_lt p (length c))
  where
    go : Dec (q ≡ p) → Dec (p < length c) → get_or (set c p v) q 0 ≤ m
    go (yes e) (yes i) = rw (e, get_or-set_same c p v 0 i) l
    go (yes e) (no i) = rw (set_out c p v (omega arith)) (h q)
    go (no e) i = rw (get_or-set_other c p q v 0 e) (h q)

-- a record adds at most 65,535 to a cell
module _ (b : List ℕ) (bytes : (i : ℕ) → get_or b i 0 < 256) (m : ℕ) (c : List ℕ) (h : AtMost m c) where
  pub at_most_add_records : (n : ℕ) → AtMost (m + record_most * n) (fold_to n (add_record b) c)
  at_most_add_records n = fold_to-keeps (λ i x. AtMost (m + record_most * i) x) (add_record b) c n (λ p. omega (arith, h p)) step
    where
      step : (i : ℕ) (x : List ℕ) → i < n → AtMost (m + record_most * i) x → AtMost (m + record_most * (i + 1)) (add_record b i x)
      step i x l g =
          at_most_set (m + record_most * (i + 1)) _ x (place (record_k b i) (record_l b i)) (λ p. omega (arith, g p))
          (omega (arith, g (place (record_k b i) (record_l b i)), bytes (4 * i + 2), bytes (4 * i + 3)))

pub at_most_add_block : (m : ℕ) (b c : List ℕ) → AtMost m c → records b ≤ most_records → ((i : ℕ) → get_or b i 0 < 256) →
    AtMost (m + block_sum_most) (add_block b c)
at_most_add_block m b c h l bytes p = omega (arith, at_most_add_records b bytes m c h (records b) p)

pub matrix_most : (m : ℕ) (c : List ℕ) → AtMost m c → (k l : ℕ) → matrix_of c k l ≤ m
matrix_most m c h k l = go (ltb k most_classes && ltb l most_classes)
  where
    go : (t : Bool) → cond t (get_or c (place k l) 0) 0 ≤ m
    go true = h (place k l)
    go false = omega arith

-- a cell is the same in either order
pub matrix_sym : (c : List ℕ) (k l : ℕ) → matrix_of c k l ≡ matrix_of c l k
matrix_sym c k l = go (ltb k most_classes) (ltb l most_classes)
  where
    go : (s t : Bool) → cond (s && t) (get_or c (place k l) 0) 0 ≡ cond (t && s) (get_or c (place l k) 0) 0
    go true true = let e : place k l ≡ place l k = omega arith in rw e
    go true false = refl
    go false true = refl
    go false false = refl

-- two pairs of degrees stand in one place where they are the same pair
module _ (k l a b : ℕ) (hk : k < most_classes) (hl : l < most_classes) (ha : a < most_classes) (hb : b < most_classes) where
  pub same_place : place k l ≡ place a b → same_pair k l a b ≡ true
  same_place e = go (ℕ_discrete k a)
    where
      go : Dec (k ≡ a) → same_pair k l a b ≡ true
      go (yes p) = same_pair-straight k l a b p (omega arith)
      go (no p) = same_pair-crossed k l a b (omega arith) (omega arith)

  pub other_place : place k l ≢ place a b → same_pair k l a b ≡ false
  other_place h = same_pair-none k l a b (λ p q. h (omega arith)) (λ p q. h (omega arith))

  pub place-below : place k l < cells_size
  place-below = omega arith

pub add-here : (c : List ℕ) (p q n : ℕ) → q < length c → p ≡ q → get_or (set c q (get_or c q 0 + n)) p 0 ≡ get_or c p 0 + n
add-here c p q n l e = rw (e, get_or-set_same c q (get_or c q 0 + n) 0 l)

pub add_apart : (c : List ℕ) (p q n : ℕ) → p ≢ q → get_or (set c q (get_or c q 0 + n)) p 0 ≡ get_or c p 0 + 0
add_apart c p q n h = get_or-set_other c q p (get_or c q 0 + n) 0 h ∙ sym (add-zero (get_or c p 0))

-- what a good record adds to the array
module _ (b : List ℕ) (i : ℕ) (c : List ℕ) (size : length c ≡ cells_size) (g : Good b i) (k l : ℕ) where
  add_record-inside : k < most_classes → l < most_classes → matrix_of (add_record b i c) k l ≡ matrix_of c k l + amount b i k l
  add_record-inside hk hl = rw (lt-ltb k most_classes hk, lt-ltb l most_classes hl) (go (ℕ_discrete (place k l) (place x y)))
    where
      x : ℕ
      x = record_k b i

      y : ℕ
      y = record_l b i

      go : Dec (place k l ≡ place x y) → get_or (add_record b i c) (place k l) 0 ≡ get_or c (place k l) 0 + amount b i k l
      go (yes e) =
          rw (same_place k l x y hk hl (omega arith) (omega arith) e)
          (add-here c (place k l) (place x y) (record_count b i) (omega arith) e)
      go (no e) =
          rw (other_place k l x y hk hl (omega arith) (omega arith) e)
          (add_apart c (place k l) (place x y) (record_count b i) e)

  add_record-outside : most_classes ≤ k → matrix_of (add_record b i c) k l ≡ matrix_of c k l + amount b i k l
  add_record-outside h = rw (le-ltb k most_classes h, amount-none_above b i k l g (omega arith))

  add_record-beside : most_classes ≤ l → matrix_of (add_record b i c) k l ≡ matrix_of c k l + amount b i k l
  add_record-beside h =
      rw (le-ltb l most_classes h, and-false (ltb k most_classes), amount-sym b i k l, amount-none_above b i l k g (omega arith))

  matrix-add_record : matrix_of (add_record b i c) k l ≡ matrix_of c k l + amount b i k l
  matrix-add_record = go (dec_lt k most_classes) (dec_lt l most_classes)
    where
      go : Dec (k < most_classes) → Dec (l < most_classes) → matrix_of (add_record b i c) k l ≡ matrix_of c k l + amount b i k l
      go (yes hk) (yes hl) = add_record-inside hk hl
      go (yes hk) (no hl) = add_record-beside (omega arith)
      go (no hk) (yes hl) = add_record-outside (omega arith)
      go (no hk) (no hl) = add_record-outside (omega arith)

-- what a block adds to the array at the place of (k, l)
abbrev pub block_amount : List ℕ → ℕ → ℕ → ℕ
block_amount b k l = sum_to (records b) (λ i. amount b i k l)

-- the array after a block whose records are all good
pub matrix_add_block : (b c : List ℕ) → length c ≡ cells_size → first_bad b ≡ records b →
    (k l : ℕ) → matrix_of (add_block b c) k l ≡ matrix_of c k l + block_amount b k l
matrix_add_block b c size good k l =
    (fold_to-keeps After (add_record b) c (records b) (size, rw sum_to-none (sym (add-zero (matrix_of c k l)))) step).1
  where
    After : ℕ → List ℕ → Type 0
    After i x = (length x ≡ cells_size) × (matrix_of x k l ≡ matrix_of c k l + sum_to i (λ j. amount b j k l))

    step : (i : ℕ) (x : List ℕ) → i < records b → After i x → After (i + 1) (add_record b i x)
    step i x h a = (
      length-add_record b i x ∙ a.0,
      matrix-add_record b i x a.0 (good-record b i (all-good b good i h)) k l ∙ rw (a.1, sum_to-more) (add_assoc _ _ _),
    )

-- in a cell it is what the block adds to the matrix, and at (0, 0) its isolated vertices
pub block_amount-cell : (b : List ℕ) (k l : ℕ) → (k ≡ 0 → l ≡ 0 → ⊥) → block_amount b k l ≡ block_cell b k l
block_amount-cell b k l h =
    sum_to-cong (records b) (λ i. amount b i k l) (λ i. record_cell b i k l) (λ i m. amount-cell b i k l h)

pub block_amount-isolated : (b : List ℕ) → block_amount b 0 0 ≡ block_isolated b
block_amount-isolated b = sum_to-cong (records b) (λ i. amount b i 0 0) (record_isolated b) (λ i m. amount-isolated b i)

-- the array without its isolated vertices: 0 there, and the same in every cell
module _ (c : List ℕ) (size : length c ≡ cells_size) where
  pub taken_out : matrix_of (set c isolated_place 0) 0 0 ≡ 0
  taken_out = get_or-set_same c isolated_place 0 0 (omega arith)

  pub taken-cell : (k l : ℕ) → (k ≡ 0 → l ≡ 0 → ⊥) → matrix_of (set c isolated_place 0) k l ≡ matrix_of c k l
  taken-cell k l h = rw (get_or-set_other c isolated_place (place k l) 0 0 (λ e. h (omega arith) (omega arith)))

pub at_most_taken : (m : ℕ) (c : List ℕ) → AtMost m c → AtMost m (set c isolated_place 0)
at_most_taken m c h = at_most_set m 0 c isolated_place h (omega arith)
