-- A list of edges as bytes, read two at a time: sums over its edges, and when they rise, for lists one behind another.
-- Assumes nothing.
use mathlib.Core.Path.{◌≡◌, refl, sym, ap, ap₂, ◌∙◌}
use mathlib.Core.Bool.{Bool, true, false, cond}
use mathlib.Core.List.{List, [], ◌∷◌, ◌++◌}
use Prim.Native.Nat.{ℕ, zero, suc, ◌+◌, ◌-◌, ◌*◌, ◌≤◌, ◌<◌}
use native.Mathlib.Nat.{zero-add, zero-mul, one-mul}
use native.Mathlib.Numerals.{add-one}
use native.Mathlib.Decide.{dec_lt}
use native.Mathlib.Omega.{arith}
use lib.ListN.{length, length-append, get_or-append}
use lib.Seq.{get_or-append-add}
use Rattle.finite.specs.Range.{bit, sum_to, cat_to}
use Rattle.finite.proofs.Sum.{sum_to-cong, sum_to-split}
use Rattle.layout.specs.Layout.{most_vertices}
use Rattle.edge_lists.specs.EdgeList.{end_v, end_w}

-- a sum over the first m edges
abbrev pub over : ℕ → (ℕ → ℕ → ℕ) → List ℕ → ℕ
over m f e = sum_to m (λ i. f (end_v e i) (end_w e i))

-- the place of v – w in the order by v and then w
abbrev pub place : ℕ → ℕ → ℕ
place v w = v * most_vertices + w

-- The first m edges go from a lower to a higher vertex below n and rise from place a to below place b.
pub record Rising (n a b m : ℕ) (e : List ℕ) : Type 0 where
  pub ordered : (i : ℕ) → i < m → end_v e i < end_w e i
  pub vertex : (i : ℕ) → i < m → end_w e i < n
  pub from : (i : ℕ) → i < m → a ≤ place (end_v e i) (end_w e i)
  pub to : (i : ℕ) → i < m → place (end_v e i) (end_w e i) < b
  pub above : (i : ℕ) → i + 1 < m → place (end_v e i) (end_w e i) < place (end_v e (i + 1)) (end_w e (i + 1))

rising_none : (n a b : ℕ) (e : List ℕ) → Rising n a b 0 e
rising_none n a b e =
    record {
      ordered = λ i l. absurd (omega arith);
      vertex = λ i l. absurd (omega arith);
      from = λ i l. absurd (omega arith);
      to = λ i l. absurd (omega arith);
      above = λ i l. absurd (omega arith);
    }

-- one list behind another
module _ (x y : List ℕ) (m : ℕ) (h : length x ≡ 2 * m) where
  end_v-left : (i : ℕ) → i < m → end_v (x ++ y) i ≡ end_v x i
  end_v-left i l = get_or-append x y 0 (2 * i) (omega arith)

  end_w-left : (i : ℕ) → i < m → end_w (x ++ y) i ≡ end_w x i
  end_w-left i l = get_or-append x y 0 (2 * i + 1) (omega arith)

  end_v-right : (i j : ℕ) → i ≡ m + j → end_v (x ++ y) i ≡ end_v y j
  end_v-right i j s = let e : 2 * i ≡ length x + 2 * j = omega arith in rw e (get_or-append-add x y (2 * j) 0)

  end_w-right : (i j : ℕ) → i ≡ m + j → end_w (x ++ y) i ≡ end_w y j
  end_w-right i j s = let e : 2 * i + 1 ≡ length x + (2 * j + 1) = omega arith in rw e (get_or-append-add x y (2 * j + 1) 0)

  pub over-append : (f : ℕ → ℕ → ℕ) (k : ℕ) → over (m + k) f (x ++ y) ≡ over m f x + over k f y
  over-append f k =
      sum_to-split m k (λ i. f (end_v (x ++ y) i) (end_w (x ++ y) i))
      ∙ ap₂ ◌+◌ (sum_to-cong m (λ i. f (end_v (x ++ y) i) (end_w (x ++ y) i)) (λ i. f (end_v x i) (end_w x i))
      (λ i l. ap₂ f (end_v-left i l) (end_w-left i l)))
      (sum_to-cong k (λ i. f (end_v (x ++ y) (m + i)) (end_w (x ++ y) (m + i))) (λ i. f (end_v y i) (end_w y i))
      (λ i l. ap₂ f (end_v-right (m + i) i refl) (end_w-right (m + i) i refl)))

  rising-append : (n a b c k : ℕ) → a ≤ b → b ≤ c → Rising n a b m x → Rising n b c k y → Rising n a c (m + k) (x ++ y)
  rising-append n a b c k ab bc r s =
      record {
        ordered = λ i l. go i l (λ v w. v < w) (λ j q. r.ordered j q) (λ j q. s.ordered j q);
        vertex = λ i l. go i l (λ v w. w < n) (λ j q. r.vertex j q) (λ j q. s.vertex j q);
        from = λ i l. go i l (λ v w. a ≤ place v w) (λ j q. r.from j q) (λ j q. omega (arith, s.from j q));
        to = λ i l. go i l (λ v w. place v w < c) (λ j q. omega (arith, r.to j q)) (λ j q. s.to j q);
        above = λ i l. next i l (dec_lt (i + 1) m) (dec_lt i m);
      }
    where
      go : (i : ℕ) → i < m + k → (P : ℕ → ℕ → Type 0) → ((j : ℕ) → j < m → P (end_v x j) (end_w x j)) → ((j : ℕ) → j < k → P (end_v y j) (end_w y j))
          → P (end_v (x ++ y) i) (end_w (x ++ y) i)
      go i l P p q = pick (dec_lt i m)
        where
          pick : Dec (i < m) → P (end_v (x ++ y) i) (end_w (x ++ y) i)
          pick (yes t) = rw (end_v-left i t, end_w-left i t) (p i t)
          pick (no t) =
              let e : i ≡ m + (i - m) = omega arith in
              rw (end_v-right i (i - m) e, end_w-right i (i - m) e) (q (i - m) (omega arith))

      next : (i : ℕ) → i + 1 < m + k → Dec (i + 1 < m) → Dec (i < m)
          → place (end_v (x ++ y) i) (end_w (x ++ y) i) < place (end_v (x ++ y) (i + 1)) (end_w (x ++ y) (i + 1))
      next i l (yes t) d =
          rw (end_v-left i (omega arith), end_w-left i (omega arith), end_v-left (i + 1) t, end_w-left (i + 1) t) (r.above i t)
      next i l (no t) (yes d) =
          let e : i + 1 ≡ m + 0 = omega arith in
          rw (end_v-left i d, end_w-left i d, end_v-right (i + 1) 0 e, end_w-right (i + 1) 0 e) (omega (arith, r.to i d, s.from 0 (omega arith)))
      next i l (no t) (no d) =
          let e : i ≡ m + (i - m) = omega arith in
          let f : i + 1 ≡ m + (i - m + 1) = omega arith in
          rw (end_v-right i (i - m) e, end_w-right i (i - m) e, end_v-right (i + 1) (i - m + 1) f, end_w-right (i + 1) (i - m + 1) f)
          (s.above (i - m) (omega arith))

-- many lists, list i of L i edges
module _ (F : ℕ → List ℕ) (L : ℕ → ℕ) (sized : (i : ℕ) → length (F i) ≡ 2 * L i) where
  pub cat_sized : (n : ℕ) → length (cat_to n F) ≡ 2 * sum_to n L
  unfolding cat_to sum_to
  cat_sized zero = refl
  cat_sized (suc n) = rw length-append (omega (arith, cat_sized n, sized n))

  pub over-cat : (f : ℕ → ℕ → ℕ) (n : ℕ) → over (sum_to n L) f (cat_to n F) ≡ sum_to n (λ i. over (L i) f (F i))
  unfolding cat_to sum_to
  over-cat f zero = refl
  over-cat f (suc n) = over-append (cat_to n F) (F n) (sum_to n L) (cat_sized n) f (L n) ∙ ap (λ (s : ℕ). s + over (L n) f (F n)) (over-cat f n)

  pub rising_cat : (k : ℕ) (K : ℕ → ℕ) (n : ℕ) → ((i : ℕ) → i < n → (K i ≤ K (i + 1)) × Rising k (K i) (K (i + 1)) (L i) (F i))
      → (K 0 ≤ K n) × Rising k (K 0) (K n) (sum_to n L) (cat_to n F)
  unfolding cat_to sum_to
  rising_cat k K zero r = (omega arith, rising_none k (K 0) (K 0) [])
  rising_cat k K (suc n) r = go (rising_cat k K n (λ i l. r i (omega arith))) (rw add-one at (r n (omega arith)))
    where
      go : (K 0 ≤ K n) × Rising k (K 0) (K n) (sum_to n L) (cat_to n F) → (K n ≤ K (suc n)) × Rising k (K n) (K (suc n)) (L n) (F n)
          → (K 0 ≤ K (suc n)) × Rising k (K 0) (K (suc n)) (sum_to n L + L n) (cat_to n F ++ F n)
      go (p, q) (s, t) = (omega arith, rising-append (cat_to n F) (F n) (sum_to n L) (cat_sized n) k (K 0) (K n) (K (suc n)) (L n) p s q t)

-- one edge, if it is there
pub one_sized : (t : Bool) (x y : ℕ) → length (cond t (x ∷ y ∷ []) []) ≡ 2 * bit t
one_sized true x y = refl
one_sized false x y = refl

pub one_over : (f : ℕ → ℕ → ℕ) (t : Bool) (x y : ℕ) → over (bit t) f (cond t (x ∷ y ∷ []) []) ≡ bit t * f x y
unfolding sum_to
one_over f true x y = zero-add (f x y) ∙ sym (one-mul (f x y))
one_over f false x y = sym (zero-mul (f x y))

pub one_rising : (n : ℕ) (t : Bool) (x y : ℕ) → (t ≡ true → x < y) → y < n → Rising n (place x y) (place x y + 1) (bit t) (cond t (x ∷ y ∷ []) [])
one_rising n true x y h l =
    record {
      ordered = λ i q. rw (only i q) (h refl);
      vertex = λ i q. rw (only i q) l;
      from = λ i q. rw (only i q) (omega arith);
      to = λ i q. rw (only i q) (omega arith);
      above = λ i q. absurd (omega arith);
    }
  where
    only : (i : ℕ) → i < 1 → i ≡ 0
    only i q = omega arith
one_rising n false x y h l = rising_none n (place x y) (place x y + 1) []
