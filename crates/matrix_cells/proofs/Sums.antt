-- Laws of sums kept in arrays.
-- Assumes nothing.
use mathlib.Core.Path.{◌≡◌, refl, sym, ap, ap₂, ◌∙◌}
use mathlib.Core.Bool.{true, ◌||◌, or-true}
use mathlib.Core.List.{List}
use mathlib.Core.Logic.{◌≢◌}
use Prim.Native.Nat.{ℕ, ◌+◌, ◌-◌, ◌*◌, ◌≤◌, ◌<◌}
use native.Mathlib.Nat.{add-zero, zero-mul, one-mul, mul-zero, mul_assoc}
use native.Mathlib.Decide.{ℕ_discrete, dec_lt}
use native.Mathlib.Omega.{arith}
use lib.ListN.{length, take, drop, get_or, set}
use lib.Seq.{get_or-take, get_or-drop, get_or-set_same, get_or-set_other}
use lib.Dec.{leb, ltb, leb-zero}
use borrow.Rule.Slice.PartMut.{put_mid}
use Rattle.std.proofs.Common.{rules}
use Rattle.std.proofs.lemmas.List.{places}
use Rattle.finite.specs.Range.{δ, sum_to, all_to}
use Rattle.finite.proofs.All.{all_to-cong, all_to-holds}
use Rattle.finite.proofs.Delta.{δ-same, δ-other, δ-times_le}
use Rattle.finite.proofs.Sum.{sum_to-none, sum_to-more, sum_to-zero, sum_to-cong, sum_to-scale, sum_to-at, sum_to-mono, sum_to-const}
use Rattle.matrix_cells.specs.Inner.Sums.{Added, class_edges}
use Rattle.adjacency.specs.Adjacency.{side}
use Rattle.graph.specs.Graph.{Graph, jdm}
use Rattle.graph.specs.Tests.{most_classes}
use Rattle.graph.proofs.Matrix.{jdm-swap, jdm-none}

-- x more at place p
pub more_at : (s : List ℕ) (p x : ℕ) → p < length s → (q : ℕ) → get_or (set s p (get_or s p 0 + x)) q 0 ≡ get_or s q 0 + δ p q * x
more_at s p x h q = go (ℕ_discrete p q)
  where
    go : Dec (p ≡ q) → get_or (set s p (get_or s p 0 + x)) q 0 ≡ get_or s q 0 + δ p q * x
    go (yes e) = rw (← e, δ-same p p refl, one-mul x) (get_or-set_same s p (get_or s p 0 + x) 0 h)
    go (no e) = rw (δ-other p q e, zero-mul x, add-zero (get_or s q 0)) (get_or-set_other s p q (get_or s p 0 + x) 0 (λ r. e (sym r)))

pub more_at_most : (s : List ℕ) (p x m : ℕ) → p < length s → ((q : ℕ) → get_or s q 0 ≤ m) → (q : ℕ) → get_or (set s p (get_or s p 0 + x)) q 0 ≤ m + x
more_at_most s p x m h f q = omega (arith, more_at s p x h q, f q, δ-times_le p q x)

-- an element of a part of a list
pub part_at : (s : List ℕ) (at k i : ℕ) → i < k → get_or (take k (drop at s)) i 0 ≡ get_or s (at + i) 0
part_at s at k i h = get_or-take k (drop at s) i 0 h ∙ get_or-drop at s i 0

-- numbers added to a part of a list, n places from `at` on, where t is the part afterwards
module _ (s t : List ℕ) (at k n : ℕ) (x : ℕ → ℕ) (whole : k ≡ n) (room : at + n ≤ length s) (long : length t ≡ n) where
  part_before : (p : ℕ) → p < at → get_or (put_mid at k s t) p 0 ≡ get_or s p 0
  part_before p h = search (rules, places)

  part_in : (i : ℕ) → i < n → get_or (put_mid at k s t) (at + i) 0 ≡ get_or t i 0
  part_in i h = search (rules, places)

  part_behind : (p : ℕ) → at + n ≤ p → get_or (put_mid at k s t) p 0 ≡ get_or s p 0
  part_behind p h = search (rules, places)

  none_at : (p : ℕ) → ((i : ℕ) → i < n → at + i ≢ p) → sum_to n (λ i. δ (at + i) p * x i) ≡ 0
  none_at p h = sum_to-zero n (λ i. δ (at + i) p * x i) (λ i l. rw (δ-other (at + i) p (h i l)) (zero-mul (x i)))

  one_at : (j : ℕ) → j < n → sum_to n (λ i. δ (at + i) (at + j) * x i) ≡ x j
  one_at j l =
      sum_to-cong n (λ i. δ (at + i) (at + j) * x i) (λ i. δ i j * x i) (λ i m. ap (λ (d : ℕ). d * x i) (same i (ℕ_discrete i j)))
      ∙ sum_to-at n j x l
    where
      same : (i : ℕ) → Dec (i ≡ j) → δ (at + i) (at + j) ≡ δ i j
      same i (yes e) = rw (δ-same (at + i) (at + j) (omega arith), δ-same i j e)
      same i (no d) = rw (δ-other (at + i) (at + j) (λ e. d (omega arith)), δ-other i j d)

  pub added_part : ((i : ℕ) → i < n → get_or t i 0 ≡ get_or s (at + i) 0 + x i) → Added n (λ i. at + i) x s (put_mid at k s t)
  added_part h = record { long = search (rules, places); sums = λ p. sums p (dec_lt p at) (dec_lt p (at + n)) }
    where
      sums : (p : ℕ) → Dec (p < at) → Dec (p < at + n) → get_or (put_mid at k s t) p 0 ≡ get_or s p 0 + sum_to n (λ i. δ (at + i) p * x i)
      sums p (yes l) d = rw (none_at p (λ i m e. omega arith), add-zero) (part_before p l)
      sums p (no a) (yes l) =
          let e : p ≡ at + (p - at) = omega arith in
          rw (e) (part_in (p - at) (omega arith) ∙ h (p - at) (omega arith) ∙ ap (λ (y : ℕ). get_or s (at + (p - at)) 0 + y) (sym (one_at (p - at) (omega arith))))
      sums p (no a) (no b) = rw (none_at p (λ i m e. omega arith), add-zero) (part_behind p (omega arith))

-- the place of row a and column i of a matrix with 200 columns
δ-place : (a i k w : ℕ) → i < side → w < side → δ (a * side + i) (k * side + w) ≡ δ a k * δ i w
δ-place a i k w h m = go (ℕ_discrete a k) (ℕ_discrete i w)
  where
    go : Dec (a ≡ k) → Dec (i ≡ w) → δ (a * side + i) (k * side + w) ≡ δ a k * δ i w
    go (yes p) (yes q) = rw (δ-same (a * side + i) (k * side + w) (omega arith), δ-same a k p, δ-same i w q)
    go (yes p) (no q) = rw (δ-other (a * side + i) (k * side + w) (omega arith), δ-other i w q) (sym (mul-zero (δ a k)))
    go (no p) q = rw (δ-other (a * side + i) (k * side + w) (omega arith), δ-other a k p) (sym (zero-mul (δ i w)))

-- of a row added to row a, place w of row k gets f w where a is k
pub row_at : (n a k w : ℕ) (f : ℕ → ℕ) → n ≤ side → w < n → sum_to n (λ i. δ (a * side + i) (k * side + w) * f i) ≡ δ a k * f w
row_at n a k w f h m =
    sum_to-cong n (λ i. δ (a * side + i) (k * side + w) * f i) (λ i. δ a k * (δ i w * f i))
    (λ i l. rw (δ-place a i k w (omega arith) (omega arith)) (mul_assoc (δ a k) (δ i w) (f i)))
    ∙ sum_to-scale (δ a k) n (λ i. δ i w * f i)
    ∙ ap (λ (x : ℕ). δ a k * x) (sum_to-at n w f m)

module _ (cls : ℕ → ℕ) (E : Graph) (k w : ℕ) where
  pub class_edges-none : class_edges 0 cls E k w ≡ 0
  class_edges-none = sum_to-none (λ v. δ (cls v) k * E v w)

  pub class_edges-more : (m : ℕ) → class_edges (m + 1) cls E k w ≡ class_edges m cls E k w + δ (cls m) k * E m w
  class_edges-more m = sum_to-more (λ v. δ (cls v) k * E v w) m

  pub class_edges-le : (m : ℕ) → ((v : ℕ) → v < m → E v w ≤ 1) → class_edges m cls E k w ≤ m
  class_edges-le m h =
      omega (arith, sum_to-mono m (λ v. δ (cls v) k * E v w) (λ v. 1) (λ v l. omega (arith, δ-times_le (cls v) k (E v w), h v l)), sum_to-const 1 m)

-- row v added to the sums of its class
pub class_edgess_more : (n : ℕ) (cls : ℕ → ℕ) (E : Graph) (s t : List ℕ) (v a : ℕ) → n ≤ side → a ≡ cls v
    → ((k w : ℕ) → w < n → get_or s (k * side + w) 0 ≡ class_edges v cls E k w)
    → Added n (λ i. a * side + i) (E v) s t
    → (k w : ℕ) → w < n → get_or t (k * side + w) 0 ≡ class_edges (v + 1) cls E k w
class_edgess_more n cls E s t v a h e f d k w l =
    d.sums (k * side + w)
    ∙ ap₂ ◌+◌ (f k w l) (row_at n a k w (E v) h l ∙ ap (λ (b : ℕ). δ b k * E v w) e)
    ∙ sym (class_edges-more cls E k w v)

-- the sums of class k, added up over the vertices of class l, are cell (k, l)
pub class_edgess_jdm : (n : ℕ) (cls : ℕ → ℕ) (E : Graph) (f : ℕ → ℕ) (k l : ℕ)
    → ((w : ℕ) → w < n → f w ≡ class_edges n cls E k w) → sum_to n (λ w. δ (cls w) l * f w) ≡ jdm n cls E k l
unfolding jdm
class_edgess_jdm n cls E f k l h =
    sum_to-cong n (λ w. δ (cls w) l * f w) (λ w. δ (cls w) l * class_edges n cls E k w) (λ w m. ap (λ (x : ℕ). δ (cls w) l * x) (h w m))
    ∙ sym (jdm-swap n cls E k l)

-- class k counted so, against the cells (k, l) with l from k on
pub class_edgess_within : (n : ℕ) (cls : ℕ → ℕ) (E : Graph) (f : ℕ → ℕ) (T : ℕ → ℕ → ℕ) (k : ℕ)
    → ((w : ℕ) → w < n → f w ≡ class_edges n cls E k w)
    → all_to most_classes (λ l. ltb l k || leb (sum_to n (λ w. δ (cls w) l * f w)) (T k l)) ≡ all_to most_classes (λ l. ltb l k || leb (jdm n cls E k l) (T k l))
class_edgess_within n cls E f T k h =
    all_to-cong (λ l. ltb l k || leb (sum_to n (λ w. δ (cls w) l * f w)) (T k l)) (λ l. ltb l k || leb (jdm n cls E k l) (T k l)) most_classes
    (λ l m. ap (λ (x : ℕ). ltb l k || leb x (T k l)) (class_edgess_jdm n cls E f k l h))

-- a class that no vertex has is within any table
pub absent_within : (n : ℕ) (cls : ℕ → ℕ) (E : Graph) (T : ℕ → ℕ → ℕ) (k : ℕ) → ((v : ℕ) → v < n → cls v ≢ k)
    → all_to most_classes (λ l. ltb l k || leb (jdm n cls E k l) (T k l)) ≡ true
absent_within n cls E T k h =
    all_to-holds (λ l. ltb l k || leb (jdm n cls E k l) (T k l)) most_classes
    (λ l m. rw (jdm-none n cls E k l h, leb-zero (T k l)) (or-true (ltb l k)))

-- where no vertex below m is of class l, nothing is counted for l
pub class_none : (m l : ℕ) (cls f : ℕ → ℕ) → ((w : ℕ) → w < m → cls w ≢ l) → sum_to m (λ w. δ (cls w) l * f w) ≡ 0
class_none m l cls f h = sum_to-zero m (λ w. δ (cls w) l * f w) (λ w i. rw (δ-other (cls w) l (h w i)) (zero-mul (f w)))
