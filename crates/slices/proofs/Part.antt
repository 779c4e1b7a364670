-- Reading a part of a list, and a list into which another is written.
-- Assumes nothing.
use mathlib.Core.Path.{◌≡◌, refl, sym, ap, ◌∙◌}
use mathlib.Core.List.{List, [], ◌∷◌, ◌++◌}
use Prim.Native.Nat.{ℕ, zero, suc, ◌+◌, ◌-◌, ◌≤◌, ◌<◌, min}
use native.Mathlib.Nat.{add-zero, zero-add}
use native.Mathlib.Decide.{dec_lt}
use native.Mathlib.Omega.{arith}
use lib.ListN.{length, get_or, set, take, drop, length-append, length-take, length-drop, length-set, get_or-eq_default}
use Rattle.slices.specs.Slices.{further}
use lib.Seq.{sets, sets-eq, length-take-le, take_at, drop_at, drop-drop, get_or-take, get_or-drop, get_or-set_same, get_or-set_other, ext_get_or}

-- the n elements from place k on
module _ (n k : ℕ) (l : List ℕ) where
  pub length_part : length (take n (drop k l)) ≡ min n (length l - k)
  length_part = length-take n (drop k l) ∙ ap (min n) (length-drop k l)

  pub get_or-part : (p : ℕ) → p < n → get_or (take n (drop k l)) p 0 ≡ get_or l (k + p) 0
  get_or-part p h = get_or-take n (drop k l) p 0 h ∙ get_or-drop k l p 0

  pub get_or-past_part : (p : ℕ) → n ≤ p → get_or (take n (drop k l)) p 0 ≡ 0
  get_or-past_part p h = get_or-eq_default (take n (drop k l)) 0 (omega (arith, length_part))

  -- its elements are bytes
  pub bytes_part : ((p : ℕ) → get_or l p 0 < 256) → (p : ℕ) → get_or (take n (drop k l)) p 0 < 256
  bytes_part f p = go (dec_lt p n)
    where
      go : Dec (p < n) → get_or (take n (drop k l)) p 0 < 256
      go (yes h) = omega (arith, get_or-part p h, f (k + p))
      go (no h) = omega (arith, get_or-past_part p (omega arith))

-- equal elements make equal parts
pub part-cong : (n k : ℕ) (l m : List ℕ) → length l ≡ length m → ((p : ℕ) → p < n → get_or l (k + p) 0 ≡ get_or m (k + p) 0)
    → take n (drop k l) ≡ take n (drop k m)
part-cong n k l m e f =
    ext_get_or 0 (take n (drop k l)) (take n (drop k m)) (length_part n k l ∙ ap (λ (s : ℕ). min n (s - k)) e ∙ sym (length_part n k m)) at
  where
    at : (p : ℕ) → p < length (take n (drop k l)) → get_or (take n (drop k l)) p 0 ≡ get_or (take n (drop k m)) p 0
    at p h = let q : p < n = omega (arith, length_part n k l) in get_or-part n k l p q ∙ f p q ∙ sym (get_or-part n k m p q)

-- the elements before a place keep what they had when vs is written from that place on
pub get_or-sets_before : (l : List ℕ) (i : ℕ) (vs : List ℕ) (p : ℕ) → p < i → get_or (sets l i vs) p 0 ≡ get_or l p 0
get_or-sets_before l i [] p h = refl
get_or-sets_before l i (v ∷ vs) p h =
    get_or-sets_before (set l i v) (suc i) vs p (omega arith) ∙ get_or-set_other l i p v 0 (omega arith)

pub get_or-sets_after : (l : List ℕ) (i : ℕ) (vs : List ℕ) (p : ℕ) → i + length vs ≤ p → get_or (sets l i vs) p 0 ≡ get_or l p 0
get_or-sets_after l i [] p h = refl
get_or-sets_after l i (v ∷ vs) p h =
    get_or-sets_after (set l i v) (suc i) vs p (omega arith) ∙ get_or-set_other l i p v 0 (omega arith)

-- what is written stands there
pub get_or-sets_in : (l : List ℕ) (i : ℕ) (vs : List ℕ) (q : ℕ) → i + length vs ≤ length l → q < length vs → get_or (sets l i vs) (i + q) 0 ≡ get_or vs q 0
get_or-sets_in l i [] q h m = absurd (omega arith)
get_or-sets_in l i (v ∷ vs) zero h m =
    rw add-zero (get_or-sets_before (set l i v) (suc i) vs i (omega arith) ∙ get_or-set_same l i v 0 (omega arith))
get_or-sets_in l i (v ∷ vs) (suc q) h m =
    let e : i + suc q ≡ suc i + q = omega arith in
    rw e (get_or-sets_in (set l i v) (suc i) vs q (rw (length-set l i v) (omega arith)) (omega arith))

-- a list written from place i on: what is before and in it, and what is behind it
module _ (l : List ℕ) (i : ℕ) (vs : List ℕ) (h : i + length vs ≤ length l) where
  front : length (take i l ++ vs) ≡ i + length vs
  front = length-append (take i l) vs ∙ ap (λ (n : ℕ). n + length vs) (length-take-le i l (omega arith))

  split : sets l i vs ≡ (take i l ++ vs) ++ drop (i + length vs) l
  split = sets-eq vs l i h

  pub take-written : take (i + length vs) (sets l i vs) ≡ take i l ++ vs
  take-written = rw split (take_at (take i l ++ vs) (drop (i + length vs) l) (i + length vs) front)

  pub drop-written : drop (i + length vs) (sets l i vs) ≡ drop (i + length vs) l
  drop-written = rw split (drop_at (take i l ++ vs) (drop (i + length vs) l) (i + length vs) front)

-- and at the start
module _ (l vs : List ℕ) (h : length vs ≤ length l) where
  pub take-sets : take (length vs) (sets l 0 vs) ≡ vs
  take-sets = rw zero-add at (take-written l 0 vs (rw zero-add h))

  pub drop-sets : drop (length vs) (sets l 0 vs) ≡ drop (length vs) l
  drop-sets = rw zero-add at (drop-written l 0 vs (rw zero-add h))

-- what is the same behind a place is so behind a later one
pub drop-later : (a b : ℕ) (l m : List ℕ) → a ≤ b → drop a l ≡ drop a m → drop b l ≡ drop b m
drop-later a b l m h e =
    let s : a + (b - a) ≡ b = omega arith in
    rw s at (sym (drop-drop (b - a) a l) ∙ ap (drop (b - a)) e ∙ drop-drop (b - a) a m)

-- a part that leaves out nothing begins where the slice does
pub further-none : (start : ℕ × ℕ) → further start 0 ≡ start
further-none start = ap (λ (n : ℕ). (start.0, n)) (zero-add start.1)
