-- The bytes of a log into which a count and a record are written, and a record written and taken out again.
-- Assumes nothing.
use mathlib.Core.Path.{◌≡◌, sym, ap, ◌∙◌}
use mathlib.Core.List.{List, [], ◌∷◌}
use Prim.Native.Nat.{ℕ, ◌+◌, ◌-◌, ◌/◌, ◌%◌, ◌≤◌, ◌<◌}
use native.Mathlib.Nat.{add-zero}
use native.Mathlib.Decide.{dec_lt}
use native.Mathlib.Omega.{arith}
use lib.ListN.{length, get_or, set, length-set}
use lib.Seq.{length-sets, get_or-set_same, get_or-set_other, ext_get_or}
use Rattle.slices.proofs.Zero.{get_or-zeros}
use Rattle.slices.proofs.Part.{get_or-sets_before, get_or-sets_after, get_or-sets_in}
use Rattle.swapping.specs.declared.Swap.{Swap}
use Rattle.swapping.specs.Swap.{swap_of}
use Rattle.swap_log.specs.Log.{most_swaps, swap_size, log_size, swap_count, swap_place, swap_at, written, logged, unlogged}

-- a record's bytes, and the log with its count written
abbrev bytes_of : Swap → List ℕ
bytes_of x = x.a ∷ x.b ∷ x.c ∷ x.d ∷ []

abbrev counted : List ℕ → ℕ → List ℕ
counted l m = set (set l 0 (m % 256)) 1 (m / 256)

-- four bytes make a record
pub same_swap : (l l' : List ℕ) (i j : ℕ) → ((q : ℕ) → q < swap_size → get_or l (swap_place i + q) 0 ≡ get_or l' (swap_place j + q) 0) → swap_at l i ≡ swap_at l' j
same_swap l l' i j h =
    rw (
      rw (add-zero (swap_place i), add-zero (swap_place j)) at (h 0 (omega arith)),
      h 1 (omega arith),
      h 2 (omega arith),
      h 3 (omega arith),
    )

module _ (l : List ℕ) (long : length l ≡ log_size) (m i : ℕ) (x : Swap) (few : i < most_swaps) where
  counted-length : length (counted l m) ≡ log_size
  counted-length = length-set (set l 0 (m % 256)) 1 (m / 256) ∙ length-set l 0 (m % 256) ∙ long

  pub written-length : length (written l m i x) ≡ log_size
  written-length = length-sets (counted l m) (swap_place i) (bytes_of x) ∙ counted-length

  pub written_low : get_or (written l m i x) 0 0 ≡ m % 256
  written_low =
      get_or-sets_before (counted l m) (swap_place i) (bytes_of x) 0 (omega arith)
      ∙ get_or-set_other (set l 0 (m % 256)) 1 0 (m / 256) 0 (λ e. absurd (omega (arith, e)))
      ∙ get_or-set_same l 0 (m % 256) 0 (omega (arith, long))

  pub written-high : get_or (written l m i x) 1 0 ≡ m / 256
  written-high =
      get_or-sets_before (counted l m) (swap_place i) (bytes_of x) 1 (omega arith)
      ∙ get_or-set_same (set l 0 (m % 256)) 1 (m / 256) 0 (rw (length-set l 0 (m % 256), long) (omega arith))

  pub written_count : swap_count (written l m i x) ≡ m
  written_count = omega (arith, written_low, written-high)

  -- the bytes of the other records
  untouched : (p : ℕ) → 2 ≤ p → get_or (counted l m) p 0 ≡ get_or l p 0
  untouched p h =
      get_or-set_other (set l 0 (m % 256)) 1 p (m / 256) 0 (λ e. absurd (omega (arith, e, h)))
      ∙ get_or-set_other l 0 p (m % 256) 0 (λ e. absurd (omega (arith, e, h)))

  pub written-before : (p : ℕ) → 2 ≤ p → p < swap_place i → get_or (written l m i x) p 0 ≡ get_or l p 0
  written-before p h k = get_or-sets_before (counted l m) (swap_place i) (bytes_of x) p k ∙ untouched p h

  pub written_behind : (p : ℕ) → swap_place i + swap_size ≤ p → get_or (written l m i x) p 0 ≡ get_or l p 0
  written_behind p h = get_or-sets_after (counted l m) (swap_place i) (bytes_of x) p h ∙ untouched p (omega (arith, h))

  pub written_in : (q : ℕ) → q < swap_size → get_or (written l m i x) (swap_place i + q) 0 ≡ get_or (bytes_of x) q 0
  written_in q h = get_or-sets_in (counted l m) (swap_place i) (bytes_of x) q (omega (arith, counted-length)) h

  pub written-swap : swap_at (written l m i x) i ≡ x
  written-swap =
      rw (
        rw add-zero at (written_in 0 (omega arith)),
        written_in 1 (omega arith),
        written_in 2 (omega arith),
        written_in 3 (omega arith),
      )

  pub written-earlier : (j : ℕ) → j < i → swap_at (written l m i x) j ≡ swap_at l j
  written-earlier j h = same_swap (written l m i x) l j j (λ q k. written-before (swap_place j + q) (omega arith) (omega arith))

-- zero behind the records
abbrev pub ZeroBehind : List ℕ → Type 0
ZeroBehind l = (p : ℕ) → swap_place (swap_count l) ≤ p → get_or l p 0 ≡ 0

-- one record more, and taken out again
module _ (l : List ℕ) (long : length l ≡ log_size) (x : Swap) (few : swap_count l < most_swaps) where
  pub logged-zero : ZeroBehind l → ZeroBehind (logged l x)
  logged-zero zero p h =
      let c = written_count l long (swap_count l + 1) (swap_count l) x few in
      written_behind l long (swap_count l + 1) (swap_count l) x few p (omega (arith, c, h)) ∙ zero p (omega (arith, c, h))

  abbrev once : List ℕ
  once = logged l x

  abbrev none : Swap
  none = swap_of 0 0 0 0

  once-long : length once ≡ log_size
  once-long = written-length l long (swap_count l + 1) (swap_count l) x few

  same_count : swap_count once - 1 ≡ swap_count l
  same_count = omega (arith, written_count l long (swap_count l + 1) (swap_count l) x few)

  abbrev twice : List ℕ
  twice = written once (swap_count l) (swap_count l) none

  twice-at : get_or l 0 0 < 256 → ZeroBehind l → (p : ℕ) → get_or twice p 0 ≡ get_or l p 0
  twice-at low zero p = go (dec_lt p 1) (dec_lt p 2) (dec_lt p (swap_place (swap_count l))) (dec_lt p (swap_place (swap_count l) + swap_size))
    where
      go : Dec (p < 1) → Dec (p < 2) → Dec (p < swap_place (swap_count l)) → Dec (p < swap_place (swap_count l) + swap_size) → get_or twice p 0 ≡ get_or l p 0
      go (yes a) b c d = let z : p ≡ 0 = omega arith in rw z (written_low once once-long (swap_count l) (swap_count l) none few ∙ omega (arith, low))
      go (no a) (yes b) c d = let z : p ≡ 1 = omega arith in rw z (written-high once once-long (swap_count l) (swap_count l) none few ∙ omega (arith, low))
      go (no a) (no b) (yes c) d =
          written-before once once-long (swap_count l) (swap_count l) none few p (omega arith) c
          ∙ written-before l long (swap_count l + 1) (swap_count l) x few p (omega arith) c
      go (no a) (no b) (no c) (yes d) =
          let e : swap_place (swap_count l) + (p - swap_place (swap_count l)) ≡ p = omega arith in
          ap (λ (k : ℕ). get_or twice k 0) (sym e)
          ∙ written_in once once-long (swap_count l) (swap_count l) none few (p - swap_place (swap_count l)) (omega arith)
          ∙ get_or-zeros swap_size (p - swap_place (swap_count l))
          ∙ sym (zero p (omega arith))
      go (no a) (no b) (no c) (no d) =
          written_behind once once-long (swap_count l) (swap_count l) none few p (omega arith)
          ∙ written_behind l long (swap_count l + 1) (swap_count l) x few p (omega arith)

  pub taken_back : get_or l 0 0 < 256 → ZeroBehind l → unlogged once ≡ l
  taken_back low zero =
      ap (λ (m : ℕ). written once m m none) same_count
      ∙ ext_get_or 0 twice l (written-length once once-long (swap_count l) (swap_count l) none few ∙ sym long) (λ p h. twice-at low zero p)

-- the last record out
module _ (l : List ℕ) (long : length l ≡ log_size) (some : 0 < swap_count l) (few : swap_count l ≤ most_swaps) where
  abbrev m : ℕ
  m = swap_count l - 1

  pub unlogged-count : swap_count (unlogged l) ≡ m
  unlogged-count = written_count l long m m (swap_of 0 0 0 0) (omega arith)

  pub unlogged-zero : ZeroBehind l → ZeroBehind (unlogged l)
  unlogged-zero zero p h = go (dec_lt p (swap_place m + swap_size))
    where
      go : Dec (p < swap_place m + swap_size) → get_or (unlogged l) p 0 ≡ 0
      go (yes d) =
          let e : swap_place m + (p - swap_place m) ≡ p = omega (arith, unlogged-count, h) in
          ap (λ (k : ℕ). get_or (unlogged l) k 0) (sym e)
          ∙ written_in l long m m (swap_of 0 0 0 0) (omega arith) (p - swap_place m) (omega (arith, unlogged-count, h))
          ∙ get_or-zeros swap_size (p - swap_place m)
      go (no d) = written_behind l long m m (swap_of 0 0 0 0) (omega arith) p (omega arith) ∙ zero p (omega arith)
