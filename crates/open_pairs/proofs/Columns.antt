-- The free columns of a row: counted from one column to another, and by the bytes of a part of the matrix and of the flags.
-- Assumes nothing.
use mathlib.Core.Path.{◌≡◌, refl, ap, ◌∙◌}
use mathlib.Core.Bool.{Bool, ◌&&◌}
use mathlib.Core.List.{List}
use Prim.Native.Nat.{ℕ, ◌+◌, ◌-◌, ◌*◌, ◌≤◌, ◌<◌, max}
use native.Mathlib.Nat.{add_assoc}
use native.Mathlib.Decide.{ℕ_discrete}
use native.Mathlib.Omega.{arith}
use lib.Dec.{eqb}
use lib.ListN.{length, get_or, take, drop}
use borrow.Author.Tests.{eq-eqb, ne_eqb}
use Rattle.finite.specs.Range.{bit, sum_to}
use Rattle.finite.proofs.Delta.{bit_le}
use Rattle.finite.proofs.Sum.{sum_to-none, sum_to-more, sum_to-cong, sum_to-mono, sum_to-const, sum_to-split}
use Rattle.graph.specs.Tests.{most_classes}
use Rattle.adjacency.specs.Adjacency.{side, edge}
use Rattle.slices.proofs.PartSum.{part_length, part_at}
use Rattle.open_pairs.specs.Inner.Rows.{is_free, free_to, Scannable}

-- of two bytes that are 0 or 1 one is 1, or both are 0
pub taken-or_free : (x y : ℕ) → x ≤ 1 → y ≤ 1 → max x y + bit (eqb x 0 && eqb y 0) ≡ 1
taken-or_free x y p q = go (ℕ_discrete x 0) (ℕ_discrete y 0)
  where
    go : Dec (x ≡ 0) → Dec (y ≡ 0) → max x y + bit (eqb x 0 && eqb y 0) ≡ 1
    go (yes e) (yes f) = rw (eq-eqb x 0 e, eq-eqb y 0 f) (omega arith)
    go (yes e) (no f) = rw (eq-eqb x 0 e, ne_eqb y 0 f) (omega arith)
    go (no e) f = rw (ne_eqb x 0 e) (omega arith)

module _ (g full : List ℕ) (k v : ℕ) where
  -- none before the first column of the row
  pub free_none : free_to g full k v (v + 1) ≡ 0
  free_none = let e : v + 1 - (v + 1) ≡ 0 = omega arith in rw (e, sum_to-none)

  -- up to a later column there are those before the earlier one, and those between the two
  pub free_further : (from to : ℕ) → v < from → from ≤ to
      → free_to g full k v to ≡ free_to g full k v from + sum_to (to - from) (λ i. bit (is_free g full k v (from + i)))
  free_further from to h l =
      let d = from - (v + 1) in
      let f : ℕ → ℕ = λ i. bit (is_free g full k v (v + 1 + i)) in
      let e : to - (v + 1) ≡ d + (to - from) = omega arith in
      ap (λ (m : ℕ). sum_to m f) e
      ∙ sum_to-split d (to - from) f
      ∙ ap (λ (m : ℕ). sum_to d f + m) (sum_to-cong (to - from) (λ i. f (d + i)) (λ i. bit (is_free g full k v (from + i)))
      (λ i j. ap (λ (w : ℕ). bit (is_free g full k v w)) (omega arith)))

  -- one column more, which is free or not
  pub free_next : (w : ℕ) → v < w → (t : Bool) → t ≡ is_free g full k v w → free_to g full k v (w + 1) ≡ free_to g full k v w + bit t
  free_next w h t is =
      let e : w + 1 - (v + 1) ≡ w - (v + 1) + 1 = omega arith in
      let f : v + 1 + (w - (v + 1)) ≡ w = omega arith in
      rw (e, sum_to-more, f, is)

  -- no more than there are columns
  pub free_most : (w : ℕ) → free_to g full k v w ≤ w
  free_most w =
      let f : ℕ → ℕ = λ i. bit (is_free g full k v (v + 1 + i)) in
      let n = w - (v + 1) in
      omega (arith, sum_to-mono n f (λ i. 1) (λ i l. bit_le (is_free g full k v (v + 1 + i))), sum_to-const 1 n)

  -- the bytes of the columns from, .., from + n - 1: those of row v, and the flags of class k
  module _ {m : ℕ} (s : Scannable m g full) (kd : k < most_classes) (vm : v < m) (from n : ℕ) (h : from + n ≤ m) where
    abbrev bytes : List ℕ
    bytes = take n (drop (v * side + from) g)

    abbrev flags : List ℕ
    flags = take n (drop (k * side + from) full)

    inside : v * side + from + n ≤ length g
    inside = omega (arith, s.sized, s.few)

    flags-inside : k * side + from + n ≤ length full
    flags-inside = omega (arith, s.flags, s.few)

    byte_at : (i : ℕ) → i < n → get_or bytes i 0 ≡ edge g v (from + i)
    byte_at i l = part_at g (v * side + from) n inside i l ∙ ap (λ (p : ℕ). get_or g p 0) (add_assoc (v * side) from i)

    flag_at : (i : ℕ) → i < n → get_or flags i 0 ≡ get_or full (k * side + (from + i)) 0
    flag_at i l = part_at full (k * side + from) n flags-inside i l ∙ ap (λ (p : ℕ). get_or full p 0) (add_assoc (k * side) from i)

    pub parts_scannable : (length bytes ≡ length flags) × (length bytes ≤ side)
        × ((i : ℕ) → i < length bytes → (get_or bytes i 0 ≤ 1) × (get_or flags i 0 ≤ 1))
    parts_scannable =
        rw (part_length g (v * side + from) n inside, part_length full (k * side + from) n flags-inside) (
          refl,
          omega (arith, s.few),
          λ i l. (rw (byte_at i l) (s.binary v (from + i) vm (omega arith)), rw (flag_at i l) (s.flag (k * side + (from + i)))),
        )

    -- the places where neither has a 1 are the free columns
    parts_free : sum_to (length bytes) (λ i. bit (eqb (get_or bytes i 0) 0 && eqb (get_or flags i 0) 0)) ≡ sum_to n (λ i. bit (is_free g full k v (from + i)))
    parts_free =
        rw (part_length g (v * side + from) n inside)
        (sum_to-cong n (λ i. bit (eqb (get_or bytes i 0) 0 && eqb (get_or flags i 0) 0)) (λ i. bit (is_free g full k v (from + i)))
        (λ i l. rw (byte_at i l, flag_at i l)))

    -- of n columns those are free that are not taken
    pub parts_taken : (r : ℕ) → r + sum_to (length bytes) (λ i. bit (eqb (get_or bytes i 0) 0 && eqb (get_or flags i 0) 0)) ≡ length bytes
        → r + sum_to n (λ i. bit (is_free g full k v (from + i))) ≡ n
    parts_taken r e = omega (arith, part_length g (v * side + from) n inside, parts_free)
