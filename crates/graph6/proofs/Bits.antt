-- The bits of a graph and those of a body: what stands where, and that packing and unpacking undo each other.
-- Assumes nothing.
use mathlib.Core.Path.{◌≡◌, refl, sym, ap, ◌∙◌}
use mathlib.Core.Bool.{true}
use mathlib.Core.List.{List, [], ◌∷◌, ◌++◌}
use mathlib.Core.Logic.{⊎_elim}
use Prim.Native.Nat.{ℕ, zero, suc, ◌+◌, ◌-◌, ◌*◌, ◌/◌, ◌%◌, ◌≤◌, ◌<◌}
use native.Mathlib.Nat.{eq-or-lt_of_le, le_of_suc-le-suc, add-zero}
use native.Mathlib.Decide.{dec_lt}
use native.Mathlib.Omega.{arith}
use lib.ListN.{length, get_or, length-append, get_or-append, get_or-eq_default}
use lib.Seq.{get_or-append-add}
use lib.Dec.{eqb}
use borrow.Author.Tests.{eqb-true}
use Rattle.finite.specs.Range.{all_to, cat_to}
use Rattle.finite.proofs.All.{all_to-at}
use Rattle.finite.proofs.Fold.{cat_to-cong}
use Rattle.graph.specs.Graph.{Graph, Simple}
use Rattle.graph6.specs.Format.{offset, most_byte, triangle, six_bits, packed, column_start, bits_of, unpacked}
use Rattle.finite.proofs.Blocks.{singles_length, singles_at, sixes_length, sixes_at}
use Rattle.graph6.proofs.Columns.{columns_none, columns_next, place-before, place_of}

-- the upper triangle
module _ (E : Graph) where
  pub triangle-length : (n : ℕ) → length (triangle n E) ≡ column_start n
  unfolding cat_to
  triangle-length zero = sym columns_none
  triangle-length (suc n) = rw length-append (omega (arith, triangle-length n, singles_length (λ v. E v n) n, columns_next n))

  -- the bit of v – w stands v places behind the start of column w
  pub triangle-at : (n v w : ℕ) → v < w → w < n → get_or (triangle n E) (column_start w + v) 0 ≡ E v w
  unfolding cat_to
  triangle-at zero v w h l = absurd (omega arith)
  triangle-at (suc n) v w h l = ⊎_elim last (λ m. earlier m (triangle-at n v w h m)) (eq-or-lt_of_le (le_of_suc-le-suc l))
    where
      column : List ℕ
      column = cat_to n (λ v. E v n ∷ [])

      earlier : w < n → get_or (triangle n E) (column_start w + v) 0 ≡ E v w → get_or (triangle n E ++ column) (column_start w + v) 0 ≡ E v w
      earlier m before =
          get_or-append (triangle n E) column 0 (column_start w + v) (omega (arith, triangle-length n, place-before v w n h m)) ∙ before

      last : w ≡ n → get_or (triangle n E ++ column) (column_start w + v) 0 ≡ E v w
      last e =
          let s : column_start w + v ≡ length (triangle n E) + v = omega (arith, triangle-length n, ap column_start e) in
          ap (λ (q : ℕ). get_or (triangle n E ++ column) q 0) s
          ∙ get_or-append-add (triangle n E) column v 0
          ∙ singles_at (λ v. E v n) n v (omega arith)
          ∙ ap (E v) (sym e)

  pub triangle-past : (n q : ℕ) → column_start n ≤ q → get_or (triangle n E) q 0 ≡ 0
  triangle-past n q h = get_or-eq_default (triangle n E) 0 (omega (arith, triangle-length n))

  pub triangle-binary : (n : ℕ) → Simple n E → (q : ℕ) → get_or (triangle n E) q 0 ≤ 1
  triangle-binary n s q = go (dec_lt q (column_start n))
    where
      go : Dec (q < column_start n) → get_or (triangle n E) q 0 ≤ 1
      go (yes l) =
          let p = place_of n q l in
          rw (p.4, triangle-at n p.0 p.1 p.2 p.3) (s.binary p.0 p.1 (omega (arith, p.2, p.3)) p.3)
      go (no l) = omega (arith, triangle-past n q (omega arith))

-- graphs with the same edges v – w, v < w, have the same bits
pub triangle-cong : (n : ℕ) (E E' : Graph) → ((v w : ℕ) → v < w → w < n → E v w ≡ E' v w) → triangle n E ≡ triangle n E'
triangle-cong n E E' same =
    cat_to-cong (λ w. cat_to w (λ v. E v w ∷ [])) (λ w. cat_to w (λ v. E' v w ∷ [])) n
    (λ w l. cat_to-cong (λ v. E v w ∷ []) (λ v. E' v w ∷ []) w (λ v h. ap (λ (b : ℕ). b ∷ []) (same v w h l)))

-- bits as bytes
module _ (x : List ℕ) where
  pub packed-length : length (packed x) ≡ (length x + 5) / 6
  packed-length = singles_length (λ p. six_bits x p + offset) ((length x + 5) / 6)

  pub packed-at : (p : ℕ) → p < (length x + 5) / 6 → get_or (packed x) p 0 ≡ six_bits x p + offset
  packed-at p h = singles_at (λ p. six_bits x p + offset) ((length x + 5) / 6) p h

-- bytes as bits
module _ (b : List ℕ) where
  pub unpacked-length : length (unpacked b) ≡ 6 * length b
  unpacked-length = sixes_length (λ p. bits_of (get_or b p 0 - offset)) (λ p. refl) (length b)

  pub unpacked-at : (p i : ℕ) → p < length b → i < 6 → get_or (unpacked b) (6 * p + i) 0 ≡ get_or (bits_of (get_or b p 0 - offset)) i 0
  unpacked-at p i h l = sixes_at (λ p. bits_of (get_or b p 0 - offset)) (λ p. refl) (length b) p i h l

  pub unpacked-past : (q : ℕ) → 6 * length b ≤ q → get_or (unpacked b) q 0 ≡ 0
  unpacked-past q h = get_or-eq_default (unpacked b) 0 (omega (arith, unpacked-length))

-- each of six bits is 0 or 1
bit-binary : (x i : ℕ) → get_or (bits_of x) i 0 ≤ 1
bit-binary x zero = omega arith
bit-binary x (suc zero) = omega arith
bit-binary x (suc (suc zero)) = omega arith
bit-binary x (suc (suc (suc zero))) = omega arith
bit-binary x (suc (suc (suc (suc zero)))) = omega arith
bit-binary x (suc (suc (suc (suc (suc zero))))) = omega arith
bit-binary x (suc (suc (suc (suc (suc (suc i)))))) = omega arith

pub unpacked-binary : (b : List ℕ) (q : ℕ) → get_or (unpacked b) q 0 ≤ 1
unpacked-binary b q = go (dec_lt q (6 * length b))
  where
    go : Dec (q < 6 * length b) → get_or (unpacked b) q 0 ≤ 1
    go (yes l) =
        let e : q ≡ 6 * (q / 6) + q % 6 = omega arith in
        rw e (rw (unpacked-at b (q / 6) (q % 6) (omega arith) (omega arith)) (bit-binary (get_or b (q / 6) 0 - offset) (q % 6)))
    go (no l) = omega (arith, unpacked-past b q (omega arith))

-- a number below 64 is that of its six bits: computed for each
sum-test : all_to 64 (λ x. eqb (six_bits (bits_of x) 0) x) ≡ true
unfolding all_to
sum-test = refl

-- so a byte of 63 to 126 is that of its six bits
pub unpacked-six : (b : List ℕ) (p : ℕ) → p < length b → offset ≤ get_or b p 0 → get_or b p 0 ≤ most_byte → six_bits (unpacked b) p + offset ≡ get_or b p 0
unpacked-six b p h low high =
    let x = get_or b p 0 - offset in
    let whole = eqb-true (six_bits (bits_of x) 0) x (all_to-at (λ x. eqb (six_bits (bits_of x) 0) x) 64 sum-test x (omega arith)) in
    rw (
      rw add-zero at (unpacked-at b p 0 h (omega arith)),
      unpacked-at b p 1 h (omega arith),
      unpacked-at b p 2 h (omega arith),
      unpacked-at b p 3 h (omega arith),
      unpacked-at b p 4 h (omega arith),
      unpacked-at b p 5 h (omega arith),
    )
    (ap (λ (y : ℕ). y + offset) whole ∙ omega arith)

-- bits that were packed come out again
module _ (x : List ℕ) (binary : (q : ℕ) → get_or x q 0 ≤ 1) where
  pub packed-bytes : (p : ℕ) → p < length (packed x) → (offset ≤ get_or (packed x) p 0) × (get_or (packed x) p 0 ≤ most_byte)
  packed-bytes p h =
      let e = packed-at x p (omega (arith, packed-length x)) in
      let a = binary (6 * p) in
      let b = binary (6 * p + 1) in
      let c = binary (6 * p + 2) in
      let d = binary (6 * p + 3) in
      let f = binary (6 * p + 4) in
      let g = binary (6 * p + 5) in
      (omega arith, omega arith)

  six-at : (p i : ℕ) → i < 6 → get_or (bits_of (six_bits x p)) i 0 ≡ get_or x (6 * p + i) 0
  six-at p zero l = rw add-zero (omega (arith, binary (6 * p), binary (6 * p + 1), binary (6 * p + 2), binary (6 * p + 3), binary (6 * p + 4), binary (6 * p + 5)))
  six-at p (suc zero) l = omega (arith, binary (6 * p), binary (6 * p + 1), binary (6 * p + 2), binary (6 * p + 3), binary (6 * p + 4), binary (6 * p + 5))
  six-at p (suc (suc zero)) l = omega (arith, binary (6 * p), binary (6 * p + 1), binary (6 * p + 2), binary (6 * p + 3), binary (6 * p + 4), binary (6 * p + 5))
  six-at p (suc (suc (suc zero))) l = omega (arith, binary (6 * p), binary (6 * p + 1), binary (6 * p + 2), binary (6 * p + 3), binary (6 * p + 4), binary (6 * p + 5))
  six-at p (suc (suc (suc (suc zero)))) l = omega (arith, binary (6 * p), binary (6 * p + 1), binary (6 * p + 2), binary (6 * p + 3), binary (6 * p + 4), binary (6 * p + 5))
  six-at p (suc (suc (suc (suc (suc zero))))) l = omega (arith, binary (6 * p), binary (6 * p + 1), binary (6 * p + 2), binary (6 * p + 3), binary (6 * p + 4), binary (6 * p + 5))
  six-at p (suc (suc (suc (suc (suc (suc i)))))) l = absurd (omega arith)

  pub packed-unpacked : (q : ℕ) → get_or (unpacked (packed x)) q 0 ≡ get_or x q 0
  packed-unpacked q = go (dec_lt q (6 * length (packed x)))
    where
      go : Dec (q < 6 * length (packed x)) → get_or (unpacked (packed x)) q 0 ≡ get_or x q 0
      go (yes l) =
          let e : q ≡ 6 * (q / 6) + q % 6 = omega arith in
          let d : six_bits x (q / 6) + offset - offset ≡ six_bits x (q / 6) = omega arith in
          let h : q / 6 < (length x + 5) / 6 = omega (arith, packed-length x) in
          rw e
          (unpacked-at (packed x) (q / 6) (q % 6) (omega (arith, packed-length x)) (omega arith)
          ∙ ap (λ (y : ℕ). get_or (bits_of (y - offset)) (q % 6) 0) (packed-at x (q / 6) h)
          ∙ ap (λ (y : ℕ). get_or (bits_of y) (q % 6) 0) d
          ∙ six-at (q / 6) (q % 6) (omega arith))
      go (no l) = unpacked-past (packed x) q (omega arith) ∙ sym (get_or-eq_default x 0 (omega (arith, packed-length x)))
