-- The body that the code builds is the packed bits of the list's graph.
-- Assumes nothing.
use mathlib.Core.Path.{◌≡◌, refl, sym, ap, ap₂, ◌∙◌}
use mathlib.Core.List.{List}
use mathlib.Core.Logic.{◌≢◌}
use Prim.Native.Nat.{ℕ, zero, suc, ◌+◌, ◌*◌, ◌/◌, ◌%◌, ◌≤◌, ◌<◌}
use native.Mathlib.Nat.{add-zero, one-mul, zero-mul}
use native.Mathlib.Decide.{ℕ_discrete, dec_lt}
use native.Mathlib.Omega.{arith}
use lib.ListN.{length, get_or, take, replicate, length-set, length-replicate, length-take}
use lib.Seq.{ext_get_or, get_or-take, get_or-set_same, get_or-set_other}
use Rattle.finite.specs.Range.{δ, sum_to, fold_to}
use Rattle.finite.proofs.Delta.{δ-self, δ-same, δ-other}
use Rattle.finite.proofs.Sum.{sum_to-more, sum_to-cong, sum_to-zero, sum_to-le}
use Rattle.finite.proofs.Fold.{fold_to-keeps}
use Rattle.graph.specs.Graph.{at_edge}
use Rattle.graph.proofs.Edge.{Place, forth, back, elsewhere, place, at_edge-here}
use Rattle.layout.specs.Layout.{most_vertices}
use Rattle.edge_lists.specs.EdgeList.{listed, end_v, end_w, graph_of}
use Rattle.edge_lists.proofs.List.{Passed, good, list-simple}
use Rattle.graph6.specs.Format.{offset, triangle, six_bits, packed, column_start, body_length, body_most}
use Rattle.graph6.proofs.Starts.{column_starts}
use Rattle.graph6.proofs.Columns.{column-start, columns_most, place-before, place_of, place_same}
use Rattle.graph6.proofs.Bits.{triangle-length, triangle-at, triangle-past, triangle-binary, packed-length, packed-at}
use Rattle.graph6_write.specs.Inner.Body.{weight_of, bit_place, add_bit, body_to}

-- what a place is worth is what its six bits say
weight_sum : (r : ℕ) → r < 6 → 32 * δ r 0 + 16 * δ r 1 + 8 * δ r 2 + 4 * δ r 3 + 2 * δ r 4 + δ r 5 ≡ weight_of r
unfolding δ
weight_sum zero l = refl
weight_sum (suc zero) l = refl
weight_sum (suc (suc zero)) l = refl
weight_sum (suc (suc (suc zero))) l = refl
weight_sum (suc (suc (suc (suc zero)))) l = refl
weight_sum (suc (suc (suc (suc (suc zero))))) l = refl
weight_sum (suc (suc (suc (suc (suc (suc r)))))) l = absurd (omega arith)

-- one bit, at place q, in byte p
six-term : (q p : ℕ)
    → 32 * δ q (6 * p) + 16 * δ q (6 * p + 1) + 8 * δ q (6 * p + 2) + 4 * δ q (6 * p + 3) + 2 * δ q (6 * p + 4) + δ q (6 * p + 5)
    ≡ δ (q / 6) p * weight_of (q % 6)
six-term q p = go (ℕ_discrete (q / 6) p)
  where
    shift : q / 6 ≡ p → (i : ℕ) → i < 6 → δ q (6 * p + i) ≡ δ (q % 6) i
    shift e i l = pick (ℕ_discrete (q % 6) i)
      where
        pick : Dec (q % 6 ≡ i) → δ q (6 * p + i) ≡ δ (q % 6) i
        pick (yes d) = δ-same q (6 * p + i) (omega arith) ∙ sym (δ-same (q % 6) i d)
        pick (no d) = δ-other q (6 * p + i) (λ s. d (omega arith)) ∙ sym (δ-other (q % 6) i d)

    off : q / 6 ≢ p → (i : ℕ) → i < 6 → δ q (6 * p + i) ≡ 0
    off e i l = δ-other q (6 * p + i) (λ s. e (omega arith))

    go : Dec (q / 6 ≡ p)
        → 32 * δ q (6 * p) + 16 * δ q (6 * p + 1) + 8 * δ q (6 * p + 2) + 4 * δ q (6 * p + 3) + 2 * δ q (6 * p + 4) + δ q (6 * p + 5)
        ≡ δ (q / 6) p * weight_of (q % 6)
    go (yes e) =
        rw (
          rw add-zero at (shift e 0 (omega arith)),
          shift e 1 (omega arith),
          shift e 2 (omega arith),
          shift e 3 (omega arith),
          shift e 4 (omega arith),
          shift e 5 (omega arith),
          δ-same (q / 6) p e,
          one-mul,
        )
        (weight_sum (q % 6) (omega arith))
    go (no e) =
        rw (
          rw add-zero at (off e 0 (omega arith)),
          off e 1 (omega arith),
          off e 2 (omega arith),
          off e 3 (omega arith),
          off e 4 (omega arith),
          off e 5 (omega arith),
          δ-other (q / 6) p e,
          zero-mul,
        )

-- and all of n
six-sum : (f : ℕ → ℕ) (p n : ℕ)
    → 32 * sum_to n (λ j. δ (f j) (6 * p)) + 16 * sum_to n (λ j. δ (f j) (6 * p + 1)) + 8 * sum_to n (λ j. δ (f j) (6 * p + 2))
    + 4 * sum_to n (λ j. δ (f j) (6 * p + 3)) + 2 * sum_to n (λ j. δ (f j) (6 * p + 4)) + sum_to n (λ j. δ (f j) (6 * p + 5))
    ≡ sum_to n (λ j. δ (f j / 6) p * weight_of (f j % 6))
unfolding sum_to
six-sum f p zero = refl
six-sum f p (suc n) = omega (arith, six-sum f p n, six-term (f n) p)

-- a list of equal numbers
all_same : (x n i : ℕ) → i < n → get_or (replicate n x) i 0 ≡ x
all_same x zero i h = absurd (omega arith)
all_same x (suc n) zero h = refl
all_same x (suc n) (suc i) h = all_same x n i (omega arith)

module _ (e : List ℕ) (total : ℕ) (passed : Passed e total) where
  -- a bit of the graph is the number of edges that stand there
  bit-sum : (q : ℕ) → get_or (triangle total (graph_of e)) q 0 ≡ sum_to (listed e) (λ j. δ (bit_place e j) q)
  bit-sum q = go (dec_lt q (column_start total))
    where
      term : (v w j : ℕ) → v < w → j < listed e → Place (end_v e j) (end_w e j) v w → at_edge (end_v e j) (end_w e j) v w ≡ δ (bit_place e j) (column_start w + v)
      term v w j h l (forth a b) =
          let o = (good e total passed.well j l).ordered in
          rw (a, b, δ-self (column_start (end_w e j) + end_v e j)) (at_edge-here (end_v e j) (end_w e j) (omega arith))
      term v w j h l (back a b) = absurd (omega (arith, (good e total passed.well j l).ordered))
      term v w j h l (elsewhere z) =
          z ∙ sym (δ-other (bit_place e j) (column_start w + v) (λ s. other (place_same (end_v e j) (end_w e j) v w o h s)))
        where
          o : end_v e j < end_w e j
          o = (good e total passed.well j l).ordered

          other : (end_v e j ≡ v) × (end_w e j ≡ w) → ⊥
          other (a, b) =
              absurd (omega (arith, rw (sym a, sym b) at z, at_edge-here (end_v e j) (end_w e j) (omega arith)))

      go : Dec (q < column_start total) → get_or (triangle total (graph_of e)) q 0 ≡ sum_to (listed e) (λ j. δ (bit_place e j) q)
      go (yes l) =
          let p = place_of total q l in
          rw p.4
          (triangle-at (graph_of e) total p.0 p.1 p.2 p.3
          ∙ sum_to-cong (listed e) (λ j. at_edge (end_v e j) (end_w e j) p.0 p.1) (λ j. δ (bit_place e j) (column_start p.1 + p.0))
          (λ j m. term p.0 p.1 j p.2 m (place (end_v e j) (end_w e j) p.0 p.1)))
      go (no l) =
          triangle-past (graph_of e) total q (omega arith)
          ∙ sym (sum_to-zero (listed e) (λ j. δ (bit_place e j) q) (λ j m. δ-other (bit_place e j) q (λ s. l (rw s at (before j m)))))
        where
          before : (j : ℕ) → j < listed e → bit_place e j < column_start total
          before j m =
              let g = good e total passed.well j m in
              place-before (end_v e j) (end_w e j) total g.ordered g.vertex

  -- the byte that the bits of the graph make
  byte-sum : (p : ℕ) → six_bits (triangle total (graph_of e)) p ≡ sum_to (listed e) (λ j. δ (bit_place e j / 6) p * weight_of (bit_place e j % 6))
  byte-sum p =
      rw (bit-sum (6 * p), bit-sum (6 * p + 1), bit-sum (6 * p + 2), bit-sum (6 * p + 3), bit-sum (6 * p + 4), bit-sum (6 * p + 5))
      (six-sum (bit_place e) p (listed e))

  byte-most : (p : ℕ) → six_bits (triangle total (graph_of e)) p ≤ 63
  byte-most p =
      let b = triangle-binary (graph_of e) total (list-simple e total passed.well) in
      omega (arith, b (6 * p), b (6 * p + 1), b (6 * p + 2), b (6 * p + 3), b (6 * p + 4), b (6 * p + 5))

  -- the code's body has a byte for each bit
  pub body-length : (n : ℕ) → length (body_to e n) ≡ body_most
  body-length n = fold_to-keeps (λ i b. length b ≡ body_most) _ _ n (length-replicate {A = ℕ} body_most offset) (λ i b l h. length-set b _ _ ∙ h)

  place-fits : (j : ℕ) → j < listed e → bit_place e j / 6 < body_most
  place-fits j l =
      let g = good e total passed.well j l in
      omega (arith, place-before (end_v e j) (end_w e j) total g.ordered g.vertex, columns_most total passed.few)

  -- and each byte is 63 and what the edges before n add to it
  body_at : (n p : ℕ) → n ≤ listed e → p < body_most
      → get_or (body_to e n) p 0 ≡ offset + sum_to n (λ j. δ (bit_place e j / 6) p * weight_of (bit_place e j % 6))
  unfolding fold_to sum_to
  body_at zero p h l = all_same offset body_most p l
  body_at (suc n) p h l = go (ℕ_discrete (bit_place e n / 6) p) (body_at n p (omega arith) l)
    where
      go : Dec (bit_place e n / 6 ≡ p) → get_or (body_to e n) p 0 ≡ offset + sum_to n (λ j. δ (bit_place e j / 6) p * weight_of (bit_place e j % 6))
          → get_or (add_bit (bit_place e n) (body_to e n)) p 0
          ≡ offset + (sum_to n (λ j. δ (bit_place e j / 6) p * weight_of (bit_place e j % 6)) + δ (bit_place e n / 6) p * weight_of (bit_place e n % 6))
      go (yes s) before =
          rw (δ-same (bit_place e n / 6) p s, one-mul, s, get_or-set_same (body_to e n) p (get_or (body_to e n) p 0 + weight_of (bit_place e n % 6)) 0 (rw (body-length n) l))
          (omega arith)
      go (no s) before =
          rw (δ-other (bit_place e n / 6) p s, zero-mul, get_or-set_other (body_to e n) (bit_place e n / 6) p (get_or (body_to e n) (bit_place e n / 6) 0 + weight_of (bit_place e n % 6)) 0 (λ k. s (sym k)))
          (omega arith)

  -- so a bit more fits its byte
  bit-fits : (n : ℕ) → n < listed e → get_or (body_to e n) (bit_place e n / 6) 0 + weight_of (bit_place e n % 6) < 256
  bit-fits n l =
      let p = bit_place e n / 6 in
      let f : ℕ → ℕ = λ j. δ (bit_place e j / 6) p * weight_of (bit_place e j % 6) in
      let last : f n ≡ weight_of (bit_place e n % 6) = rw (δ-self p, one-mul) in
      omega (
        arith,
        body_at n p (omega arith) (place-fits n l),
        sum_to-more f n,
        last,
        sum_to-le (n + 1) (listed e) f (omega arith),
        byte-sum p,
        byte-most p,
      )

  -- in the code's words: where it reads v, w and the start x of column w
  module _ (n x v w : ℕ) (l : n < listed e) (column : x ≡ get_or column_starts w 0) (higher : w ≡ end_w e n) (lower : v ≡ end_v e n) where
    pub column_low : w < most_vertices
    column_low = rw higher (omega (arith, (good e total passed.well n l).vertex, passed.few))

    pub place_read : x + v ≡ bit_place e n
    place_read = ap₂ ◌+◌ (column ∙ column-start w column_low ∙ ap column_start higher) lower

    pub place-room : (b : List ℕ) → b ≡ body_to e n → ((x + v) / 6 < body_most) × (get_or b ((x + v) / 6) 0 + weight_of ((x + v) % 6) < 256)
    place-room b s = rw (place_read, s) (place-fits n l, bit-fits n l)

  -- the body of all edges is the packed bits of the graph
  pub body_packed : take (body_length total) (body_to e (listed e)) ≡ packed (triangle total (graph_of e))
  body_packed = ext_get_or 0 (take (body_length total) (body_to e (listed e))) (packed (triangle total (graph_of e))) size at
    where
      few : body_length total ≤ body_most
      few = omega (arith, columns_most total passed.few)

      count : length (packed (triangle total (graph_of e))) ≡ body_length total
      count = packed-length (triangle total (graph_of e)) ∙ ap (λ (m : ℕ). (m + 5) / 6) (triangle-length (graph_of e) total)

      size : length (take (body_length total) (body_to e (listed e))) ≡ length (packed (triangle total (graph_of e)))
      size = omega (arith, few, length-take (body_length total) (body_to e (listed e)), body-length (listed e), count)

      at : (p : ℕ) → p < length (take (body_length total) (body_to e (listed e)))
          → get_or (take (body_length total) (body_to e (listed e))) p 0 ≡ get_or (packed (triangle total (graph_of e))) p 0
      at p l =
          let m : p < body_length total = omega (arith, size, count) in
          get_or-take (body_length total) (body_to e (listed e)) p 0 m
          ∙ omega (
            arith,
            body_at (listed e) p (omega arith) (omega (arith, few)),
            byte-sum p,
            packed-at (triangle total (graph_of e)) p (omega (arith, m, triangle-length (graph_of e) total)),
          )
