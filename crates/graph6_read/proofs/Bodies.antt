-- The bits of a text in an array: what stands where, the padding, and how many edges they are.
-- Assumes nothing.
use mathlib.Core.Path.{◌≡◌, sym, ap, ◌∙◌}
use mathlib.Core.Bool.{true}
use mathlib.Core.List.{List}
use Prim.Native.Nat.{ℕ, ◌+◌, ◌*◌, ◌≤◌, ◌<◌}
use native.Mathlib.Nat.{zero-add}
use native.Mathlib.Decide.{dec_lt}
use native.Mathlib.Omega.{arith}
use lib.ListN.{length, get_or, drop, replicate, length-drop, length-replicate, get_or-eq_default}
use lib.Seq.{length-sets, get_or-drop}
use Rattle.finite.specs.Range.{sum_to}
use Rattle.finite.proofs.All.{test_same}
use Rattle.finite.proofs.Sum.{sum_to-cong, sum_to-mono, sum_to-const}
use Rattle.graph.specs.Graph.{edges}
use Rattle.slices.specs.Slices.{all_zero}
use Rattle.slices.proofs.Zero.{all_zero-at, zeros-all_zero, get_or-zeros}
use Rattle.slices.proofs.Part.{get_or-sets_in, get_or-sets_after}
use Rattle.edge_lists.specs.EdgeList.{list_of}
use Rattle.edge_lists.proofs.Listing.{list_length, list-cong}
use Rattle.graph6.specs.Format.{column_start, body_length, size_length, size_of, body_bits, zero_padded, text_graph}
use Rattle.graph6.proofs.Columns.{columns_most, columns_sum}
use Rattle.graph6.proofs.Bits.{unpacked-length, unpacked-binary}
use Rattle.graph6.proofs.Text.{Framed, graph_simple, graph_up, graph_down}
use Rattle.graph6_read.specs.Read.{read_list}
use Rattle.graph6_read.specs.Inner.Bits.{bits_most, bits_in, rows_of}

module _ (t : List ℕ) (f : Framed t) where
  pub size_fits : size_length t ≤ length t
  size_fits = omega (arith, f.whole)

  body-size : length (drop (size_length t) t) ≡ body_length (size_of t)
  body-size = omega (arith, length-drop (size_length t) t, f.whole)

  pub body_room : 6 * length (drop (size_length t) t) ≤ bits_most
  body_room = omega (arith, body-size, columns_most (size_of t) f.few)

  -- the array reads as the bits do, also behind them
  pub bits_at : (q : ℕ) → get_or (bits_in t) q 0 ≡ get_or (body_bits t) q 0
  bits_at q = go (dec_lt q (length (body_bits t)))
    where
      room : 0 + length (body_bits t) ≤ length {A = ℕ} (replicate bits_most 0)
      room = omega (arith, body_room, unpacked-length (drop (size_length t) t), length-replicate {A = ℕ} bits_most 0)

      go : Dec (q < length (body_bits t)) → get_or (bits_in t) q 0 ≡ get_or (body_bits t) q 0
      go (yes l) = rw zero-add at (get_or-sets_in (replicate bits_most 0) 0 (body_bits t) q room l)
      go (no l) =
          get_or-sets_after (replicate bits_most 0) 0 (body_bits t) q (omega arith)
          ∙ get_or-zeros bits_most q
          ∙ sym (get_or-eq_default (body_bits t) 0 (omega arith))

  -- the padding
  pub padding_same : all_zero (drop (column_start (size_of t)) (bits_in t)) ≡ zero_padded t
  padding_same = test_same _ _ forth back
    where
      forth : all_zero (drop (column_start (size_of t)) (bits_in t)) ≡ true → zero_padded t ≡ true
      forth h =
          zeros-all_zero (drop (column_start (size_of t)) (body_bits t))
          (λ i l. get_or-drop (column_start (size_of t)) (body_bits t) i 0 ∙ sym (bits_at _) ∙ sym (get_or-drop (column_start (size_of t)) (bits_in t) i 0) ∙ all_zero-at (drop (column_start (size_of t)) (bits_in t)) h i)

      back : zero_padded t ≡ true → all_zero (drop (column_start (size_of t)) (bits_in t)) ≡ true
      back h =
          zeros-all_zero (drop (column_start (size_of t)) (bits_in t))
          (λ i l. get_or-drop (column_start (size_of t)) (bits_in t) i 0 ∙ bits_at _ ∙ sym (get_or-drop (column_start (size_of t)) (body_bits t) i 0) ∙ all_zero-at (drop (column_start (size_of t)) (body_bits t)) h i)

  -- the array's graph is the text's
  pub rows_list : list_of (size_of t) (rows_of (bits_in t)) ≡ read_list t
  rows_list =
      list-cong (size_of t) (rows_of (bits_in t)) (text_graph t) (λ v w h l. bits_at (column_start w + v) ∙ sym (graph_up t v w h))

  -- its edges are the bits' sum
  bits-edges : sum_to (column_start (size_of t)) (λ q. get_or (bits_in t) q 0) ≡ edges (size_of t) (text_graph t)
  unfolding edges
  bits-edges =
      columns_sum (λ q. get_or (bits_in t) q 0) (size_of t)
      ∙ sum_to-cong (size_of t) (λ w. sum_to w (λ v. get_or (bits_in t) (column_start w + v) 0)) (λ w. sum_to w (text_graph t w))
      (λ w l. sum_to-cong w (λ v. get_or (bits_in t) (column_start w + v) 0) (text_graph t w)
      (λ v h. bits_at (column_start w + v) ∙ sym (graph_down t w v h)))

  pub bits_length : length (bits_in t) ≡ bits_most
  bits_length = length-sets (replicate bits_most 0) 0 (body_bits t) ∙ length-replicate {A = ℕ} bits_most 0

  pub bits_few : sum_to (column_start (size_of t)) (λ q. get_or (bits_in t) q 0) < 65536
  bits_few =
      omega (
        arith,
        sum_to-mono (column_start (size_of t)) (λ q. get_or (bits_in t) q 0) (λ q. 1)
            (λ q l. rw (bits_at q) (unpacked-binary (drop (size_length t) t) q)),
        sum_to-const 1 (column_start (size_of t)),
        columns_most (size_of t) f.few,
      )

  -- 2 bytes an edge
  pub bits_list : 2 * sum_to (column_start (size_of t)) (λ q. get_or (bits_in t) q 0) ≡ length (read_list t)
  bits_list = ap (λ (m : ℕ). 2 * m) bits-edges ∙ sym (list_length (size_of t) (text_graph t) (graph_simple t (size_of t)))
