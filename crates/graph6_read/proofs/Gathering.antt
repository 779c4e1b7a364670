-- Rows of bits that go by columns.
-- Assumes nothing.
use mathlib.Core.Path.{◌≡◌, ap, ◌∙◌}
use mathlib.Core.List.{List}
use Prim.Native.Nat.{ℕ, ◌+◌, ◌≤◌, ◌<◌}
use native.Mathlib.Decide.{dec_lt}
use native.Mathlib.Omega.{arith}
use lib.ListN.{length, get_or, set, take, length-take}
use lib.Seq.{get_or-take, get_or-set_same, get_or-set_other}
use Rattle.layout.specs.Layout.{most_vertices}
use Rattle.edge_lists.specs.EdgeList.{row_bytes}
use Rattle.edge_lists.proofs.Listing.{row_cong}
use Rattle.graph6.specs.Format.{column_start}
use Rattle.graph6.proofs.Starts.{column_starts}
use Rattle.graph6.proofs.Columns.{column-start, columns_most, place-before}
use Rattle.graph6_read.specs.Inner.Bits.{bits_most, rows_of, HasRow}

-- in the code's words: where it reads the start x of column w
module _ (n v w x : ℕ) (few : n ≤ most_vertices) (above : v < w) (below : w < n) (column : x ≡ get_or column_starts w 0) where
  pub place_read : x + v ≡ column_start w + v
  place_read = ap (λ (s : ℕ). s + v) (column ∙ column-start w (omega arith))

  pub place-low : x + v < bits_most
  place-low = omega (arith, place_read, place-before v w n above below, columns_most n few)

  -- one column more
  pub row_more : (bits row : List ℕ) → length row ≡ most_vertices → HasRow bits w v row
      → HasRow bits (w + 1) v (set row w (get_or bits (x + v) 0))
  row_more bits row size before y h l = go (dec_lt y w)
    where
      go : Dec (y < w) → get_or (set row w (get_or bits (x + v) 0)) y 0 ≡ rows_of bits v y
      go (yes m) = get_or-set_other row w y (get_or bits (x + v) 0) 0 (omega arith) ∙ before y h m
      go (no m) =
          let e : y ≡ w = omega arith in
          rw e (get_or-set_same row w (get_or bits (x + v) 0) 0 (omega arith) ∙ ap (λ (q : ℕ). get_or bits q 0) place_read)

-- the bytes of a gathered row in a list are those of the graph's row
module _ (bits row : List ℕ) (n v : ℕ) (fits : n ≤ length row) (has : HasRow bits n v row) where
  pub row_length : length (take n row) ≡ n
  row_length = omega (arith, length-take n row)

  pub row-bytes : row_bytes (length (take n row)) (λ w. get_or (take n row) w 0) v ≡ row_bytes n (rows_of bits v) v
  row-bytes =
      ap (λ (m : ℕ). row_bytes m (λ w. get_or (take n row) w 0) v) row_length
      ∙ row_cong n v (λ w. get_or (take n row) w 0) (rows_of bits v) (λ w h l. get_or-take n row w 0 l ∙ has w h l)
