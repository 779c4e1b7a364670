-- The counts of the rows are the open pairs of the definition, so that what is found by them is the pair that is picked.
-- Assumes nothing.
use Rattle.std.proofs.Common.{◌≡◌, ℕ, ◌+◌, ◌-◌, ◌<◌, ◌≤◌, Bool, true, ◌&&◌, eqb, ltb, List, get_or, sym, ap, ◌∙◌, ap₂, add-zero, zero-add, arith, le-ltb, lt-ltb, eq-eqb, ne_eqb}
use native.Mathlib.Decide.{ℕ_discrete, dec_lt}
use Rattle.finite.specs.Range.{bit, sum_to}
use Rattle.finite.proofs.Sum.{sum_to-cong, sum_to-zero, sum_to-split}
use Rattle.table.specs.Inner.Cells.{cells_size, matrix_of}
use Rattle.adjacency.specs.Adjacency.{side, edge}
use Rattle.classes.specs.Inner.Block.{class_from}
use Rattle.classes.proofs.Blocks.{class_rises}
use Rattle.open_pairs.specs.Inner.Rows.{is_free, free_to, open_to}
use Rattle.completion.specs.Inner.Cellwise.{Filling}
use Rattle.shuffled_completion.specs.Choice.{is_open, open_in_row, open_before, open_count, pair_v, pair_w}
use Rattle.tracking.specs.Inner.Track.{cell_place, cell_has, Tracked}
use Rattle.shuffled_completion.proofs.Picked.{pair_row, pair-column}

-- a cell that is not above its target is short exactly where it is not full
short_not_full : (h t : ℕ) → h ≤ t → eqb (bit (eqb h t)) 0 ≡ ltb h t
short_not_full h t l = go (ℕ_discrete h t)
  where
    go : Dec (h ≡ t) → eqb (bit (eqb h t)) 0 ≡ ltb h t
    go (yes e) = rw (eq-eqb h t e, le-ltb h t (omega arith))
    go (no d) = rw (ne_eqb h t d, lt-ltb h t (omega arith))

module _ {n : ℕ} {cells starts classes g have full pairs : List ℕ} (t : Tracked n cells starts classes g have full pairs)
    (f : Filling n (class_from starts) (matrix_of cells) g) where
  -- above v, a column is free where the pair is open
  free_open : (v w : ℕ) → v < w → w < n → is_free g full (class_from starts v) v w ≡ is_open n (class_from starts) (matrix_of cells) g v w
  free_open v w vw wn =
      let vd = f.target.classed v (omega arith) in
      let wd = f.target.classed w wn in
      let flag = t.counted.flagged (class_from starts v) w vd wn (class_rises t.arranged.numbered v w (omega arith) wn vd wd) in
      rw (lt-ltb v w vw, flag, lt-ltb (cell_place (class_from starts v) (class_from starts w)) cells_size (omega arith))
      (ap (λ (b : Bool). eqb (edge g v w) 0 && b)
      (short_not_full (cell_has n starts g (class_from starts v) (class_from starts w)) (matrix_of cells (class_from starts v) (class_from starts w))
      (f.partial.within (class_from starts v) (class_from starts w) vd wd)))

  pub free_row : (v w : ℕ) → v < w → w ≤ n → free_to g full (class_from starts v) v w ≡ open_in_row n (class_from starts) (matrix_of cells) g v w
  free_row v w vw wn =
      sym (ap (λ (m : ℕ). sum_to m (λ u. bit (is_open n (class_from starts) (matrix_of cells) g v u))) whole
      ∙ sum_to-split (v + 1) (w - (v + 1)) (λ u. bit (is_open n (class_from starts) (matrix_of cells) g v u))
      ∙ ap₂ ◌+◌
      (sum_to-zero (v + 1) (λ u. bit (is_open n (class_from starts) (matrix_of cells) g v u)) (λ u l. rw (le-ltb v u (omega arith))))
      (sum_to-cong (w - (v + 1)) (λ i. bit (is_open n (class_from starts) (matrix_of cells) g v (v + 1 + i)))
      (λ i. bit (is_free g full (class_from starts v) v (v + 1 + i)))
      (λ i l. ap bit (sym (free_open v (v + 1 + i) (omega arith) (omega arith)))))
      ∙ zero-add _)
    where
      whole : w ≡ v + 1 + (w - (v + 1))
      whole = omega arith

  row_count : (v : ℕ) → v < n → get_or pairs v 0 ≡ open_in_row n (class_from starts) (matrix_of cells) g v n
  row_count v vn = t.rows v vn ∙ ap (λ (k : ℕ). free_to g full k v n) (t.classed v vn) ∙ free_row v n vn (omega arith)

  rows-count : (v : ℕ) → v ≤ n → open_to pairs v ≡ open_before n (class_from starts) (matrix_of cells) g v
  rows-count v vn =
      sum_to-cong v (λ i. get_or pairs i 0) (λ u. open_in_row n (class_from starts) (matrix_of cells) g u n) (λ u l. row_count u (omega arith))

  -- document 02's m
  pub total-count : open_to pairs side ≡ open_count n (class_from starts) (matrix_of cells) g
  total-count =
      ap (open_to pairs) whole
      ∙ sum_to-split n (side - n) (λ i. get_or pairs i 0)
      ∙ ap₂ ◌+◌ (rows-count n (omega arith)) (sum_to-zero (side - n) (λ i. get_or pairs (n + i) 0) (λ i l. t.behind (n + i) (omega arith)))
      ∙ add-zero _
    where
      whole : side ≡ n + (side - n)
      whole = omega (arith, f.few)

  -- v: the row in which position q falls, with r pairs of the row before it
  module _ (q v r : ℕ) (before : open_to pairs v + r ≡ q) (within : r < get_or pairs v 0) where
    pub row_below : v < n
    row_below = go (dec_lt v n)
      where
        go : Dec (v < n) → v < n
        go (yes h) = h
        go (no h) = absurd (omega (arith, t.behind v (omega arith)))

    pub row_free : r < free_to g full (get_or classes v 0) v n
    row_free = omega (arith, t.rows v row_below)

    -- w: the column at position r
    module _ (w : ℕ) (vw : v < w) (wn : w < n) (free : is_free g full (get_or classes v 0) v w ≡ true)
        (at : free_to g full (get_or classes v 0) v w ≡ r) where
      passes : is_open n (class_from starts) (matrix_of cells) g v w ≡ true
      passes = sym (free_open v w vw wn) ∙ ap (λ (k : ℕ). is_free g full k v w) (sym (t.classed v row_below)) ∙ free

      stands : open_before n (class_from starts) (matrix_of cells) g v + open_in_row n (class_from starts) (matrix_of cells) g v w ≡ q
      stands =
          omega (
            arith,
            rows-count v (omega (arith, row_below)),
            free_row v w vw (omega arith),
            ap (λ (k : ℕ). free_to g full k v w) (t.classed v row_below),
          )

      pub seek_row : v ≡ pair_v n (class_from starts) (matrix_of cells) g q
      seek_row = sym (pair_row n (class_from starts) (matrix_of cells) g q v w row_below wn passes stands)

      pub seek_column : w ≡ pair_w n (class_from starts) (matrix_of cells) g q v
      seek_column = sym (pair-column n (class_from starts) (matrix_of cells) g q v w row_below wn passes stands)
