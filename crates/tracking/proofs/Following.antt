-- What is kept follows a join: the cells, the flags, the counts of the rows, and where the unsaturated vertices begin.
-- Assumes nothing.
use mathlib.Core.Path.{◌≡◌, refl, sym, ap, ◌∙◌}
use mathlib.Core.Bool.{Bool, true, false, false≢true, ◌&&◌, cond}
use mathlib.Core.List.{List}
use mathlib.Core.Logic.{◌≢◌}
use Prim.Native.Nat.{ℕ, ◌+◌, ◌-◌, ◌*◌, ◌≤◌, ◌<◌}
use native.Mathlib.Decide.{ℕ_discrete}
use native.Mathlib.Omega.{arith}
use lib.Dec.{eqb, ltb}
use lib.ListN.{length, get_or, length-set}
use lib.Seq.{get_or-set_same, get_or-set_other}
use borrow.Author.Tests.{lt-ltb, ne_eqb}
use Rattle.finite.specs.Range.{bit}
use Rattle.finite.proofs.Sum.{sum_to-cong}
use Rattle.answer.specs.Inner.Moved.{SwitchBelow, RowApart, Each}
use Rattle.answer.specs.declared.switches.Switch.{Switch}
use Rattle.answer.specs.declared.switches.Switches.{Switches}
use Rattle.answer.specs.declared.switches.Switches.TheVariants.{None, One, Two}
use Rattle.graph.specs.Target.{Open}
use Rattle.graph.specs.Tests.{most_classes}
use Rattle.graph.proofs.Edge.{at_edge-cell, at_edge-upper}
use Rattle.table.specs.Inner.Cells.{cells_size, matrix_of}
use Rattle.adjacency.specs.Adjacency.{side, edge}
use Rattle.classes.specs.Inner.Block.{class_from}
use Rattle.classes.proofs.Blocks.{start_most, class_inside, class_only, class_rises}
use Rattle.join_bytes.specs.Join.{join_bytes, join_switches}
use Rattle.join_bytes.specs.Inner.Joinable.{Joinable}
use Rattle.join_bytes.proofs.Untouched.{switches_below, join_apart}
use Rattle.open_pairs.specs.Inner.Rows.{is_free, free_to, Scannable}
use Rattle.open_pairs.specs.Inner.Refresh.{refresh_row, refresh_range, mark_full}
use Rattle.open_pairs.proofs.Marked.{marked_length, marked_inside, marked_outside, marked_binary}
use Rattle.open_pairs.proofs.Refreshed.{Right, row_else, range_else, switches_else, range_length, switches_length, row_right, range_right, switches_right}
use Rattle.completion.specs.Inner.Cellwise.{Filling}
use Rattle.completion.proofs.Chosen.{Stepped, opened}
use Rattle.tracking.specs.Inner.Track.{cell_place, cell_has, Counted, Tracked, has_now, have_after, is_full_now, flags_after, pairs_after}

-- a row whose bytes and flags above v are the same has as many free columns
free_same : (n k v : ℕ) (g g' full full' : List ℕ)
    → ((w : ℕ) → v < w → w < n → (edge g' v w ≡ edge g v w) × (get_or full' (k * side + w) 0 ≡ get_or full (k * side + w) 0))
    → free_to g' full' k v n ≡ free_to g full k v n
free_same n k v g g' full full' same =
    sum_to-cong (n - (v + 1)) (λ i. bit (is_free g' full' k v (v + 1 + i))) (λ i. bit (is_free g full k v (v + 1 + i)))
    (λ i l. let s = same (v + 1 + i) (omega arith) (omega arith) in rw (s.0, s.1))

-- rows from n on are those of no switch
behind_one : (n z : ℕ) → n ≤ z → (x : Switch) → SwitchBelow n x → RowApart z x
behind_one n z h x e = ((λ d. omega (arith, d, e.2)), (λ d. omega (arith, d, e.2)))

behind_switch : (n z : ℕ) → n ≤ z → (s : Switches) → Each (SwitchBelow n) s → Each (RowApart z) s
behind_switch n z h None e = omega arith
behind_switch n z h (One x) e = behind_one n z h x e
behind_switch n z h (Two x y) e = (behind_one n z h x e.0, behind_one n z h y e.1)

module _ {n : ℕ} {cells starts classes g have full pairs : List ℕ} (t : Tracked n cells starts classes g have full pairs)
    (f : Filling n (class_from starts) (matrix_of cells) g) (v w : ℕ) (vw : v < w) (pair : Open n (class_from starts) (matrix_of cells) (edge g) v w) where
  abbrev cls : ℕ → ℕ
  cls = class_from starts

  abbrev k : ℕ
  k = class_from starts v

  abbrev l : ℕ
  l = class_from starts w

  abbrev g' : List ℕ
  g' = join_bytes n (class_from starts) g v w

  pub joinable : Joinable n (class_from starts) g v w
  joinable =
      record {
        table = matrix_of cells;
        sized = f.sized;
        few = f.few;
        target = f.target;
        partial = f.partial;
        pair = pair;
      }

  st : Stepped n (class_from starts) (matrix_of cells) g g' k l
  st = opened n (class_from starts) (matrix_of cells) g f v w pair

  pub row_class : k < most_classes
  row_class = f.target.classed v pair.first

  pub column_class : l < most_classes
  column_class = f.target.classed w pair.second

  -- classes rise with the vertices
  pub classes_rise : k ≤ l
  classes_rise = class_rises t.arranged.numbered v w (omega arith) pair.second row_class column_class

  at_place : cell_place k l < cells_size
  at_place = omega (arith, row_class, column_class)

  -- cell (k, l) has what the code counts
  has-now : has_now k l have ≡ cell_has n starts g' k l
  has-now = omega (arith, t.counted.has k l classes_rise column_class at_place, st.cells k l, at_edge-cell k l)

  pub now_within : has_now k l have ≤ matrix_of cells k l
  now_within = rw has-now (st.filling.partial.within k l row_class column_class)

  -- the others have what they had
  others : (i j : ℕ) → i ≤ j → (i ≡ k → j ≡ l → ⊥) → cell_has n starts g' i j ≡ cell_has n starts g i j
  others i j ij h = omega (arith, st.cells i j, at_edge-upper k l i j classes_rise ij h)

  has-after : (i j : ℕ) → i ≤ j → j < most_classes → get_or (have_after k l have) (cell_place i j) 0 ≡ cell_has n starts g' i j
  has-after i j ij jd = go (ℕ_discrete i k) (ℕ_discrete j l)
    where
      elsewhere : (i ≡ k → j ≡ l → ⊥) → get_or (have_after k l have) (cell_place i j) 0 ≡ cell_has n starts g' i j
      elsewhere h =
          get_or-set_other have (cell_place k l) (cell_place i j) (has_now k l have) 0
          (λ e. h (omega (arith, column_class)) (omega (arith, column_class)))
          ∙ t.counted.has i j ij jd (omega arith)
          ∙ sym (others i j ij h)

      go : Dec (i ≡ k) → Dec (j ≡ l) → get_or (have_after k l have) (cell_place i j) 0 ≡ cell_has n starts g' i j
      go (yes p) (yes q) =
          rw (p, q) (get_or-set_same have (cell_place k l) (has_now k l have) 0 (omega (arith, at_place, t.counted.sized)) ∙ has-now)
      go (no p) q = elsewhere (λ e d. p e)
      go (yes p) (no q) = elsewhere (λ e d. q d)

  -- the vertices of class l
  abbrev from : ℕ
  from = get_or starts l 0

  abbrev to : ℕ
  to = get_or starts (l + 1) 0

  to-side : to ≤ side
  to-side = omega (arith, start_most t.arranged.numbered (l + 1) (omega (arith, column_class)), f.few)

  flags-sized : (b : Bool) → length (cond b (mark_full k from to full) full) ≡ length full
  flags-sized true = marked_length k from to full t.counted.scannable.flags row_class to-side ∙ sym t.counted.scannable.flags
  flags-sized false = refl

  flags-binary : (b : Bool) (p : ℕ) → get_or (cond b (mark_full k from to full) full) p 0 ≤ 1
  flags-binary true p = marked_binary k from to full t.counted.scannable.flags row_class to-side t.counted.scannable.flag p
  flags-binary false p = t.counted.scannable.flag p

  -- a flag of another class than k stays
  flags-other : (b : Bool) (i x : ℕ) → x < n → i ≢ k → get_or (cond b (mark_full k from to full) full) (i * side + x) 0 ≡ get_or full (i * side + x) 0
  flags-other true i x xn d =
      marked_outside k from to full t.counted.scannable.flags row_class to-side i x (omega (arith, f.few)) (λ e a b. d e)
  flags-other false i x xn d = refl

  -- what the flags say: all places are counted
  abbrev flag : List ℕ → ℕ → ℕ → ℕ
  flag h i x = bit (ltb (cell_place i (class_from starts x)) cells_size && eqb (cell_has n starts h i (class_from starts x)) (matrix_of cells i (class_from starts x)))

  flag_is : (h : List ℕ) (i x : ℕ) → i < most_classes → x < n → flag h i x ≡ bit (eqb (cell_has n starts h i (class_from starts x)) (matrix_of cells i (class_from starts x)))
  flag_is h i x id xn = rw (lt-ltb (cell_place i (class_from starts x)) cells_size (omega (arith, f.target.classed x xn)))

  flagged-after : (b : Bool) → is_full_now cells k l have ≡ b → (i x : ℕ) → i < most_classes → x < n → i ≤ class_from starts x
      → get_or (cond b (mark_full k from to full) full) (i * side + x) 0 ≡ flag g' i x
  flagged-after b eb i x id xn ix = go b eb (ℕ_discrete i k) (ℕ_discrete (class_from starts x) l)
    where
      was : get_or full (i * side + x) 0 ≡ bit (eqb (cell_has n starts g i (class_from starts x)) (matrix_of cells i (class_from starts x)))
      was = t.counted.flagged i x id xn ix ∙ flag_is g i x id xn

      -- another cell
      same : (i ≡ k → class_from starts x ≡ l → ⊥) → get_or full (i * side + x) 0 ≡ flag g' i x
      same h =
          was
          ∙ ap (λ (c : ℕ). bit (eqb c (matrix_of cells i (class_from starts x)))) (sym (others i (class_from starts x) ix h))
          ∙ sym (flag_is g' i x id xn)

      elsewhere : (b : Bool) → (i ≡ k → class_from starts x ≡ l → ⊥) → get_or (cond b (mark_full k from to full) full) (i * side + x) 0 ≡ flag g' i x
      elsewhere true h =
          marked_outside k from to full t.counted.scannable.flags row_class to-side i x (omega (arith, f.few))
          (λ e a b. h e (class_inside t.arranged.numbered l x column_class a b))
          ∙ same h
      elsewhere false h = same h

      go : (b : Bool) → is_full_now cells k l have ≡ b → Dec (i ≡ k) → Dec (class_from starts x ≡ l)
          → get_or (cond b (mark_full k from to full) full) (i * side + x) 0 ≡ flag g' i x
      go b e (no p) q = elsewhere b (λ c d. p c)
      go b e (yes p) (no q) = elsewhere b (λ c d. q d)
      go true e (yes p) (yes q) =
          let between = class_only t.arranged.numbered l x column_class xn q in
          rw (flag_is g' i x id xn, q, p, ← has-now, e)
          (marked_inside k from to full t.counted.scannable.flags row_class to-side x between.0 between.1)
      go false e (yes p) (yes q) =
          rw (flag_is g' i x id xn)
          (was ∙ rw (p, q, ← has-now, e) (ap bit (ne_eqb (cell_has n starts g k l) (matrix_of cells k l) (λ d. omega (arith, d, pair.short)))))

  -- the bytes are bytes to scan, whether or not the cell is full now
  pub scannable_after : (b : Bool) → Scannable n g' (cond b (mark_full k from to full) full)
  scannable_after b =
      record {
        sized = st.filling.sized;
        flags = flags-sized b ∙ t.counted.scannable.flags;
        few = t.counted.scannable.few;
        binary = st.filling.partial.simple.binary;
        flag = flags-binary b;
      }

  counted-after : Counted cells_size n cells starts g' (have_after k l have) (flags_after cells starts k l have full)
  counted-after =
      record {
        sized = length-set have (cell_place k l) (has_now k l have) ∙ t.counted.sized;
        has = λ i j ij jd p. has-after i j ij jd;
        scannable = scannable_after (is_full_now cells k l have);
        flagged = λ i x id xn ix. flagged-after (is_full_now cells k l have) refl i x id xn ix;
      }

  -- a row that no moved edge stands in, neither v nor of class k where the cell is full now, has the free columns that it had
  module _ (z : ℕ) (zn : z < n) (apart : Each (RowApart z) (join_switches n (class_from starts) g v w)) (zv : z ≢ v) where
    above : (x : ℕ) → z < x → x < n → edge g' z x ≡ edge g z x
    above x zx xn = join_apart joinable vw z x zx xn zv apart

    still : (b : Bool) → (b ≡ true → get_or classes z 0 ≢ k) → Right n classes g' (cond b (mark_full k from to full) full) z pairs
    still true other =
        t.rows z zn
        ∙ sym (free_same n (get_or classes z 0) z g g' full (mark_full k from to full)
        (λ x zx xn. (above x zx xn, flags-other true (get_or classes z 0) x xn (other refl))))
    still false other = t.rows z zn ∙ sym (free_same n (get_or classes z 0) z g g' full full (λ x zx xn. (above x zx xn, refl)))

  abbrev moved : Switches
  moved = join_switches n (class_from starts) g v w

  -- the rows of class k
  abbrev low : ℕ
  low = get_or starts k 0

  abbrev high : ℕ
  high = get_or starts (k + 1) 0

  in-class : (low ≤ v) × (v < high)
  in-class = class_only t.arranged.numbered k v row_class pair.first refl

  high-most : high ≤ n
  high-most = start_most t.arranged.numbered (k + 1) (omega (arith, row_class))

  in_pairs : (z : ℕ) → z < n → z < length pairs
  in_pairs z zn = omega (arith, t.sized, f.few)

  rows_after : (b : Bool) (z : ℕ) → z < n
      → Right n classes g' (cond b (mark_full k from to full) full) z
      (pairs_after n starts classes g' (cond b (mark_full k from to full) full) v k b moved pairs)
  rows_after true z zn =
      switches_right n classes g' (mark_full k from to full) z moved (refresh_range n classes g' (mark_full k from to full) low high pairs)
      (omega (arith, in_pairs z zn, range_length n classes g' (mark_full k from to full) low high pairs))
      (λ apart. range_right n classes g' (mark_full k from to full) z low high pairs (in_pairs z zn)
      (λ outside. still z zn apart (λ e. outside (omega (arith, in-class, e)) (omega (arith, in-class, e))) true
      (λ e c. let is = class_only t.arranged.numbered k z row_class zn (sym (t.classed z zn) ∙ c) in outside is.0 is.1)))
  rows_after false z zn =
      switches_right n classes g' full z moved (refresh_row n classes g' full v pairs)
      (omega (arith, in_pairs z zn, length-set pairs v (free_to g' full (get_or classes v 0) v n)))
      (λ apart. row_right n classes g' full z v pairs (in_pairs z zn)
      (λ zv. still z zn apart zv false (λ e. absurd (false≢true e))))

  behind-after : (b : Bool) (z : ℕ) → n ≤ z
      → get_or (pairs_after n starts classes g' (cond b (mark_full k from to full) full) v k b moved pairs) z 0 ≡ 0
  behind-after true z h =
      switches_else n classes g' (mark_full k from to full) z moved (refresh_range n classes g' (mark_full k from to full) low high pairs)
      (behind_switch n z h moved (switches_below joinable))
      ∙ range_else n classes g' (mark_full k from to full) z low high pairs (omega (arith, high-most))
      ∙ t.behind z h
  behind-after false z h =
      switches_else n classes g' full z moved (refresh_row n classes g' full v pairs) (behind_switch n z h moved (switches_below joinable))
      ∙ row_else n classes g' full z v pairs (λ e. omega (arith, pair.first))
      ∙ t.behind z h

  sized-after : (b : Bool) → length (pairs_after n starts classes g' (cond b (mark_full k from to full) full) v k b moved pairs) ≡ side
  sized-after true =
      switches_length n classes g' (mark_full k from to full) moved (refresh_range n classes g' (mark_full k from to full) low high pairs)
      ∙ range_length n classes g' (mark_full k from to full) low high pairs
      ∙ t.sized
  sized-after false =
      switches_length n classes g' full moved (refresh_row n classes g' full v pairs)
      ∙ length-set pairs v (free_to g' full (get_or classes v 0) v n)
      ∙ t.sized

  -- everything is counted after the join
  pub tracked_after : {pairs' : List ℕ}
      → pairs' ≡ pairs_after n starts classes g' (flags_after cells starts k l have full) v k (is_full_now cells k l have) moved pairs
      → Tracked n cells starts classes g' (have_after k l have) (flags_after cells starts k l have full) pairs'
  tracked_after e =
      record {
        arranged = t.arranged;
        classed = t.classed;
        counted = counted-after;
        sized = rw e (sized-after (is_full_now cells k l have));
        rows = λ z zn. rw e (rows_after (is_full_now cells k l have) z zn);
        behind = λ z h. rw e (behind-after (is_full_now cells k l have) z h);
      }
