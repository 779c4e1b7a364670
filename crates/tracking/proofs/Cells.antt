-- Counting the cells one after the other: what is known before a cell is known after it, where it was counted and flagged if it is full.
-- Assumes nothing.
use mathlib.Core.Path.{◌≡◌, refl, sym, ap, ◌∙◌}
use mathlib.Core.Bool.{Bool, ◌&&◌}
use mathlib.Core.List.{List}
use mathlib.Core.Logic.{◌≢◌}
use Prim.Native.Nat.{ℕ, ◌+◌, ◌*◌, ◌≤◌, ◌<◌}
use native.Mathlib.Decide.{ℕ_discrete, dec_lt}
use native.Mathlib.Omega.{arith}
use lib.Dec.{eqb, ltb}
use lib.ListN.{length, get_or, set, replicate, length-set, length-replicate}
use lib.Seq.{get_or-set_same, get_or-set_other}
use borrow.Author.Tests.{lt-ltb, le-ltb, ltb-true, eq-eqb, ne_eqb}
use Rattle.finite.specs.Range.{bit}
use Rattle.graph.specs.Tests.{most_classes}
use Rattle.slices.proofs.Zero.{get_or-zeros}
use Rattle.table.specs.Inner.Cells.{cells_size, matrix_of}
use Rattle.adjacency.specs.Adjacency.{side, edge}
use Rattle.classes.specs.Inner.Block.{class_from, block_sum, BlockOf}
use Rattle.classes.proofs.Blocks.{class_below, class_inside, class_only, block-cell, class_range}
use Rattle.open_pairs.specs.Inner.Rows.{flags_size, Scannable}
use Rattle.open_pairs.specs.Inner.Refresh.{mark_full}
use Rattle.open_pairs.proofs.Marked.{marked_length, marked_inside, marked_outside, marked_binary}
use Rattle.progress.specs.Inner.Work.{Arranged}
use Rattle.tracking.specs.Inner.Track.{cell_place, cell_has, CellsCountable, Counted}

-- a cell on or above the diagonal stands at its place
pub cell_at : (x : List ℕ) (k l : ℕ) → k ≤ l → l < most_classes → matrix_of x k l ≡ get_or x (cell_place k l) 0
cell_at x k l kl ld =
    rw (lt-ltb k most_classes (omega arith), lt-ltb l most_classes ld) (ap (λ (p : ℕ). get_or x p 0) (omega arith))

-- a place other than p is before the next one where it is before p
before_next : (q p : ℕ) → q ≢ p → ltb q (p + 1) ≡ ltb q p
before_next q p h = go (dec_lt q p)
  where
    go : Dec (q < p) → ltb q (p + 1) ≡ ltb q p
    go (yes l) = lt-ltb q (p + 1) (omega arith) ∙ sym (lt-ltb q p l)
    go (no l) = le-ltb q (p + 1) (omega (arith, h)) ∙ sym (le-ltb q p (omega arith))

-- the vertices of class l
module _ {n : ℕ} {starts : List ℕ} (a : Arranged n starts) (l : ℕ) (ld : l < most_classes) where
  pub class_bounds : (get_or starts l 0 ≤ get_or starts (l + 1) 0) × (get_or starts (l + 1) 0 ≤ n)
  class_bounds = let r = class_range a.numbered l ld in (r.ordered, r.within)

  -- flags marked for them stay flags
  module _ {g full : List ℕ} (s : Scannable n g full) (k : ℕ) (kd : k < most_classes) where
    few : get_or starts (l + 1) 0 ≤ side
    few = omega (arith, class_bounds.1, a.few)

    pub marked_scannable : Scannable n g (mark_full k (get_or starts l 0) (get_or starts (l + 1) 0) full)
    marked_scannable =
        record {
          sized = s.sized;
          flags = marked_length k (get_or starts l 0) (get_or starts (l + 1) 0) full s.flags kd few;
          few = s.few;
          binary = s.binary;
          flag = marked_binary k (get_or starts l 0) (get_or starts (l + 1) 0) full s.flags kd few s.flag;
        }

    -- one of class j and a vertex w is 1 where j is k and w of class l; the others are as they were
    pub marked_same : (w : ℕ) → w < n → class_from starts w ≡ l
        → get_or (mark_full k (get_or starts l 0) (get_or starts (l + 1) 0) full) (k * side + w) 0 ≡ 1
    marked_same w wn e =
        let b = class_only a.numbered l w ld wn e in
        marked_inside k (get_or starts l 0) (get_or starts (l + 1) 0) full s.flags kd few w b.0 b.1

    pub marked_other : (j w : ℕ) → w < n → (j ≡ k → class_from starts w ≢ l)
        → get_or (mark_full k (get_or starts l 0) (get_or starts (l + 1) 0) full) (j * side + w) 0 ≡ get_or full (j * side + w) 0
    marked_other j w wn o =
        marked_outside k (get_or starts l 0) (get_or starts (l + 1) 0) full s.flags kd few j w (omega (arith, a.few))
        (λ e f t. o e (class_inside a.numbered l w ld f t))

module _ {n : ℕ} {cells starts g : List ℕ} (c : CellsCountable n cells starts g) where
  -- none is counted
  pub counted_none : (have full : List ℕ) → have ≡ replicate cells_size 0 → full ≡ replicate flags_size 0 → Counted 0 n cells starts g have full
  counted_none have full eh ef =
      record {
        sized = ap length eh ∙ length-replicate {A = ℕ} cells_size 0;
        has = λ k l kl ld h. absurd (omega arith);
        scannable =
            record {
              sized = c.sized;
              flags = ap length ef ∙ length-replicate {A = ℕ} flags_size 0;
              few = c.arranged.few;
              binary = c.simple.binary;
              flag = λ p. omega (arith, zero p);
            };
        flagged = λ k w kd wn kl. zero (k * side + w) ∙ rw (le-ltb (cell_place k (class_from starts w)) 0 (omega arith));
      }
    where
      zero : (p : ℕ) → get_or full p 0 ≡ 0
      zero p = ap (λ (f : List ℕ). get_or f p 0) ef ∙ get_or-zeros flags_size p

  -- the same cells stand before p as before q
  pub counted_same : (p q : ℕ) {have full : List ℕ} → ((k l : ℕ) → k ≤ l → l < most_classes → ltb (cell_place k l) p ≡ ltb (cell_place k l) q)
      → Counted p n cells starts g have full → Counted q n cells starts g have full
  counted_same p q s d =
      record {
        sized = d.sized;
        has = λ k l kl ld h. d.has k l kl ld (ltb-true (cell_place k l) p (s k l kl ld ∙ lt-ltb (cell_place k l) q h));
        scannable = d.scannable;
        flagged = λ k w kd wn kl.
            d.flagged k w kd wn kl
            ∙ ap (λ (t : Bool). bit (t && eqb (cell_has n starts g k (class_from starts w)) (matrix_of cells k (class_from starts w))))
            (s k (class_from starts w) kl (class_below c.arranged.numbered w wn));
      }

  -- row k begins with its cell on the diagonal
  pub counted-row : (k : ℕ) {have full : List ℕ} → k < most_classes → Counted (cell_place k 0) n cells starts g have full → Counted (cell_place k k) n cells starts g have full
  counted-row k kd = counted_same (cell_place k 0) (cell_place k k) (λ i j ij jd. same i j ij jd (dec_lt (cell_place i j) (cell_place k 0)))
    where
      same : (i j : ℕ) → i ≤ j → j < most_classes → Dec (cell_place i j < cell_place k 0) → ltb (cell_place i j) (cell_place k 0) ≡ ltb (cell_place i j) (cell_place k k)
      same i j ij jd (yes h) = lt-ltb (cell_place i j) (cell_place k 0) h ∙ sym (lt-ltb (cell_place i j) (cell_place k k) (omega arith))
      same i j ij jd (no h) =
          le-ltb (cell_place i j) (cell_place k 0) (omega arith) ∙ sym (le-ltb (cell_place i j) (cell_place k k) (omega arith))

  -- cell (k, l)
  module _ (k l : ℕ) (kl : k ≤ l) (ld : l < most_classes) where
    pub cell_block : BlockOf g (get_or starts k 0) (get_or starts (k + 1) 0) (get_or starts l 0) (get_or starts (l + 1) 0)
    cell_block =
        record {
          n = n;
          few = c.arranged.few;
          simple = c.simple;
          rows = class_bounds c.arranged k (omega arith);
          columns = class_bounds c.arranged l ld;
        }

    pub cell_sum : block_sum (edge g) (get_or starts k 0) (get_or starts (k + 1) 0) (get_or starts l 0) (get_or starts (l + 1) 0) ≡ cell_has n starts g k l
    cell_sum = block-cell c.arranged.numbered (edge g) k l (omega arith) ld

    pub cell-most : cell_has n starts g k l ≤ matrix_of cells k l
    cell-most = c.within k l (omega arith) ld

    -- What it has is written down, and it is flagged where it is full: full' is what the flags are then.
    module _ {have full : List ℕ} (d : Counted (cell_place k l) n cells starts g have full) (m : ℕ) (e : m ≡ cell_has n starts g k l) where
      has-next : (i j : ℕ) → i ≤ j → j < most_classes → cell_place i j < cell_place k l + 1
          → get_or (set have (cell_place k l) m) (cell_place i j) 0 ≡ cell_has n starts g i j
      has-next i j ij jd h = go (ℕ_discrete (cell_place i j) (cell_place k l))
        where
          go : Dec (cell_place i j ≡ cell_place k l) → get_or (set have (cell_place k l) m) (cell_place i j) 0 ≡ cell_has n starts g i j
          go (yes q) =
              let ei : i ≡ k = omega arith in
              let ej : j ≡ l = omega arith in
              rw (ei, ej) (get_or-set_same have (cell_place k l) m 0 (omega (arith, d.sized)) ∙ e)
          go (no q) = get_or-set_other have (cell_place k l) (cell_place i j) m 0 q ∙ d.has i j ij jd (omega (arith, q))

      next : (full' : List ℕ) → Scannable n g full'
          → ((w : ℕ) → w < n → class_from starts w ≡ l → get_or full' (k * side + w) 0 ≡ bit (eqb (cell_has n starts g k l) (matrix_of cells k l)))
          → ((j w : ℕ) → w < n → (j ≡ k → class_from starts w ≢ l) → get_or full' (j * side + w) 0 ≡ get_or full (j * side + w) 0)
          → Counted (cell_place k l + 1) n cells starts g (set have (cell_place k l) m) full'
      next full' s here other =
          record {
            sized = length-set have (cell_place k l) m ∙ d.sized;
            has = has-next;
            scannable = s;
            flagged = λ j w jd wn jl. go j w jd wn jl (class_below c.arranged.numbered w wn) (ℕ_discrete (cell_place j (class_from starts w)) (cell_place k l));
          }
        where
          go : (j w : ℕ) → j < most_classes → w < n → j ≤ class_from starts w → class_from starts w < most_classes → Dec (cell_place j (class_from starts w) ≡ cell_place k l)
              → get_or full' (j * side + w) 0
              ≡ bit (ltb (cell_place j (class_from starts w)) (cell_place k l + 1) && eqb (cell_has n starts g j (class_from starts w)) (matrix_of cells j (class_from starts w)))
          go j w jd wn jl cd (yes q) =
              let ej : j ≡ k = omega arith in
              let ec : class_from starts w ≡ l = omega arith in
              rw (lt-ltb (cell_place j (class_from starts w)) (cell_place k l + 1) (omega arith), ec, ej) (here w wn ec)
          go j w jd wn jl cd (no q) =
              other j w wn (λ ej ec. q (omega arith))
              ∙ d.flagged j w jd wn jl
              ∙ ap (λ (t : Bool). bit (t && eqb (cell_has n starts g j (class_from starts w)) (matrix_of cells j (class_from starts w))))
              (sym (before_next (cell_place j (class_from starts w)) (cell_place k l) q))

      pub counted-full : m ≡ matrix_of cells k l
          → Counted (cell_place k l + 1) n cells starts g (set have (cell_place k l) m) (mark_full k (get_or starts l 0) (get_or starts (l + 1) 0) full)
      counted-full f =
          next (mark_full k (get_or starts l 0) (get_or starts (l + 1) 0) full)
          (marked_scannable c.arranged l ld d.scannable k (omega arith))
          (λ w wn ec. marked_same c.arranged l ld d.scannable k (omega arith) w wn ec
          ∙ sym (ap bit (eq-eqb (cell_has n starts g k l) (matrix_of cells k l) (sym e ∙ f))))
          (marked_other c.arranged l ld d.scannable k (omega arith))

      pub counted-short : m ≢ matrix_of cells k l → Counted (cell_place k l + 1) n cells starts g (set have (cell_place k l) m) full
      counted-short f =
          next full d.scannable
          (λ w wn ec. unflagged w wn ec ∙ sym (ap bit (ne_eqb (cell_has n starts g k l) (matrix_of cells k l) (λ q. f (e ∙ q)))))
          (λ j w wn o. refl)
        where
          unflagged : (w : ℕ) → w < n → class_from starts w ≡ l → get_or full (k * side + w) 0 ≡ 0
          unflagged w wn ec =
              d.flagged k w (omega arith) wn (omega arith)
              ∙ rw (le-ltb (cell_place k (class_from starts w)) (cell_place k l) (omega arith))
