-- Where the classes start, that the ones of a block between two starts are a cell of the joint degree matrix, and that those of a
-- block on the diagonal are twice the ones below it.
-- Assumes nothing.
use mathlib.Core.Path.{◌≡◌, refl, sym, ap, ap₂, fun_ext, ◌∙◌}
use mathlib.Core.List.{List}
use Prim.Native.Nat.{ℕ, ◌+◌, ◌-◌, ◌*◌, ◌≤◌, ◌<◌}
use native.Mathlib.Decide.{dec_lt}
use native.Mathlib.Omega.{arith}
use lib.Dec.{ltb}
use lib.ListN.{length, get_or, replicate, length-replicate}
use Rattle.finite.specs.Range.{sum_to}
use Rattle.finite.proofs.Fold.{fill_to-at, fill_to-length}
use Rattle.finite.proofs.Lowest.{lowest-cong}
use Rattle.finite.proofs.Sum.{sum_to-more, sum_to-le, sum_to-triangle}
use Rattle.graph.specs.Graph.{Graph, jdm}
use Rattle.graph.specs.Numbering.{total, class_of}
use Rattle.graph.specs.Tests.{most_classes, vertices, vertex_class}
use Rattle.graph.proofs.Numbering.{class_of-below, class_of-range}
use Rattle.graph.proofs.Ranges.{jdm-block}
use Rattle.layout.specs.Inner.Arrays.{count_in, table_in, Counts}
use Rattle.layout.proofs.Counted.{counted, counted-total}
use Rattle.adjacency.specs.Adjacency.{edge}
use Rattle.classes.specs.Inner.Block.{starts_of, Numbered, class_from, ClassRange, block_sum, triangle_sum, BlockOf}

module _ (counts : List ℕ) where
  pub start_at : (k : ℕ) → k ≤ most_classes → get_or (starts_of counts) k 0 ≡ sum_to k (count_in counts)
  start_at k h = fill_to-at (λ k. sum_to k (count_in counts)) (replicate (most_classes + 1) 0) (most_classes + 1) k (rw length-replicate (omega arith)) (omega arith)

  -- the classes by their starts are those by their counts
  class-counted : class_from (starts_of counts) ≡ class_of most_classes (count_in counts)
  class-counted =
      fun_ext (λ v. lowest-cong 0 most_classes (λ k. ltb v (get_or (starts_of counts) (k + 1) 0)) (λ k. ltb v (sum_to (k + 1) (count_in counts)))
      (λ k z l. ap (ltb v) (start_at (k + 1) (omega arith))))

  run : (k : ℕ) → sum_to (k + 1) (count_in counts) - sum_to k (count_in counts) ≡ count_in counts k
  run k = omega (arith, sum_to-more (count_in counts) k)

  -- `E` is any graph on these vertices
  cell_block : (E : Graph) (k l : ℕ) → k < most_classes → l < most_classes
      → block_sum E (get_or (starts_of counts) k 0) (get_or (starts_of counts) (k + 1) 0) (get_or (starts_of counts) l 0) (get_or (starts_of counts) (l + 1) 0)
      ≡ jdm (total most_classes (count_in counts)) (class_of most_classes (count_in counts)) E k l
  cell_block E k l kd ld =
      rw (
        start_at k (omega arith),
        start_at (k + 1) (omega arith),
        start_at l (omega arith),
        start_at (l + 1) (omega arith),
        run k,
        run l,
      )
      (sym (jdm-block most_classes (count_in counts) E k l kd ld))

module _ {n : ℕ} {starts : List ℕ} (m : Numbered n starts) where
  pub starts_length : length starts ≡ most_classes + 1
  starts_length = ap length m.started ∙ fill_to-length (λ k. sum_to k (count_in m.counts)) (replicate (most_classes + 1) 0) (most_classes + 1) ∙ length-replicate {A = ℕ} (most_classes + 1) 0

  -- the starts rise, up to the number of vertices
  pub start_rises : (k l : ℕ) → k ≤ l → l ≤ most_classes → get_or starts k 0 ≤ get_or starts l 0
  start_rises k l h i =
      rw (m.started, start_at m.counts k (omega arith), start_at m.counts l i) (sum_to-le k l (count_in m.counts) h)

  pub start_most : (k : ℕ) → k ≤ most_classes → get_or starts k 0 ≤ n
  start_most k h = rw (m.started, start_at m.counts k h, ← m.all) (sum_to-le k most_classes (count_in m.counts) h)

  -- each vertex has a class
  pub class_below : (v : ℕ) → v < n → class_from starts v < most_classes
  class_below v h =
      rw (m.started, ap (λ (cls : ℕ → ℕ). cls v) (class-counted m.counts))
      (class_of-below most_classes (count_in m.counts) v (omega (arith, m.all)))

  -- the vertices of class k are those between its start and the next
  pub class_inside : (k v : ℕ) → k < most_classes → get_or starts k 0 ≤ v → v < get_or starts (k + 1) 0 → class_from starts v ≡ k
  class_inside k v kd f t =
      ap (λ (s : List ℕ). class_from s v) m.started
      ∙ ap (λ (cls : ℕ → ℕ). cls v) (class-counted m.counts)
      ∙ (class_of-range most_classes (count_in m.counts) v k (omega (arith, m.all, start_most (k + 1) (omega arith)))).1 (
        rw (m.started, start_at m.counts k (omega arith)) at f,
        rw (m.started, start_at m.counts (k + 1) (omega arith)) at t,
      )

  pub class_only : (k v : ℕ) → k < most_classes → v < n → class_from starts v ≡ k → (get_or starts k 0 ≤ v) × (v < get_or starts (k + 1) 0)
  class_only k v kd vn e =
      rw (m.started, start_at m.counts k (omega arith), start_at m.counts (k + 1) (omega arith))
      ((class_of-range most_classes (count_in m.counts) v k (omega (arith, m.all))).0
      (sym (ap (λ (cls : ℕ → ℕ). cls v) (class-counted m.counts)) ∙ sym (ap (λ (s : List ℕ). class_from s v) m.started) ∙ e))

  -- the vertices of class k
  pub class_range : (k : ℕ) → k < most_classes → ClassRange n (class_from starts) k (get_or starts k 0) (get_or starts (k + 1) 0)
  class_range k h =
      record {
        ordered = start_rises k (k + 1) (omega arith) (omega arith);
        within = start_most (k + 1) (omega arith);
        inside = λ v f t. class_inside k v h f t;
        only = λ v vn e. class_only k v h vn e;
      }

  -- classes rise with the vertices
  pub class_rises : (v w : ℕ) → v ≤ w → w < n → class_from starts v < most_classes → class_from starts w < most_classes → class_from starts v ≤ class_from starts w
  class_rises v w vw wn vd wd = go (dec_lt (class_from starts w) (class_from starts v))
    where
      go : Dec (class_from starts w < class_from starts v) → class_from starts v ≤ class_from starts w
      go (yes h) =
          let lower = class_only (class_from starts v) v vd (omega arith) refl in
          let higher = class_only (class_from starts w) w wd wn refl in
          absurd (omega (arith, lower.0, higher.1, start_rises (class_from starts w + 1) (class_from starts v) (omega arith) (omega (arith, vd))))
      go (no h) = omega arith

  -- the ones between the starts of two classes are a cell
  pub block-cell : (E : Graph) (k l : ℕ) → k < most_classes → l < most_classes
      → block_sum E (get_or starts k 0) (get_or starts (k + 1) 0) (get_or starts l 0) (get_or starts (l + 1) 0) ≡ jdm n (class_from starts) E k l
  block-cell E k l kd ld =
      rw m.started (cell_block m.counts E k l kd ld)
      ∙ ap₂ (λ (i : ℕ) (cls : ℕ → ℕ). jdm i cls E k l) m.all (sym (class-counted m.counts) ∙ sym (ap class_from m.started))

-- the starts of a table's classes
module _ (cells : List ℕ) {counts starts : List ℕ} (ed : Counts cells counts) (es : starts ≡ starts_of counts) where
  pub table_numbered : Numbered (vertices (table_in cells (count_in counts 0))) starts
  table_numbered = record { counts = counts; started = es; all = counted-total cells counts ed }

  pub table_classes : class_from starts ≡ vertex_class (table_in cells (count_in counts 0))
  table_classes = ap class_from es ∙ class-counted counts ∙ ap (class_of most_classes) (counted cells counts ed)

-- a block on the diagonal of a simple graph
module _ {g : List ℕ} {top bottom left right : ℕ} (b : BlockOf g top bottom left right) where
  pub on_diagonal : BlockOf g top bottom top bottom
  on_diagonal = record { n = b.n; few = b.few; simple = b.simple; rows = b.rows; columns = b.rows }

  pub diagonal_block : top ≡ left → bottom ≡ right → 2 * triangle_sum (edge g) top bottom ≡ block_sum (edge g) top bottom left right
  diagonal_block e f =
      rw (← e, ← f)
      (sym (sum_to-triangle (bottom - top) (λ i j. edge g (top + i) (top + j))
      (λ i j p q. b.simple.symmetric (top + i) (top + j) (omega (arith, b.rows)) (omega (arith, b.rows)))
      (λ i p. b.simple.loopless (top + i) (omega (arith, b.rows)))))
