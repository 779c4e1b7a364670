-- What the code of adding has in its arrays is what the definitions speak of: the classes of the two ends, their cell, the join; and the loan
-- behind its checks.
-- Assumes nothing.
use mathlib.Core.Path.{◌≡◌, refl, sym, ap, ap₂, ◌∙◌}
use mathlib.Core.Bool.{Bool, true}
use mathlib.Core.List.{List}
use Prim.Native.Nat.{ℕ, ◌+◌, ◌≤◌, ◌<◌}
use native.Mathlib.Omega.{arith}
use lib.Dec.{ltb}
use lib.ListN.{length, get_or}
use borrow.Author.Tests.{ltb-true}
use Rattle.answer.specs.Refusals.{Verdict, Go, unless_stopped}
use Rattle.answer.specs.declared.AddAnswer.{AddAnswer}
use Rattle.answer.specs.declared.AddAnswer.TheVariants.{Added, Refused}
use Rattle.graph.specs.Graph.{jdm, DegreeTable}
use Rattle.graph.specs.Target.{is_short}
use Rattle.graph.specs.Numbering.{total}
use Rattle.graph.specs.Tests.{most_classes, vertices, vertex_class}
use Rattle.layout.specs.Layout.{most_vertices}
use Rattle.layout.specs.Inner.Arrays.{count_in, table_in, Counts}
use Rattle.layout.proofs.Counted.{counted-total}
use Rattle.journal.specs.Journal.{table_of}
use Rattle.adjacency.specs.Adjacency.{adjacency_size, edge}
use Rattle.adjacency.specs.Inner.Degrees.{degrees_of}
use Rattle.state.specs.State.{with_matrix}
use Rattle.loan.specs.Loan.{Loan}
use Rattle.loan.specs.Checks.{laid_verdict}
use Rattle.classes.specs.Inner.Block.{starts_of, Numbered, class_from, block_sum, BlockOf}
use Rattle.join_bytes.specs.Join.{join_bytes, join_switches}
use Rattle.join_bytes.specs.Inner.Joinable.{Joinable}
use Rattle.switching.specs.Inner.Work.{Placed}
use Rattle.switching.specs.declared.End.{End}
use Rattle.classes.proofs.Blocks.{start_rises, start_most, class_below, class_only, block-cell, table_numbered, table_classes}
use Rattle.add_edge.specs.Add.{add_laid, add_answer, after_add, add_after}
use Rattle.add_edge.specs.Inner.Work.{Unlinked, end_in, added_adjacency}

pub starts_few : (c : List ℕ) {counts : List ℕ} → Counts c counts → vertices (table_in c (count_in counts 0)) ≤ most_vertices
    → total most_classes (count_in counts) ≤ most_vertices
starts_few c {counts} ed few = rw (counted-total c counts ed) few

-- What adding has at hand: c, the table's cells; counts, the vertices of each class; s, where the classes start; x and y, the ends of the edge.
pub record Ends (c counts s g degrees : List ℕ) (v w : ℕ) (x y : End) : Type 0 where
  pub unlinked : Unlinked (table_in c (count_in counts 0)) g degrees v w
  pub counted : Counts c counts
  pub started : s ≡ starts_of counts
  pub first : x ≡ end_in s v
  pub second : y ≡ end_in s w

pub ends : (c : List ℕ) {counts s g degrees : List ℕ} {v w : ℕ} {x y : End} → Unlinked (table_in c (count_in counts 0)) g degrees v w → Counts c counts
    → s ≡ starts_of counts → x ≡ end_in s v → y ≡ end_in s w → Ends c counts s g degrees v w x y
ends c u ed es ex ey = record { unlinked = u; counted = ed; started = es; first = ex; second = ey }

module _ {c counts s g degrees : List ℕ} {v w : ℕ} {x y : End} (e : Ends c counts s g degrees v w x y) where
  abbrev t : DegreeTable
  t = table_in c (count_in counts 0)

  abbrev T : ℕ → ℕ → ℕ
  T = t.cells

  -- the cell of v and w is short
  abbrev short : Bool
  short = is_short (vertices t) (vertex_class t) T (edge g) (vertex_class t v) (vertex_class t w)

  numbered : Numbered (vertices t) s
  numbered = table_numbered c e.counted e.started

  -- the classes by the starts are those of the table
  same-classes : class_from s ≡ vertex_class t
  same-classes = table_classes c e.counted e.started

  -- an end's whole class is searched
  placed : (i : ℕ) → i < vertices t → (o : ℕ) → Placed (vertices t) s g (end_in s i) o
  placed i low o =
      let k = class_from s i in
      let few = class_below numbered i low in
      record {
        numbered = numbered;
        class = refl;
        after = omega arith;
        before = start_rises numbered k (k + 1) (omega arith) (omega (arith, few));
        saturated = λ j l h d. absurd (omega (arith, class_only numbered k j few (omega (arith, start_most numbered k (omega (arith, few)))) h));
      }

  -- the block of two classes
  block_of : (k l : ℕ) → k < most_classes → l < most_classes → BlockOf g (get_or s k 0) (get_or s (k + 1) 0) (get_or s l 0) (get_or s (l + 1) 0)
  block_of k l kd ld =
      record {
        n = vertices t;
        few = e.unlinked.few;
        simple = e.unlinked.partial.simple;
        rows = (start_rises numbered k (k + 1) (omega arith) (omega arith), start_most numbered (k + 1) (omega arith));
        columns = (start_rises numbered l (l + 1) (omega arith) (omega arith), start_most numbered (l + 1) (omega arith));
      }

  pub first_class : x.class ≡ vertex_class t v
  first_class = ap (λ (a : End). a.class) e.first ∙ ap (λ (cls : ℕ → ℕ). cls v) same-classes

  pub second_class : y.class ≡ vertex_class t w
  second_class = ap (λ (a : End). a.class) e.second ∙ ap (λ (cls : ℕ → ℕ). cls w) same-classes

  pub cell_block : (length g ≡ adjacency_size) × (x.class < most_classes) × (y.class < most_classes)
      × BlockOf g (get_or s x.class 0) (get_or s (x.class + 1) 0) (get_or s y.class 0) (get_or s (y.class + 1) 0)
  cell_block =
      let kd = class_below numbered v e.unlinked.first in
      let ld = class_below numbered w e.unlinked.second in
      rw (e.first, e.second) (e.unlinked.sized, kd, ld, block_of (class_from s v) (class_from s w) kd ld)

  pub short_read : {b : Bool}
      → b ≡ ltb (block_sum (edge g) (get_or s x.class 0) (get_or s (x.class + 1) 0) (get_or s y.class 0) (get_or s (y.class + 1) 0)) (T x.class y.class)
      → short ≡ b
  short_read h =
      let k = x.class in
      let l = y.class in
      let few = cell_block in
      sym (h
      ∙ ap (λ (i : ℕ). ltb i (T k l))
      (block-cell numbered (edge g) k l few.1 few.2 ∙ ap (λ (cls : ℕ → ℕ). jdm (vertices t) cls (edge g) k l) same-classes)
      ∙ ap₂ (is_short (vertices t) (vertex_class t) T (edge g)) first_class second_class)

  -- joining by the starts is joining by the layout
  module _ {n : ℕ} (en : n ≡ vertices t) where
    pub join-ready : short ≡ true → Joinable n (class_from s) g x.at y.at × (degrees ≡ degrees_of n g) × Placed n s g x y.at
        × Placed n s g y x.at
    join-ready h = rw (e.first, e.second, en) (joinable, u.degrees_right, placed v u.first w, placed w u.second v)
      where
        u : Unlinked t g degrees v w
        u = e.unlinked

        joinable : Joinable (vertices t) (class_from s) g v w
        joinable =
            rw same-classes
            (record {
              table = T;
              sized = u.sized;
              few = u.few;
              target = u.target;
              partial = u.partial;
              pair =
                  record {
                    first = u.first;
                    second = u.second;
                    distinct = u.distinct;
                    unlinked = u.unlinked;
                    short = ltb-true (jdm (vertices t) (vertex_class t) (edge g) (vertex_class t v) (vertex_class t w)) (T (vertex_class t v) (vertex_class t w)) h;
                  };
            })

    pub join-read : join_bytes n (class_from s) g x.at y.at ≡ join_bytes (vertices t) (vertex_class t) g v w
    join-read = rw (e.first, e.second, en) (ap (λ (cls : ℕ → ℕ). join_bytes (vertices t) cls g v w) same-classes)

    pub switches_read : join_switches n (class_from s) g x.at y.at ≡ join_switches (vertices t) (vertex_class t) g v w
    switches_read = rw (e.first, e.second, en) (ap (λ (cls : ℕ → ℕ). join_switches (vertices t) cls g v w) same-classes)

-- Behind the checks 1, 2, 3, on a matrix g that is still the loan's: what is answered, and what is left.
module _ (b : Loan) (v w : ℕ) (go : laid_verdict b ≡ Go) {g g' : List ℕ} {r a : AddAnswer} (same : g ≡ b.state.adjacency)
    (said : r ≡ add_laid (with_matrix b.state g) v w)
    (left : g' ≡ added_adjacency (add_laid (with_matrix b.state g) v w) (table_of b.state.journal) g v w) (told : r ≡ a) where
  on-state : add_laid b.state v w ≡ a
  on-state = ap (λ (h : List ℕ). add_laid (with_matrix b.state h) v w) (sym same) ∙ sym said ∙ told

  answered : add_answer b v w ≡ a
  answered = ap (λ (q : Verdict). unless_stopped q Refused (add_laid b.state v w)) go ∙ on-state

  matrix-of : (x : AddAnswer) → added_adjacency x (table_of b.state.journal) b.state.adjacency v w ≡ (after_add x b v w).state.adjacency
  matrix-of (Added y) = refl
  matrix-of (Refused q) = refl

  pub answer_is : a ≡ add_answer b v w
  answer_is = sym answered

  pub matrix_is : g' ≡ (add_after b v w).state.adjacency
  matrix_is =
      left
      ∙ ap (λ (h : List ℕ). added_adjacency (add_laid (with_matrix b.state h) v w) (table_of b.state.journal) h v w) same
      ∙ ap (λ (x : AddAnswer). added_adjacency x (table_of b.state.journal) b.state.adjacency v w) on-state
      ∙ matrix-of a
      ∙ ap (λ (x : AddAnswer). (after_add x b v w).state.adjacency) answer_is

  pub log_is : (after_add a b v w).log ≡ (add_after b v w).log
  log_is = ap (λ (x : AddAnswer). (after_add x b v w).log) answer_is
