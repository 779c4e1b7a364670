-- A table is the joint degree matrix of a simple graph of some size if and only if it passes the tests 9, 10 and 11.
-- Assumes nothing.
use mathlib.Core.Path.{◌≡◌, sym, ap, ◌∙◌}
use mathlib.Core.Bool.{true}
use mathlib.Core.Logic.{⊎_elim}
use Prim.Native.Nat.{ℕ, ◌+◌, ◌*◌, ◌≤◌, ◌<◌}
use native.Mathlib.Nat.{eq-zero-or-pos, add-zero, zero-mul, div-add-mod, mul-mod_left, mul-div_cancel}
use native.Mathlib.Decide.{dec_lt}
use native.Mathlib.Omega.{arith}
use Rattle.finite.specs.Range.{δ}
use Rattle.finite.proofs.Delta.{δ-move}
use Rattle.finite.proofs.Sum.{sum_to-cong, sum_to-const, sum_to-scale_right, sum_to-mono, sum_to-split, sum_to-zero}
use Rattle.graph.specs.Graph.{Graph, Simple, degree, size, jdm, own_jdm, isolated, DegreeTable}
use Rattle.graph.specs.Target.{cell_most, Target, Partial}
use Rattle.graph.specs.Tests.{most_degree, most_classes, row_sum, count, class_count, vertices, vertex_class, passes, Table, class_degree, Passed}
use Rattle.graph.specs.Theorems.{Realized, Realizability, Necessary}
use Rattle.graph.proofs.Matrix.{jdm-none, cell_most-cong}
use Rattle.graph.proofs.Necessary.{necessary_always}
use Rattle.graph.proofs.Complete.{complete-is_exact, complete-has_target}
use Rattle.graph.proofs.Counts.{count_at, vertex-class, class_size}
use Rattle.graph.proofs.Existence.{target_reached}
use Rattle.graph.proofs.Passes.{passes-passed}

module _ (T : ℕ → ℕ → ℕ) (table : Table T) where
  none_of_0 : (k l : ℕ) → k ≡ 0 → T k l ≡ 0
  none_of_0 k l e = rw e (table.none_of_0 l)

-- A table that passes is a target, its vertices numbered by degree, however many of them are isolated.
module _ (t : DegreeTable) (table : Table t.cells) (passed : Passed t.cells) where
  pub table_target : Target (vertices t) most_classes (vertex_class t) class_degree t.cells
  table_target =
      record {
        classed = vertex-class t;
        symmetric = λ k l p q. table.symmetric k l;
        even = λ k p. ⊎_elim (λ e. rw (none_of_0 t.cells table k k e)) (λ a. passed.even k a p) (eq-zero-or-pos k);
        rows = λ k p. rw (class_size t k p) (⊎_elim (row-0 k) (λ a. row k a p) (eq-zero-or-pos k));
        fits = λ k l p q.
            ⊎_elim (λ e. omega (arith, none_of_0 t.cells table k l e))
            (λ a. ⊎_elim (λ e. omega (arith, table.symmetric k l, none_of_0 t.cells table l k e)) (λ b. fit k l a p b q) (eq-zero-or-pos l))
            (eq-zero-or-pos k);
      }
    where
      row-0 : (k : ℕ) → k ≡ 0 → row_sum t.cells k ≡ k * class_count t k
      row-0 k e = rw (sum_to-zero most_classes (t.cells k) (λ l q. none_of_0 t.cells table k l e), e) (sym (zero-mul (class_count t 0)))

      row : (k : ℕ) → 0 < k → k < most_classes → row_sum t.cells k ≡ k * class_count t k
      row k a p =
          rw (count_at t k a)
          (sym (rw (passed.rows k a p, add-zero (k * count t.cells k)) at (div-add-mod (row_sum t.cells k) k)))

      sized : (k : ℕ) → 0 < k → k < most_classes → size (vertices t) (vertex_class t) k ≡ count t.cells k
      sized k a p = class_size t k p ∙ count_at t k a

      fit : (k l : ℕ) → 0 < k → k < most_classes → 0 < l → l < most_classes → t.cells k l ≤ cell_most (size (vertices t) (vertex_class t)) k l
      fit k l a p b q =
          rw (cell_most-cong (size (vertices t) (vertex_class t)) (count t.cells) k l (sized k a p) (sized l b q)) (passed.fits k l a p b q)

  module _ (E : Graph) (part : Partial (vertices t) most_classes (vertex_class t) class_degree t.cells E)
      (full : (k l : ℕ) → k < most_classes → l < most_classes → jdm (vertices t) (vertex_class t) E k l ≡ t.cells k l) where
    -- each vertex has the degree laid out for it
    own : (v : ℕ) → v < vertices t → degree (vertices t) E v ≡ vertex_class t v
    own = complete-is_exact (vertices t) most_classes (vertex_class t) class_degree t.cells E table_target part full

    -- so none has a degree past the table's
    low : (v : ℕ) → v < vertices t → degree (vertices t) E v < most_classes
    low v p = rw (own v p) (vertex-class t v p)

    past : (k l : ℕ) → most_degree < k → own_jdm (vertices t) E k l ≡ 0
    past k l a = jdm-none (vertices t) (degree (vertices t) E) E k l (λ v p e. absurd (omega (arith, low v p)))

    -- in every cell, those of degree 0 and above 40 included
    pub has_table : (k l : ℕ) → own_jdm (vertices t) E k l ≡ t.cells k l
    has_table k l = go (dec_lt k most_classes) (dec_lt l most_classes)
      where
        go : Dec (k < most_classes) → Dec (l < most_classes) → own_jdm (vertices t) E k l ≡ t.cells k l
        go (yes p) (yes q) = complete-has_target (vertices t) most_classes (vertex_class t) t.cells E table_target part full k l p q
        go (yes p) (no q) =
            (necessary_always (vertices t) most_classes (degree (vertices t) E) E part.simple low).symmetric k l
            ∙ past l k (omega arith)
            ∙ sym (table.none_above l k (omega arith))
            ∙ table.symmetric l k
        go (no p) d = past k l (omega arith) ∙ sym (table.none_above k l (omega arith))

    -- and as many vertices as the table says have no edge
    pub has_isolated : isolated (vertices t) E ≡ t.isolated
    has_isolated =
        sum_to-cong (vertices t) (λ v. δ (degree (vertices t) E v) 0) (λ v. δ (vertex_class t v) 0) (λ v p. rw (own v p))
        ∙ class_size t 0 (omega arith)

module _ (T : ℕ → ℕ → ℕ) (table : Table T) where
  -- The table of a graph passes.
  module _ (n : ℕ) (E : Graph) (simple : Simple n E) (same : (k l : ℕ) → own_jdm n E k l ≡ T k l) where
    -- a number past all degrees of the graph and of the table
    abbrev past_all : ℕ
    past_all = most_classes + n

    degree-below : (v : ℕ) → v < n → degree n E v < past_all
    degree-below v p = omega (arith, sum_to-mono n (E v) (λ w. 1) (λ w q. simple.binary v w p q), sum_to-const 1 n)

    necessary : Necessary n past_all (degree n E) E
    necessary = necessary_always n past_all (degree n E) E simple degree-below

    row : (k : ℕ) → row_sum T k ≡ size n (degree n E) k * k
    row k =
        sym (sum_to-split most_classes n (T k) ∙ ap (λ (r : ℕ). row_sum T k + r) (sum_to-zero n (λ i. T k (most_classes + i)) above) ∙ add-zero (row_sum T k))
        ∙ sym (sum_to-cong past_all (own_jdm n E k) (T k) (λ l q. same k l))
        ∙ necessary.rows k
        ∙ sum_to-cong n (λ v. δ (degree n E v) k * degree n E v) (λ v. δ (degree n E v) k * k) (λ v p. δ-move (λ d. d) (degree n E v) k)
        ∙ sum_to-scale_right k n (λ v. δ (degree n E v) k)
      where
        above : (i : ℕ) → i < n → T k (most_classes + i) ≡ 0
        above i q = table.symmetric k (most_classes + i) ∙ table.none_above (most_classes + i) k (omega arith)

    counted : (k : ℕ) → 0 < k → size n (degree n E) k ≡ count T k
    counted k a = rw (row k) (sym (mul-div_cancel (size n (degree n E) k) a))

    graph-passed : Passed T
    graph-passed =
        record {
          even = λ k a p. rw (← (same k k)) (necessary.even k);
          rows = λ k a p. rw (row k) (mul-mod_left (size n (degree n E) k) k);
          fits = λ k l a p b q.
              rw (← (same k l), ← (cell_most-cong (size n (degree n E)) (count T) k l (counted k a) (counted l b))) (necessary.fits k l);
        }

pub realizability : Realizability
realizability T table = (forth, back)
  where
    -- with no isolated vertices
    alone : DegreeTable
    alone = record { cells = T; isolated = 0 }

    forth : passes T ≡ true → Realized T
    forth h =
        let passed = (passes-passed T).0 h in
        let r = target_reached (vertices alone) most_classes (vertex_class alone) class_degree T (table_target alone table passed) in
        (vertices alone, r.0, r.1.simple, has_table alone table passed r.0 r.1 r.2)

    back : Realized T → passes T ≡ true
    back r = (passes-passed T).1 (graph-passed T table r.0 r.1 r.2 r.3)
