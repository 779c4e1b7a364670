-- Completing cell by cell is completing (`run` of specs/Complete.antt): the lowest short cell only moves up, so that each cell gets the
-- joins it misses when its turn comes.
-- Assumes nothing.
use mathlib.Core.Path.{◌≡◌, ap, ◌∙◌}
use mathlib.Core.Bool.{Bool, true, false, cond}
use mathlib.Core.List.{List}
use Prim.Native.Nat.{ℕ, zero, suc, ◌+◌, ◌-◌, ◌*◌, ◌/◌, ◌%◌, ◌≤◌, ◌<◌}
use native.Mathlib.Nat.{add-zero, sub-zero, suc-mul, mul-le-mul_right}
use native.Mathlib.Decide.{ℕ_discrete}
use native.Mathlib.Omega.{arith}
use lib.Dec.{eqb, ltb}
use borrow.Author.Tests.{lt-ltb, le-ltb, eq-eqb, ne_eqb}
use Rattle.finite.specs.Range.{fold_to}
use Rattle.finite.proofs.Lowest.{lowest-only}
use Rattle.finite.proofs.Fold.{iterate-next}
use Rattle.graph.specs.Graph.{jdm, times_counted, edges}
use Rattle.graph.specs.Tests.{least_class, most_classes}
use Rattle.graph.proofs.Edge.{at_edge-cell}
use Rattle.graph.proofs.Necessary.{necessary_always}
use Rattle.graph.specs.Theorems.{all_cells}
use Rattle.graph.proofs.Completion.{cells-twice}
use Rattle.graph.specs.Target.{is_short}
use Rattle.finite.proofs.Sum.{sum_to-mono₂}
use Rattle.adjacency.specs.Adjacency.{edge}
use Rattle.join_bytes.specs.Join.{join_bytes}
use Rattle.completion.specs.Choice.{short_l, short_k, open_w, open_v}
use Rattle.completion.specs.Complete.{Ran, next, is_incomplete, run}
use Rattle.completion.specs.Inner.Cellwise.{cell_step, cell_missing, fill_cell, fill_row, fill_all, Filling}
use Rattle.completion.proofs.Chosen.{Chosen, chosen, Stepped, stepped}
use Rattle.completion.proofs.Works.{lowest-pair}
use Rattle.completion.proofs.Full.{full_row, full_run}

module _ (n : ℕ) (cls : ℕ → ℕ) (T : ℕ → ℕ → ℕ) where
  -- every cell before (k, l) is at its target
  abbrev pub FullBefore : List ℕ → ℕ → ℕ → Type 0
  FullBefore g k l =
      (i j : ℕ) → least_class ≤ i → i ≤ j → j < most_classes → (i ≡ k → j < l) → i ≤ k → T i j ≤ jdm n cls (edge g) i j

  -- then (k, l), if it is short, is the lowest short cell
  lowest-cell : (g : List ℕ) (k l : ℕ) → least_class ≤ k → k ≤ l → l < most_classes → FullBefore g k l → jdm n cls (edge g) k l < T k l
      → (short_k n cls T g ≡ k) × (short_l n cls T g k ≡ l)
  lowest-cell g k l k1 kl lC before h = (
    lowest-only least_class most_classes (λ i. ltb (short_l n cls T g i) most_classes) (omega arith) k k1 (omega arith) (rw here (lt-ltb l most_classes lC)) earlier,
    here,
  )
    where
      here : short_l n cls T g k ≡ l
      here =
          lowest-only k most_classes (is_short n cls T (edge g) k) (omega arith) l kl lC (lt-ltb (jdm n cls (edge g) k l) (T k l) h)
          (λ j kj jl. le-ltb (jdm n cls (edge g) k j) (T k j) (before k j k1 kj (omega arith) (λ e. jl) (omega arith)))

      earlier : (i : ℕ) → least_class ≤ i → i < k → ltb (short_l n cls T g i) most_classes ≡ false
      earlier i i1 ik = full_row n cls T g i (omega arith) (λ j ij jC. before i j i1 ij jC (λ e. absurd (omega arith)) (omega arith))

  -- a join adds 1 to its cell, or 2 on the diagonal
  -- what a cell misses is a whole number of joins
  whole : (g : List ℕ) → Filling n cls T g → (k l : ℕ) → k < most_classes → l < most_classes
      → jdm n cls (edge g) k l + cell_missing n cls T g k l * times_counted k l ≡ T k l
  whole g f k l kC lC = go (ℕ_discrete k l)
    where
      have : ℕ
      have = jdm n cls (edge g) k l

      within : have ≤ T k l
      within = f.partial.within k l kC lC

      go : Dec (k ≡ l) → have + (T k l - have) / times_counted k l * times_counted k l ≡ T k l
      go (yes e) =
          let even-T : T k l % 2 ≡ 0 = rw (← e) (f.target.even k kC) in
          let even : have % 2 ≡ 0 = rw (← e) ((necessary_always n most_classes cls (edge g) f.partial.simple f.target.classed).even k) in
          rw (eq-eqb k l e) (omega (arith, within))
      go (no e) = rw (ne_eqb k l e) (omega (arith, within))

  counted-pos : (k l : ℕ) → 1 ≤ times_counted k l
  counted-pos k l = go (eqb k l)
    where
      go : (t : Bool) → 1 ≤ cond t 2 1
      go true = omega arith
      go false = omega arith

  -- i of the joins that cell (k, l) misses
  module _ (s : Ran) (f : Filling n cls T s.adjacency) (k l : ℕ) (kC : k < most_classes) (lC : l < most_classes) where
    -- the cell's count after them
    abbrev Count : ℕ → Type 0
    Count i = jdm n cls (edge (fold_to i (λ i. cell_step n cls k l) s).adjacency) k l ≡ jdm n cls (edge s.adjacency) k l + i * times_counted k l

    count-short : (i : ℕ) → i < cell_missing n cls T s.adjacency k l → Count i
        → jdm n cls (edge (fold_to i (λ i. cell_step n cls k l) s).adjacency) k l < T k l
    count-short i h e =
        omega (
          arith,
          e,
          whole s.adjacency f k l kC lC,
          mul-le-mul_right (times_counted k l) h,
          suc-mul i (times_counted k l),
          counted-pos k l,
        )

    pub part-filling : (i : ℕ) → i ≤ cell_missing n cls T s.adjacency k l
        → Filling n cls T (fold_to i (λ i. cell_step n cls k l) s).adjacency × Count i
    unfolding fold_to
    part-filling zero h = (f, omega arith)
    part-filling (suc i) h = more (part-filling i (omega arith))
      where
        g : List ℕ
        g = (fold_to i (λ i. cell_step n cls k l) s).adjacency

        more : Filling n cls T g × Count i
            → Filling n cls T (join_bytes n cls g (open_v n cls g k l) (open_w n cls g k l (open_v n cls g k l))) × Count (suc i)
        more q =
            let st = stepped n cls T g q.0 k l (open_v n cls g k l) (open_w n cls g k l (open_v n cls g k l))
            (chosen n cls T g q.0 k l kC lC (count-short i h q.1)) in
            (st.filling, st.cells k l ∙ rw (at_edge-cell k l, q.1, suc-mul) (omega arith))

    -- while some are missing, the cell is short
    pub part-short : (i : ℕ) → i < cell_missing n cls T s.adjacency k l
        → jdm n cls (edge (fold_to i (λ i. cell_step n cls k l) s).adjacency) k l < T k l
    part-short i h = count-short i h (part-filling i (omega arith)).1

  -- no more edges than half the cells' sum
  pub edges-within : (g : List ℕ) → Filling n cls T g → 2 * edges n (edge g) ≤ all_cells most_classes T
  edges-within g f =
      omega (
        arith,
        cells-twice n most_classes cls (edge g) f.partial.simple f.target.classed,
        sum_to-mono₂ most_classes most_classes (jdm n cls (edge g)) T f.partial.within,
      )

  pub room : (fuel : ℕ) → all_cells most_classes T ≤ 2 * fuel → (g : List ℕ) → Filling n cls T g → edges n (edge g) ≤ fuel
  room fuel enough g f = omega (arith, edges-within g f)

  module _ (fuel : ℕ) (s₀ : Ran) (start : s₀.joins ≡ 0) (enough : all_cells most_classes T ≤ 2 * fuel) where
    -- s is on the way of `run` from s₀
    pub record Progress (s : Ran) : Type 0 where
      pub filling : Filling n cls T s.adjacency
      pub left : run fuel n cls T s₀ ≡ run (fuel - s.joins) n cls T s
      pub counted : s.joins + edges n (edge s₀.adjacency) ≡ edges n (edge s.adjacency)

    begin : Filling n cls T s₀.adjacency → Progress s₀
    begin f = record { filling = f; left = rw (start, sub-zero); counted = rw start (omega arith) }

    -- one step in the lowest short cell
    step : (s : Ran) → Progress s → (k l : ℕ) → least_class ≤ k → k ≤ l → l < most_classes → FullBefore s.adjacency k l
        → jdm n cls (edge s.adjacency) k l < T k l
        → Progress (cell_step n cls k l s) × Stepped n cls T s.adjacency (cell_step n cls k l s).adjacency k l
    step s p k l k1 kl lC before h = (
      record {
        filling = st.filling;
        left = p.left ∙ iterate-next fuel s.joins (is_incomplete n cls T) (next n cls T) s below incomplete ∙ ap (run (fuel - (s.joins + 1)) n cls T) same;
        counted = omega (arith, p.counted, st.one_more);
      },
      st,
    )
      where
        g : List ℕ
        g = s.adjacency

        c : Chosen n cls T g k l (open_v n cls g k l) (open_w n cls g k l (open_v n cls g k l))
        c = chosen n cls T g p.filling k l (omega arith) lC h

        st : Stepped n cls T g (cell_step n cls k l s).adjacency k l
        st = stepped n cls T g p.filling k l (open_v n cls g k l) (open_w n cls g k l (open_v n cls g k l)) c

        at : (short_k n cls T g ≡ k) × (short_l n cls T g k ≡ l)
        at = lowest-cell g k l k1 kl lC before h

        below : s.joins < fuel
        below = omega (arith, p.counted, st.one_more, room fuel enough (cell_step n cls k l s).adjacency st.filling)

        incomplete : is_incomplete n cls T s ≡ true
        incomplete = rw at.0 (lt-ltb k most_classes (omega arith))

        same : next n cls T s ≡ cell_step n cls k l s
        same = rw (at.0, at.1)

    -- where cell (k, l) has been filled from s: on the way, and full up to it
    pub record Filled (s : Ran) (k l : ℕ) : Type 0 where
      pub progress : Progress s
      pub before : FullBefore s.adjacency k l

    -- cells only grow, so what is full stays full
    stay : (g g' : List ℕ) (k l i j : ℕ) → Stepped n cls T g g' i j → FullBefore g k l → FullBefore g' k l
    stay g g' k l i j st before a b a1 ab bC f ak = omega (arith, before a b a1 ab bC f ak, st.cells a b)

    -- i of the joins that cell (k, l) misses
    pub part_filled : (s : Ran) → (k l : ℕ) → least_class ≤ k → k ≤ l → l < most_classes → Filled s k l
        → (i : ℕ) → i ≤ cell_missing n cls T s.adjacency k l → Filled (fold_to i (λ i. cell_step n cls k l) s) k l
    unfolding fold_to
    part_filled s k l k1 kl lC f zero h = f
    part_filled s k l k1 kl lC f (suc i) h = more (part_filled s k l k1 kl lC f i (omega arith))
      where
        r : Ran
        r = fold_to i (λ i. cell_step n cls k l) s

        more : Filled r k l → Filled (cell_step n cls k l r) k l
        more q =
            let t = step r q.progress k l k1 kl lC q.before (part-short s f.progress.filling k l (omega arith) lC i h) in
            record { progress = t.0; before = stay r.adjacency (cell_step n cls k l r).adjacency k l k l t.1 q.before }

    -- the cell filled
    pub cell_filled : (s : Ran) → (k l : ℕ) → least_class ≤ k → k ≤ l → l < most_classes → Filled s k l → Filled (fill_cell n cls T k l s) k (l + 1)
    cell_filled s k l k1 kl lC f =
        record {
          progress = r.progress;
          before = λ i j i1 ij jC e ik. go i j i1 ij jC e ik (ℕ_discrete i k) (ℕ_discrete j l);
        }
      where
        m : ℕ
        m = cell_missing n cls T s.adjacency k l

        g' : List ℕ
        g' = (fill_cell n cls T k l s).adjacency

        r : Filled (fill_cell n cls T k l s) k l
        r = part_filled s k l k1 kl lC f m (omega arith)

        count : jdm n cls (edge g') k l ≡ jdm n cls (edge s.adjacency) k l + m * times_counted k l
        count = (part-filling s f.progress.filling k l (omega arith) lC m (omega arith)).1

        go : (i j : ℕ) → least_class ≤ i → i ≤ j → j < most_classes → (i ≡ k → j < l + 1) → i ≤ k → Dec (i ≡ k) → Dec (j ≡ l)
            → T i j ≤ jdm n cls (edge g') i j
        go i j i1 ij jC e ik (yes p) (yes q) =
            rw (p, q) (omega (arith, count, whole s.adjacency f.progress.filling k l (omega arith) lC))
        go i j i1 ij jC e ik (yes p) (no q) = r.before i j i1 ij jC (λ x. omega (arith, e x)) ik
        go i j i1 ij jC e ik (no p) q = r.before i j i1 ij jC (λ x. absurd (p x)) ik

    -- the first cells of row k
    pub row_part : (s : Ran) → (k : ℕ) → least_class ≤ k → Filled s k k → (i : ℕ) → k + i ≤ most_classes
        → Filled (fold_to i (λ i. fill_cell n cls T k (k + i)) s) k (k + i)
    unfolding fold_to
    row_part s k k1 f zero h = rw add-zero f
    row_part s k k1 f (suc i) h =
        let r = row_part s k k1 f i (omega arith) in
        let e : k + suc i ≡ k + i + 1 = omega arith in
        rw e (cell_filled (fold_to i (λ i. fill_cell n cls T k (k + i)) s) k (k + i) k1 (omega arith) (omega arith) r)

    pub row_filled : (s : Ran) → (k : ℕ) → least_class ≤ k → k < most_classes → Filled s k k → Filled (fill_row n cls T k s) (k + 1) (k + 1)
    row_filled s k k1 kC f =
        record {
          progress = r.progress;
          before = λ i j i1 ij jC e ik. go i j i1 ij jC e ik (ℕ_discrete i (k + 1));
        }
      where
        r : Filled (fill_row n cls T k s) k (k + (most_classes - k))
        r = row_part s k k1 f (most_classes - k) (omega arith)

        go : (i j : ℕ) → least_class ≤ i → i ≤ j → j < most_classes → (i ≡ k + 1 → j < k + 1) → i ≤ k + 1 → Dec (i ≡ k + 1)
            → T i j ≤ jdm n cls (edge (fill_row n cls T k s).adjacency) i j
        go i j i1 ij jC e ik (yes p) = absurd (omega (arith, e p))
        go i j i1 ij jC e ik (no p) = r.before i j i1 ij jC (λ x. omega arith) (omega arith)

    pub rows_part : (s : Ran) → Filled s least_class least_class → (i : ℕ) → i ≤ most_classes - least_class
        → Filled (fold_to i (λ i. fill_row n cls T (least_class + i)) s) (least_class + i) (least_class + i)
    unfolding fold_to
    rows_part s f zero h = f
    rows_part s f (suc i) h =
        let r = rows_part s f i (omega arith) in
        let e : least_class + suc i ≡ least_class + i + 1 = omega arith in
        rw e (row_filled (fold_to i (λ i. fill_row n cls T (least_class + i)) s) (least_class + i) (omega arith) (omega arith) r)

    pub first_cell : Filling n cls T s₀.adjacency → Filled s₀ least_class least_class
    first_cell f = record { progress = begin f; before = λ i j i1 ij jC e ik. absurd (omega (arith, e (omega arith))) }

    -- Cell by cell is what `run` does.
    pub fill-all : Filling n cls T s₀.adjacency → run fuel n cls T s₀ ≡ fill_all n cls T s₀
    fill-all f = r.progress.left ∙ full_run n cls T (lowest-pair n cls T) s full (fuel - s.joins)
      where
        s : Ran
        s = fill_all n cls T s₀

        r : Filled s most_classes most_classes
        r = rows_part s₀ (first_cell f) (most_classes - least_class) (omega arith)

        full : (i j : ℕ) → least_class ≤ i → i < most_classes → i ≤ j → j < most_classes → T i j ≤ jdm n cls (edge s.adjacency) i j
        full i j i1 iC ij jC = r.before i j i1 ij jC (λ e. absurd (omega arith)) (omega arith)
