-- Completing a partial graph makes exactly as many joins as edges are missing, and ends with every cell at the table: the law for any rule
-- (crates/graph/proofs/Completion.antt) at the rule of the lowest open pair.
-- Assumes nothing.
use mathlib.Core.Path.{◌≡◌, refl, sym, ap, ◌∙◌}
use mathlib.Core.Bool.{Bool, true, false}
use mathlib.Core.List.{List}
use Prim.Native.Nat.{ℕ, ◌+◌, ◌*◌, ◌≤◌, ◌<◌}
use native.Mathlib.Nat.{zero-mul, mul-one, mul-le-mul_right}
use native.Mathlib.Decide.{dec_lt}
use native.Mathlib.Omega.{arith}
use lib.Dec.{ltb}
use borrow.Author.Tests.{ltb-true, ltb-false}
use Rattle.finite.specs.Range.{δ, sum_to, iterate}
use Rattle.finite.proofs.Delta.{δ-sym}
use Rattle.finite.proofs.Sum.{sum_to-term, sum_to-mono, sum_to-cong, sum_to-scale, sum_to-swap, sum_to-const, sum_to-at}
use Rattle.finite.proofs.Lowest.{lowest-ge, lowest-before, lowest-holds}
use Rattle.graph.specs.Graph.{jdm, edges, size}
use Rattle.graph.specs.Target.{Target, Open, is_short}
use Rattle.graph.specs.Tests.{least_class, most_degree, most_classes, class_degree}
use Rattle.graph.proofs.Necessary.{necessary_always}
use Rattle.graph.specs.Theorems.{Rule, all_cells, Ended}
use Rattle.graph.proofs.Completion.{completes_by_any_rule}
use Rattle.layout.specs.Layout.{most_vertices}
use Rattle.adjacency.specs.Adjacency.{edge}
use Rattle.adjacency.specs.Clauses.{ZeroOutside}
use Rattle.join_bytes.proofs.Bytes.{join-bytes, join-outside}
use Rattle.completion.specs.Choice.{short_l, short_k, open_w, open_v}
use Rattle.completion.specs.Complete.{Ran, fresh, joined, next, is_incomplete, run, most_edges}
use Rattle.completion.specs.Inner.Cellwise.{Filling}
use Rattle.completion.proofs.Chosen.{chosen, opened}

module _ (n : ℕ) (cls : ℕ → ℕ) (T : ℕ → ℕ → ℕ) where
  -- every vertex has one class
  sizes : ((v : ℕ) → v < n → cls v < most_classes) → sum_to most_classes (size n cls) ≡ n
  sizes classed =
      sum_to-swap most_classes n (λ k v. δ (cls v) k)
      ∙ sum_to-cong n (λ v. sum_to most_classes (λ k. δ (cls v) k)) (λ v. 1) one
      ∙ sum_to-const 1 n
      ∙ mul-one n
    where
      one : (v : ℕ) → v < n → sum_to most_classes (λ k. δ (cls v) k) ≡ 1
      one v p =
          sum_to-cong most_classes (λ k. δ (cls v) k) (λ k. δ k (cls v) * 1) (λ k q. δ-sym (cls v) k ∙ sym (mul-one (δ k (cls v))))
          ∙ sum_to-at most_classes (cls v) (λ k. 1) (classed v p)

  -- 200 vertices of degree at most 40 have at most 4,000 edges
  pub few_edges : Target n most_classes cls class_degree T → n ≤ most_vertices → all_cells most_classes T ≤ 2 * most_edges
  few_edges target few =
      omega (
        arith,
        sum_to-mono most_classes (λ k. sum_to most_classes (T k)) (λ k. most_degree * size n cls k)
            (λ k p. rw (target.rows k p) (mul-le-mul_right (size n cls k) (le k p))),
        sum_to-scale most_degree most_classes (size n cls),
        sizes target.classed,
      )
    where
      le : (k : ℕ) → k < most_classes → class_degree k ≤ most_degree
      le k p = omega arith

  -- a cell of class 0 holds nothing
  none_of_0 : Target n most_classes cls class_degree T → (l : ℕ) → l < most_classes → T 0 l ≡ 0
  none_of_0 target l lC =
      omega (arith, sum_to-term most_classes (T 0) l lC, target.rows 0 (omega arith), zero-mul (size n cls 0))

  -- what holds all along
  abbrev pub Good : Ran → Type 0
  Good s = Filling n cls T s.adjacency × ZeroOutside n s.adjacency

  -- where no cell is short, all are full
  pub stops : (s : Ran) → Filling n cls T s.adjacency → is_incomplete n cls T s ≡ false → (k l : ℕ) → k < most_classes → l < most_classes
      → jdm n cls (edge s.adjacency) k l ≡ T k l
  stops s f e k l kC lC = go (dec_lt l k)
    where
      g : List ℕ
      g = s.adjacency

      upper : (k l : ℕ) → k < most_classes → l < most_classes → k ≤ l → jdm n cls (edge g) k l ≡ T k l
      upper k l kC lC kl = at (dec_lt 0 k)
        where
          at : Dec (0 < k) → jdm n cls (edge g) k l ≡ T k l
          at (yes k1) =
              let row = lowest-before least_class most_classes (λ i. ltb (short_l n cls T g i) most_classes) (omega arith) k k1
              (omega (arith, ltb-false (short_k n cls T g) most_classes e)) in
              let cell = lowest-before k most_classes (is_short n cls T (edge g) k) (omega arith) l kl
              (omega (arith, ltb-false (short_l n cls T g k) most_classes row)) in
              omega (arith, ltb-false (jdm n cls (edge g) k l) (T k l) cell, f.partial.within k l kC lC)
          at (no k0) =
              let z : k ≡ 0 = omega arith in
              rw z (omega (arith, none_of_0 f.target l lC, f.partial.within 0 l (omega arith) lC))

      go : Dec (l < k) → jdm n cls (edge g) k l ≡ T k l
      go (no h) = upper k l kC lC (omega arith)
      go (yes h) =
          (necessary_always n most_classes cls (edge g) f.partial.simple f.target.classed).symmetric k l
          ∙ upper l k lC kC (omega arith)
          ∙ f.target.symmetric l k lC kC

  -- the lowest short cell, where there is one
  pub short_cell : (g : List ℕ) → ltb (short_k n cls T g) most_classes ≡ true
      → (short_k n cls T g < most_classes) × (short_l n cls T g (short_k n cls T g) < most_classes)
      × (jdm n cls (edge g) (short_k n cls T g) (short_l n cls T g (short_k n cls T g)) < T (short_k n cls T g) (short_l n cls T g (short_k n cls T g)))
  short_cell g e = (kC, lC, ltb-true (jdm n cls (edge g) k l) (T k l) (lowest-holds k most_classes (is_short n cls T (edge g) k) (omega (arith, kC)) lC))
    where
      k : ℕ
      k = short_k n cls T g

      l : ℕ
      l = short_l n cls T g k

      kC : k < most_classes
      kC = ltb-true k most_classes e

      lC : l < most_classes
      lC = ltb-true l most_classes (lowest-holds least_class most_classes (λ i. ltb (short_l n cls T g i) most_classes) (omega arith) kC)

  -- the pair that is joined next
  abbrev pub next_v : Ran → ℕ
  next_v s = let g = s.adjacency in let k = short_k n cls T g in open_v n cls g k (short_l n cls T g k)

  abbrev pub next_w : Ran → ℕ
  next_w s = let g = s.adjacency in let k = short_k n cls T g in open_w n cls g k (short_l n cls T g k) (next_v s)

  -- it is open
  pub next-open : (s : Ran) → Good s → is_incomplete n cls T s ≡ true → Open n cls T (edge s.adjacency) (next_v s) (next_w s)
  next-open s good e =
      let g = s.adjacency in
      let k = short_k n cls T g in
      let h = short_cell g e in
      (chosen n cls T g good.0 k (short_l n cls T g k) h.0 h.1 h.2).pair

  -- where classes rise with the vertices, it is named lower vertex first: its cell is named lower class first
  pub next-rising : ((v w : ℕ) → v ≤ w → cls v ≤ cls w) → (s : Ran) → Good s → is_incomplete n cls T s ≡ true → next_v s < next_w s
  next-rising rises s good e =
      let g = s.adjacency in
      let k = short_k n cls T g in
      let l = short_l n cls T g k in
      let h = short_cell g e in
      let c = chosen n cls T g good.0 k l h.0 h.1 h.2 in
      go (next_v s) (next_w s) k l c.row c.column c.above (lowest-ge k most_classes (is_short n cls T (edge g) k) (omega (arith, h.0)))
      (dec_lt (next_v s) (next_w s))
    where
      go : (v w k l : ℕ) → cls v ≡ k → cls w ≡ l → (k ≡ l → v < w) → k ≤ l → Dec (v < w) → v < w
      go v w k l ev ew above kl (yes p) = p
      go v w k l ev ew above kl (no p) = above (omega (arith, ev, ew, rises w v (omega arith)))

  -- joining an open pair keeps what holds
  pub joined-good : (s : Ran) → Good s → (v w : ℕ) → Open n cls T (edge s.adjacency) v w → Good (joined n cls s v w)
  joined-good s good v w pair = (
    (opened n cls T s.adjacency good.0 v w pair).filling,
    λ x y xs ys o. join-outside n cls T s.adjacency v w
        good.0.sized good.0.few good.0.target good.0.partial pair x y xs ys o
        ∙ good.1 x y xs ys o,
  )

  -- A way to choose the next pair. It works on states of its own, each with a run so far; where a cell is short it joins an open pair v – w.
  pub record Chooser (S : Type 0) : Type 0 where
    pub ran : S → Ran
    pub next : S → S
    pub v : S → ℕ
    pub w : S → ℕ
    pub joins : (s : S) → ran (next s) ≡ joined n cls (ran s) (v s) (w s)
    pub pair : (s : S) → Good (ran s) → is_incomplete n cls T (ran s) ≡ true → Open n cls T (edge (ran s).adjacency) (v s) (w s)

  -- what completing ends in
  pub record CompletedRun (g : List ℕ) (r : Ran) : Type 0 where
    pub filling : Filling n cls T r.adjacency
    pub outside : ZeroOutside n r.adjacency
    pub full : (k l : ℕ) → k < most_classes → l < most_classes → jdm n cls (edge r.adjacency) k l ≡ T k l
    pub counted : r.joins + edges n (edge g) ≡ edges n (edge r.adjacency)
    pub missing : all_cells most_classes T ≡ 2 * edges n (edge r.adjacency)

  -- each is one rule
  module _ {S : Type 0} (c : Chooser S) where
    -- while a cell is short
    abbrev pub short : S → Bool
    short s = is_incomplete n cls T (c.ran s)

    pub next-good : (s : S) → Good (c.ran s) → short s ≡ true → Good (c.ran (c.next s))
    next-good s good e = rw (c.joins s) (joined-good (c.ran s) good (c.v s) (c.w s) (c.pair s good e))

    abbrev rule : Rule n most_classes cls class_degree T S
    rule =
        record {
          graph = λ s. edge (c.ran s).adjacency;
          joins = λ s. (c.ran s).joins;
          short = short;
          next = c.next;
          Good = λ s. Good (c.ran s);
          partial = λ s p. p.0.partial;
          stops = λ s good. stops (c.ran s) good.0;
          picks = λ s good e. (
            c.v s,
            c.w s,
            c.pair s good e,
            rw (c.joins s)
                (join-bytes n cls T (c.ran s).adjacency (c.v s) (c.w s)
                good.0.sized good.0.few good.0.target good.0.partial
                (c.pair s good e)),
            next-good s good e,
          );
          counts = λ s. ap (λ (r : Ran). r.joins) (c.joins s);
        }

    pub completes_by : (s : S) (g : List ℕ) → c.ran s ≡ fresh g → Filling n cls T g → ZeroOutside n g
        → CompletedRun g (c.ran (iterate most_edges short c.next s))
    completes_by s g start f out =
        record {
          filling = r.good.0;
          outside = r.good.1;
          full = r.full;
          counted = omega (arith, r.counted, ap (λ (x : Ran). x.joins) start, ap (λ (x : Ran). edges n (edge x.adjacency)) start);
          missing = r.missing;
        }
      where
        good : Good (c.ran s)
        good = rw start (f, out)

        r : Ended n most_classes cls class_degree T rule s (iterate most_edges short c.next s)
        r =
            completes_by_any_rule n most_classes cls class_degree T f.target S rule most_edges s good
            (omega (arith, few_edges f.target f.few))

  -- the lowest open pair is one choice
  abbrev pub lowest-pair : Chooser Ran
  lowest-pair = record { ran = λ s. s; next = next n cls T; v = next_v; w = next_w; joins = λ s. refl; pair = next-open }

  pub completes : (g : List ℕ) → Filling n cls T g → ZeroOutside n g → CompletedRun g (run most_edges n cls T (fresh g))
  completes g f out = completes_by lowest-pair (fresh g) g refl f out
