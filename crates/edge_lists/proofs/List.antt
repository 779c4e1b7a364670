-- What a well-formed edge list is: its edges rise, so that none comes twice, and its graph is simple.
-- Assumes nothing.
use mathlib.Core.Path.{◌≡◌, refl, ap, ◌∙◌}
use mathlib.Core.Bool.{Bool, true, false, ◌&&◌, ◌||◌, not}
use mathlib.Core.List.{List}
use mathlib.Core.Logic.{◌⊎◌, inl, inr, ⊎_elim}
use Prim.Native.Nat.{ℕ, zero, suc, ◌+◌, ◌-◌, ◌%◌, ◌≤◌, ◌<◌}
use native.Mathlib.Nat.{eq-or-lt_of_le, le_of_suc-le-suc}
use native.Mathlib.Numerals.{add-one}
use native.Mathlib.Omega.{arith}
use lib.Dec.{eqb, ltb}
use lib.ListN.{length}
use borrow.Author.Tests.{ltb-true, leb-true, eqb-true, le-leb, eq-eqb, not-false}
use Rattle.finite.specs.Range.{sum_to}
use Rattle.finite.proofs.All.{and_left, and_right}
use Rattle.finite.proofs.Lowest.{lowest-before}
use Rattle.finite.proofs.Sum.{sum_to-none, sum_to-more, sum_to-zero}
use Rattle.graph.specs.Graph.{Graph, Simple, edges, at_edge, AddsEdge}
use Rattle.graph.proofs.Edge.{Place, forth, back, elsewhere, place}
use Rattle.graph.proofs.Update.{simple_adds, edges-adds}
use Rattle.answer.specs.Refusals.{Go}
use Rattle.answer.proofs.Checks.{unless_go}
use Rattle.layout.specs.Layout.{most_vertices}
use Rattle.edge_lists.specs.EdgeList.{listed, end_v, end_w, rises, good_edge, first_bad_edge, graph_of, list_verdict}

-- what a list that passes the checks 19 may go by, and back
pub record Passed (e : List ℕ) (total : ℕ) : Type 0 where
  pub few : total ≤ most_vertices
  pub even : length e % 2 ≡ 0
  pub well : first_bad_edge e total ≡ listed e

pub verdict_passed : (e : List ℕ) (total : ℕ) → list_verdict e total ≡ Go → Passed e total
verdict_passed e total h =
    let a = unless_go _ _ _ h in
    let b = unless_go _ _ _ a.1 in
    let c = unless_go _ _ _ b.1 in
    record {
      few = leb-true total most_vertices a.0;
      even = eqb-true (length e % 2) 0 b.0;
      well = eqb-true (first_bad_edge e total) (listed e) c.0;
    }

pub verdict_go : (e : List ℕ) (total : ℕ) → total ≤ most_vertices → length e % 2 ≡ 0 → first_bad_edge e total ≡ listed e → list_verdict e total ≡ Go
verdict_go e total few even well =
    rw (le-leb total most_vertices few, eq-eqb (length e % 2) 0 even, eq-eqb (first_bad_edge e total) (listed e) well)

-- what the test of an edge says
pub record Good (e : List ℕ) (total i : ℕ) : Type 0 where
  pub ordered : end_v e i < end_w e i
  pub vertex : end_w e i < total
  pub above : rises e i ≡ true

pub good-edge : (e : List ℕ) (total i : ℕ) → good_edge e total i ≡ true → Good e total i
good-edge e total i h =
    let v = end_v e i in
    let w = end_w e i in
    let ends = and_left (ltb v w && ltb w total) (rises e i) h in
    record {
      ordered = ltb-true v w (and_left (ltb v w) (ltb w total) ends);
      vertex = ltb-true w total (and_right (ltb v w) (ltb w total) ends);
      above = and_right (ltb v w && ltb w total) (rises e i) h;
    }

or_cases : (a b : Bool) → a || b ≡ true → (a ≡ true) ⊎ (b ≡ true)
or_cases true b h = inl refl
or_cases false b h = inr h

-- edge i is before edge j, by v and then w
abbrev pub Before : List ℕ → ℕ → ℕ → Type 0
Before e i j = (end_v e i < end_v e j) ⊎ ((end_v e i ≡ end_v e j) × (end_w e i < end_w e j))

rises-before : (e : List ℕ) (i : ℕ) → 0 < i → rises e i ≡ true → Before e (i - 1) i
rises-before e i h r = ⊎_elim (λ p. ⊎_elim first higher (or_cases _ _ p)) same (or_cases _ _ r)
  where
    x : ℕ
    x = end_v e (i - 1)

    y : ℕ
    y = end_w e (i - 1)

    first : eqb i 0 ≡ true → Before e (i - 1) i
    first p = absurd (omega (arith, eqb-true i 0 p))

    higher : ltb x (end_v e i) ≡ true → Before e (i - 1) i
    higher p = inl (ltb-true x (end_v e i) p)

    same : eqb x (end_v e i) && ltb y (end_w e i) ≡ true → Before e (i - 1) i
    same p =
        inr (
          eqb-true x (end_v e i) (and_left (eqb x (end_v e i)) (ltb y (end_w e i)) p),
          ltb-true y (end_w e i) (and_right (eqb x (end_v e i)) (ltb y (end_w e i)) p),
        )

before_both : (e : List ℕ) (i j k : ℕ) → Before e i j → Before e j k → Before e i k
before_both e i j k (inl p) (inl q) = inl (omega arith)
before_both e i j k (inl p) (inr q) = inl (omega arith)
before_both e i j k (inr p) (inl q) = inl (omega arith)
before_both e i j k (inr p) (inr q) = inr (omega arith, omega arith)

no_edges : (n : ℕ) (E : Graph) → ((v w : ℕ) → E v w ≡ 0) → edges n E ≡ 0
unfolding edges
no_edges n E h = sum_to-zero n (λ v. sum_to v (E v)) (λ v l. sum_to-zero v (E v) (λ w m. h v w))

-- the graph of the first n edges
abbrev pub graph_to : List ℕ → ℕ → Graph
graph_to e n v w = sum_to n (λ i. at_edge (end_v e i) (end_w e i) v w)

-- the graph of one edge more
pub graph_to-adds : (e : List ℕ) (total n : ℕ) → AddsEdge total (graph_to e n) (end_v e n) (end_w e n) (graph_to e (n + 1))
graph_to-adds e total n v w l m = sum_to-more (λ i. at_edge (end_v e i) (end_w e i) v w) n

module _ (e : List ℕ) (total : ℕ) (well : first_bad_edge e total ≡ listed e) where
  pub all-good : (i : ℕ) → i < listed e → good_edge e total i ≡ true
  all-good i l =
      not-false (good_edge e total i) (lowest-before 0 (listed e) (λ i. not (good_edge e total i)) (omega arith) i (omega arith) (rw well l))

  pub good : (i : ℕ) → i < listed e → Good e total i
  good i l = good-edge e total i (all-good i l)

  -- each edge is before all later ones
  pub all-before : (i j : ℕ) → i < j → j < listed e → Before e i j
  all-before i zero h l = absurd (omega arith)
  all-before i (suc j) h l = ⊎_elim (λ q. rw q step) (λ m. before_both e i j (suc j) (all-before i j m (omega arith)) step) (eq-or-lt_of_le (le_of_suc-le-suc h))
    where
      before : suc j - 1 ≡ j
      before = omega arith

      step : Before e j (suc j)
      step = rw before at (rises-before e (suc j) (omega arith) (good (suc j) l).above)

  -- so an edge is not linked by those before it
  unlinked : (n : ℕ) → n < listed e → graph_to e n (end_v e n) (end_w e n) ≡ 0
  unlinked n l = sum_to-zero n (λ i. at_edge (end_v e i) (end_w e i) (end_v e n) (end_w e n)) (λ i h. off i h (place _ _ _ _))
    where
      off : (i : ℕ) → i < n → Place (end_v e i) (end_w e i) (end_v e n) (end_w e n) → at_edge (end_v e i) (end_w e i) (end_v e n) (end_w e n) ≡ 0
      off i h (forth p q) = ⊎_elim (λ m. absurd (omega arith)) (λ m. absurd (omega arith)) (all-before i n h l)
      off i h (back p q) = absurd (omega (arith, (good i (omega arith)).ordered, (good n l).ordered))
      off i h (elsewhere z) = z

  pub simple_to : (n : ℕ) → n ≤ listed e → Simple total (graph_to e n)
  unfolding sum_to
  simple_to zero h = record { binary = λ v w l m. omega arith; symmetric = λ v w l m. refl; loopless = λ v l. refl }
  simple_to (suc n) h =
      let g = good n (omega arith) in
      simple_adds total (graph_to e n) (graph_to e (suc n)) (end_v e n) (end_w e n) (λ v w l m. refl) (omega arith) (omega arith) (omega arith)
      (simple_to n (omega arith)) (unlinked n (omega arith))

  -- a well-formed list is a simple graph
  pub list-simple : Simple total (graph_of e)
  list-simple = simple_to (listed e) (omega arith)

  -- with as many edges as it lists
  pub edges-to : (n : ℕ) → n ≤ listed e → edges total (graph_to e n) ≡ n
  edges-to zero h = no_edges total (graph_to e 0) (λ v w. sum_to-none _)
  edges-to (suc n) h =
      let g = good n (omega arith) in
      rw (← (add-one n))
      (edges-adds total (graph_to e n) (graph_to e (n + 1)) (end_v e n) (end_w e n) (graph_to-adds e total n) (omega arith) (omega arith)
      (simple_to n (omega arith)) (simple_to (n + 1) (omega arith))
      ∙ ap (λ (m : ℕ). m + 1) (edges-to n (omega arith)))
