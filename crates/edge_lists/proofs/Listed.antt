-- The list of a graph's edges: it is well formed, its edges rise, and they are the edges of the graph.
-- Assumes nothing.
use mathlib.Core.Path.{◌≡◌, ap, ◌∙◌}
use mathlib.Core.Bool.{true, ◌&&◌, not}
use mathlib.Core.List.{List}
use Prim.Native.Nat.{ℕ, ◌+◌, ◌-◌, ◌*◌, ◌%◌, ◌≤◌, ◌<◌}
use native.Mathlib.Decide.{ℕ_discrete, dec_lt}
use native.Mathlib.Omega.{arith}
use lib.Dec.{eqb, ltb}
use lib.ListN.{length}
use borrow.Author.Tests.{ltb-true, lt-ltb, le-ltb, eq-eqb, ne_eqb}
use Rattle.finite.specs.Range.{bit, sum_to}
use Rattle.finite.proofs.All.{and_left, and_both}
use Rattle.finite.proofs.Lowest.{lowest-none}
use Rattle.finite.proofs.Sum.{sum_to-cong}
use Rattle.answer.specs.Refusals.{Go}
use Rattle.graph.specs.Graph.{Graph, Simple, at_edge, SameOn}
use Rattle.graph.proofs.Edge.{at_edge-sum}
use Rattle.layout.specs.Layout.{most_vertices}
use Rattle.edge_lists.specs.EdgeList.{listed, end_v, end_w, rises, good_edge, first_bad_edge, graph_of, list_verdict, edge_bytes, row_bytes, list_of}
use Rattle.edge_lists.proofs.List.{verdict_go}
use Rattle.edge_lists.proofs.Pairs.{over, place, Rising, cat_sized, over-cat, rising_cat, one_sized, one_over, one_rising}

module _ (n : ℕ) (E : Graph) where
  -- 1 where v – w is listed
  there : ℕ → ℕ → ℕ
  there v w = bit (ltb v w && eqb (E v w) 1)

  edge-sized : (v w : ℕ) → length (edge_bytes (E v) v w) ≡ 2 * there v w
  unfolding there
  edge-sized v w = one_sized (ltb v w && eqb (E v w) 1) v w

  row_sized : (v : ℕ) → length (row_bytes n (E v) v) ≡ 2 * sum_to n (there v)
  row_sized v = cat_sized (edge_bytes (E v) v) (there v) (edge-sized v) n

  -- how many edges are listed
  listed-length : listed (list_of n E) ≡ sum_to n (λ v. sum_to n (there v))
  listed-length = omega (arith, cat_sized (λ v. row_bytes n (E v) v) (λ v. sum_to n (there v)) row_sized n)

  over-list : (f : ℕ → ℕ → ℕ) → over (listed (list_of n E)) f (list_of n E) ≡ sum_to n (λ v. sum_to n (λ w. there v w * f v w))
  unfolding there
  over-list f =
      rw listed-length
      (over-cat (λ v. row_bytes n (E v) v) (λ v. sum_to n (there v)) row_sized f n
      ∙ sum_to-cong n (λ v. over (sum_to n (there v)) f (row_bytes n (E v) v)) (λ v. sum_to n (λ w. there v w * f v w)) row)
    where
      row : (v : ℕ) → v < n → over (sum_to n (there v)) f (row_bytes n (E v) v) ≡ sum_to n (λ w. there v w * f v w)
      row v l =
          over-cat (edge_bytes (E v) v) (there v) (edge-sized v) f n
          ∙ sum_to-cong n (λ w. over (there v w) f (edge_bytes (E v) v w)) (λ w. there v w * f v w) (λ w m. one_over f (ltb v w && eqb (E v w) 1) v w)

  module _ (few : n ≤ most_vertices) where
    row-rising : (v : ℕ) → v < n → (place v 0 ≤ place v n) × Rising n (place v 0) (place v n) (sum_to n (there v)) (row_bytes n (E v) v)
    unfolding there
    row-rising v l =
        rising_cat (edge_bytes (E v) v) (there v) (edge-sized v) n (place v) n
        (λ w m. (omega arith, rw (← (next w)) (one_rising n (ltb v w && eqb (E v w) 1) v w (up w) m)))
      where
        up : (w : ℕ) → ltb v w && eqb (E v w) 1 ≡ true → v < w
        up w t = ltb-true v w (and_left (ltb v w) (eqb (E v w) 1) t)

        next : (w : ℕ) → place v w + 1 ≡ place v (w + 1)
        next w = omega arith

    -- the edges listed rise
    pub list-rising : Rising n 0 (n * most_vertices) (listed (list_of n E)) (list_of n E)
    list-rising =
        rw listed-length
        (rising_cat (λ v. row_bytes n (E v) v) (λ v. sum_to n (there v)) row_sized n (λ v. v * most_vertices) n
        (λ v l. (omega arith, wide v (row-rising v l).1))).1
      where
        wide : (v : ℕ) → Rising n (place v 0) (place v n) (sum_to n (there v)) (row_bytes n (E v) v)
            → Rising n (v * most_vertices) ((v + 1) * most_vertices) (sum_to n (there v)) (row_bytes n (E v) v)
        wide v r =
            record {
              ordered = r.ordered;
              vertex = r.vertex;
              from = λ i l. omega (arith, r.from i l);
              to = λ i l. omega (arith, r.to i l);
              above = r.above;
            }

    -- each is good
    list-good : (i : ℕ) → i < listed (list_of n E) → good_edge (list_of n E) n i ≡ true
    list-good i l =
        and_both _ _
        (and_both _ _ (lt-ltb (end_v e i) (end_w e i) (list-rising.ordered i l))
        (lt-ltb (end_w e i) n (list-rising.vertex i l)))
        (go (ℕ_discrete i 0) (dec_lt (end_v e (i - 1)) (end_v e i)))
      where
        e : List ℕ
        e = list_of n E

        go : Dec (i ≡ 0) → Dec (end_v e (i - 1) < end_v e i) → rises e i ≡ true
        go (yes z) d = rw (eq-eqb i 0 z)
        go (no z) (yes d) = rw (ne_eqb i 0 z, lt-ltb (end_v e (i - 1)) (end_v e i) d)
        go (no z) (no d) =
            let s : i ≡ i - 1 + 1 = omega arith in
            let r = rw (← s) at (list-rising.above (i - 1) (omega arith)) in
            let t = list-rising.vertex i l in
            let u = list-rising.vertex (i - 1) (omega arith) in
            rw (
              ne_eqb i 0 z,
              le-ltb (end_v e (i - 1)) (end_v e i) (omega arith),
              eq-eqb (end_v e (i - 1)) (end_v e i) (omega arith),
              lt-ltb (end_w e (i - 1)) (end_w e i) (omega arith),
            )

    -- so the list is not refused
    pub list-well : first_bad_edge (list_of n E) n ≡ listed (list_of n E)
    list-well =
        lowest-none 0 (listed (list_of n E)) (λ i. not (good_edge (list_of n E) n i)) (omega arith) (λ i z l. ap not (list-good i l))

    pub list-even : length (list_of n E) % 2 ≡ 0
    list-even = omega (arith, cat_sized (λ v. row_bytes n (E v) v) (λ v. sum_to n (there v)) row_sized n)

    pub list-passed : list_verdict (list_of n E) n ≡ Go
    list-passed = verdict_go (list_of n E) n few list-even list-well

  -- of a simple graph v – w is listed once
  there-once : Simple n E → (v w : ℕ) → v < n → w < n → there v w + there w v ≡ E v w
  unfolding there
  there-once s v w vn wn = go (dec_lt v w) (dec_lt w v)
    where
      up : (x y : ℕ) → x < y → x < n → y < n → there x y ≡ E x y
      up x y l xn yn = rw (lt-ltb x y l) (which (ℕ_discrete (E x y) 1))
        where
          which : Dec (E x y ≡ 1) → bit (eqb (E x y) 1) ≡ E x y
          which (yes q) = rw (eq-eqb (E x y) 1 q, q)
          which (no q) = rw (ne_eqb (E x y) 1 q) (omega (arith, s.binary x y xn yn))

      down : (x y : ℕ) → y ≤ x → there x y ≡ 0
      down x y l = rw (le-ltb x y l)

      go : Dec (v < w) → Dec (w < v) → there v w + there w v ≡ E v w
      go (yes l) d = omega (arith, up v w l vn wn, down w v (omega arith))
      go (no l) (yes m) = omega (arith, up w v m wn vn, down v w (omega arith), s.symmetric v w vn wn)
      go (no l) (no m) =
          let q : w ≡ v = omega arith in
          omega (arith, down v w (omega arith), down w v (omega arith), ap (E v) q, s.loopless v vn)

  -- the list has the edges of the graph and no others
  pub list-graph : Simple n E → SameOn n E (graph_of (list_of n E))
  list-graph s v w vn wn = over-list (λ x y. at_edge x y v w) ∙ at_edge-sum n there v w vn wn ∙ there-once s v w vn wn
