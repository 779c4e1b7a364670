-- A well-formed list is the list of its graph: numbers that rise are known from which they are.
-- Assumes nothing.
use mathlib.Core.Path.{◌≡◌, refl, sym, ap, ◌∙◌}
use mathlib.Core.List.{List}
use mathlib.Core.Logic.{⊎_elim}
use Prim.Native.Nat.{ℕ, zero, suc, ◌+◌, ◌*◌, ◌/◌, ◌%◌, ◌<◌}
use native.Mathlib.Decide.{dec_lt}
use native.Mathlib.Omega.{arith}
use lib.ListN.{length, get_or}
use lib.Seq.{ext_get_or}
use Rattle.finite.proofs.Sum.{sum_to-zero, sum_to-less, sum_to-term}
use Rattle.graph.specs.Graph.{Simple, at_edge, SameOn}
use Rattle.graph.proofs.Edge.{Place, forth, back, elsewhere, place, at_edge-here, edges-same}
use Rattle.edge_lists.specs.EdgeList.{listed, end_v, end_w, graph_of, list_of}
use Rattle.edge_lists.proofs.List.{Passed, good, all-before, list-simple, edges-to}
use Rattle.edge_lists.proofs.Pairs.{place as place_of}
use Rattle.edge_lists.proofs.Listed.{list-even, list-well, list-graph}

-- two sequences that rise and have the same numbers are the same
module _ (m : ℕ) (P Q : ℕ → ℕ)
    (up : (i j : ℕ) → i < j → j < m → P i < P j) (rise : (i j : ℕ) → i < j → j < m → Q i < Q j)
    (there : (i : ℕ) → i < m → (j : ℕ) × (j < m) × (Q j ≡ P i)) (here : (i : ℕ) → i < m → (j : ℕ) × (j < m) × (P j ≡ Q i)) where
  step : (i : ℕ) → i < m → ((j : ℕ) → j < i → P j ≡ Q j) → P i ≡ Q i
  step i l before = go (there i l) (here i l)
    where
      go : (j : ℕ) × (j < m) × (Q j ≡ P i) → (j : ℕ) × (j < m) × (P j ≡ Q i) → P i ≡ Q i
      go (j, jm, p) (k, km, q) = pick (dec_lt j i) (dec_lt k i) (dec_lt i j) (dec_lt i k)
        where
          same : (a : ℕ) → (i < a → ⊥) → (a < i → ⊥) → a ≡ i
          same a x y = omega arith

          pick : Dec (j < i) → Dec (k < i) → Dec (i < j) → Dec (i < k) → P i ≡ Q i
          pick (yes a) b c d = absurd (omega (arith, before j a, up j i a l))
          pick (no a) (yes b) c d = absurd (omega (arith, before k b, rise k i b l))
          pick (no a) (no b) (no c) d = sym p ∙ ap Q (same j c a)
          pick (no a) (no b) (yes c) (no d) = ap P (sym (same k d b)) ∙ q
          pick (no a) (no b) (yes c) (yes d) = absurd (omega (arith, rise i j c jm, up i k d km))

  rising-to : (n i : ℕ) → i < n → i < m → P i ≡ Q i
  rising-to zero i h l = absurd (omega arith)
  rising-to (suc n) i h l = step i l (λ j k. rising-to n j (omega arith) (omega arith))

  pub rising_same : (i : ℕ) → i < m → P i ≡ Q i
  rising_same i l = rising-to (suc i) i (omega arith) l

-- a list's edge is in its graph, and the graph's edges are in the list
module _ (e : List ℕ) (total : ℕ) (p : Passed e total) where
  linked : (i : ℕ) → i < listed e → 0 < graph_of e (end_v e i) (end_w e i)
  linked i l =
      let g = good e total p.well i l in
      omega (
        arith,
        sum_to-term (listed e) (λ j. at_edge (end_v e j) (end_w e j) (end_v e i) (end_w e i)) i l,
        at_edge-here (end_v e i) (end_w e i) (omega arith),
      )

  found : (v w : ℕ) → v < w → 0 < graph_of e v w → (i : ℕ) × (i < listed e) × (end_v e i ≡ v) × (end_w e i ≡ w)
  found v w h l =
      go (sum_to-less (listed e) (λ i. 0) (λ i. at_edge (end_v e i) (end_w e i) v w) (omega (arith, sum_to-zero (listed e) (λ i. 0) (λ i m. refl))))
    where
      go : (i : ℕ) × (i < listed e) × (0 < at_edge (end_v e i) (end_w e i) v w) → (i : ℕ) × (i < listed e) × (end_v e i ≡ v) × (end_w e i ≡ w)
      go (i, m, q) = at (place (end_v e i) (end_w e i) v w)
        where
          at : Place (end_v e i) (end_w e i) v w → (i : ℕ) × (i < listed e) × (end_v e i ≡ v) × (end_w e i ≡ w)
          at (forth a b) = (i, m, sym a, sym b)
          at (back a b) = absurd (omega (arith, (good e total p.well i m).ordered))
          at (elsewhere z) = absurd (omega arith)

  -- its edges rise
  rises-at : (i j : ℕ) → i < j → j < listed e → place_of (end_v e i) (end_w e i) < place_of (end_v e j) (end_w e j)
  rises-at i j h l =
      let a = (good e total p.well i (omega arith)).vertex in
      let few = p.few in
      ⊎_elim (λ q. omega arith) (λ q. omega arith) (all-before e total p.well i j h l)

module _ (e f : List ℕ) (total : ℕ) (p : Passed e total) (q : Passed f total) (same : SameOn total (graph_of e) (graph_of f)) where
  count : listed e ≡ listed f
  count =
      sym (edges-to e total p.well (listed e) (omega arith))
      ∙ sym (edges-same total (graph_of e) (graph_of f) same)
      ∙ edges-to f total q.well (listed f) (omega arith)

  -- an edge of one list is in the other
  across : (i : ℕ) → i < listed e → (j : ℕ) × (j < listed f) × (place_of (end_v f j) (end_w f j) ≡ place_of (end_v e i) (end_w e i))
  across i l =
      let g = good e total p.well i l in
      let v = end_v e i in
      let w = end_w e i in
      let at = same v w (omega arith) g.vertex in
      let r = found f total q v w g.ordered (omega (arith, at, linked e total p i l)) in
      (r.0, r.1, rw (r.2, r.3) refl)

-- so two well-formed lists of one graph are the same
pub list_same : (e f : List ℕ) (total : ℕ) → Passed e total → Passed f total → SameOn total (graph_of e) (graph_of f) → e ≡ f
list_same e f total p q same = ext_get_or 0 e f size at
  where
    n : listed e ≡ listed f
    n = count e f total p q same

    size : length e ≡ length f
    size = omega (arith, n, p.even, q.even)

    back : SameOn total (graph_of f) (graph_of e)
    back v w l m = sym (same v w l m)

    places : (i : ℕ) → i < listed e → place_of (end_v e i) (end_w e i) ≡ place_of (end_v f i) (end_w f i)
    places =
        rising_same (listed e) (λ i. place_of (end_v e i) (end_w e i)) (λ i. place_of (end_v f i) (end_w f i))
        (rises-at e total p) (λ i j h l. rises-at f total q i j h (omega (arith, n)))
        (λ i l. let r = across e f total p q same i l in (r.0, omega (arith, n, r.1), r.2))
        (λ i l. let r = across f e total q p back i (omega (arith, n)) in (r.0, r.1, r.2))

    ends : (i : ℕ) → i < listed e → (end_v e i ≡ end_v f i) × (end_w e i ≡ end_w f i)
    ends i l =
        let a = (good e total p.well i l).vertex in
        let b = (good f total q.well i (omega (arith, n))).vertex in
        let few = p.few in
        let r = places i l in
        (omega arith, omega arith)

    at : (k : ℕ) → k < length e → get_or e k 0 ≡ get_or f k 0
    at k l = go (dec_lt 0 (k % 2))
      where
        go : Dec (0 < k % 2) → get_or e k 0 ≡ get_or f k 0
        go (yes h) = let s : k ≡ 2 * (k / 2) + 1 = omega arith in rw s (ends (k / 2) (omega (arith, p.even))).1
        go (no h) = let s : k ≡ 2 * (k / 2) = omega arith in rw s (ends (k / 2) (omega (arith, p.even))).0

-- and a well-formed list is that of its graph
pub list_back : (e : List ℕ) (total : ℕ) → Passed e total → list_of total (graph_of e) ≡ e
list_back e total p =
    list_same (list_of total (graph_of e)) e total listed-passed p (λ v w l m. sym (list-graph total (graph_of e) simple v w l m))
  where
    simple : Simple total (graph_of e)
    simple = list-simple e total p.well

    listed-passed : Passed (list_of total (graph_of e)) total
    listed-passed =
        record { few = p.few; even = list-even total (graph_of e) p.few; well = list-well total (graph_of e) p.few }
