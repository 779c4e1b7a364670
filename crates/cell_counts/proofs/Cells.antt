-- What counting edge by edge makes of the cells: the joint degree matrix of the edges so far. Each cell is bounded.
-- Assumes nothing.
use mathlib.Core.Path.{◌≡◌, sym, ap, ◌∙◌}
use mathlib.Core.List.{List}
use mathlib.Core.Logic.{◌≢◌}
use Prim.Native.Nat.{ℕ, zero, suc, ◌+◌, ◌*◌, ◌≤◌, ◌<◌, min, max}
use native.Mathlib.Nat.{mul-one, mul-le-mul_left}
use native.Mathlib.Numerals.{add-one}
use native.Mathlib.Decide.{ℕ_discrete, dec_lt}
use native.Mathlib.Omega.{arith}
use lib.Dec.{ltb}
use lib.ListN.{length, get_or, length-set}
use borrow.Author.Tests.{lt-ltb, le-ltb, eq-eqb, ne_eqb}
use Rattle.finite.specs.Range.{δ}
use Rattle.finite.proofs.All.{and-false}
use Rattle.finite.proofs.Delta.{δ-self, δ-le}
use Rattle.finite.proofs.Sum.{sum_to-none, sum_to-mono, sum_to-const}
use Rattle.graph.specs.Graph.{degree, jdm, times_counted, at_edge}
use Rattle.graph.specs.Tests.{most_degree, most_classes}
use Rattle.graph.proofs.Edge.{Place, forth, back, elsewhere, place as placed, at_edge-here, at_edge-back}
use Rattle.graph.proofs.Matrix.{jdm-cong, jdm-empty}
use Rattle.graph.proofs.Update.{handshake, jdm-adds}
use Rattle.table.specs.Inner.Cells.{cells_size, place, matrix_of}
use Rattle.table.proofs.Matrix.{cells_of_none, add-here, add_apart, place-below, matrix_none}
use Rattle.layout.specs.Layout.{most_vertices}
use Rattle.edge_lists.specs.EdgeList.{listed, end_v, end_w, first_bad_edge, graph_of}
use Rattle.edge_lists.proofs.List.{graph_to, Good, good, graph_to-adds, simple_to, edges-to}
use Rattle.table_records.specs.Inner.Bounds.{cell_most_own, CellsSmall}
use Rattle.degree_counts.specs.Above.{first_above}
use Rattle.degree_counts.proofs.Degrees.{degree-low}
use Rattle.cell_counts.specs.Inner.Cells.{count_cell, HasCells}

-- 1. One edge more.

-- a place is two digits, the lower degree and the higher
digits : (m n p q : ℕ) → n < most_classes → q < most_classes → m * most_classes + n ≡ p * most_classes + q → (m ≡ p) × (n ≡ q)
digits m n p q hn hq e = (omega arith, omega arith)

-- where an edge counts, it counts as equation (1) has it
same-pair : (a b k l : ℕ) → min k l ≡ min a b → max k l ≡ max a b → times_counted a b ≡ at_edge a b k l
same-pair a b k l lower higher = go (ℕ_discrete a b) (ℕ_discrete k a)
  where
    go : Dec (a ≡ b) → Dec (k ≡ a) → times_counted a b ≡ at_edge a b k l
    go (yes p) q =
        let r : k ≡ b = omega arith in
        let s : l ≡ b = omega arith in
        rw (eq-eqb a b p, p, r, s, δ-self b)
    go (no p) (yes q) =
        let r : l ≡ b = omega arith in
        rw (ne_eqb a b p, q, r) (sym (at_edge-here a b p))
    go (no p) (no q) =
        let r : k ≡ b = omega arith in
        let s : l ≡ a = omega arith in
        rw (ne_eqb a b p, r, s) (sym (at_edge-back a b p))

module _ (a b k l : ℕ) (ha : a < most_classes) (hb : b < most_classes) (hk : k < most_classes) (hl : l < most_classes) where
  counted-here : place k l ≡ place a b → times_counted a b ≡ at_edge a b k l
  counted-here e =
      let d = digits (min k l) (max k l) (min a b) (max a b) (omega arith) (omega arith) e in
      same-pair a b k l d.0 d.1

  counted-apart : place k l ≢ place a b → at_edge a b k l ≡ 0
  counted-apart h = go (placed a b k l)
    where
      go : Place a b k l → at_edge a b k l ≡ 0
      go (forth p q) = absurd (h (omega arith))
      go (back p q) = absurd (h (omega arith))
      go (elsewhere z) = z

  matrix-count_cell : (c : List ℕ) → length c ≡ cells_size → matrix_of (count_cell a b c) k l ≡ matrix_of c k l + at_edge a b k l
  matrix-count_cell c s = rw (lt-ltb k most_classes hk, lt-ltb l most_classes hl) (go (ℕ_discrete (place k l) (place a b)))
    where
      go : Dec (place k l ≡ place a b) → get_or (count_cell a b c) (place k l) 0 ≡ get_or c (place k l) 0 + at_edge a b k l
      go (yes e) =
          rw (← (counted-here e))
          (add-here c (place k l) (place a b) (times_counted a b) (omega (arith, place-below a b 0 0 ha hb (omega arith) (omega arith))) e)
      go (no e) = rw (counted-apart e) (add_apart c (place k l) (place a b) (times_counted a b) e)

pub length-count_cell : (a b : ℕ) (c : List ℕ) → length (count_cell a b c) ≡ length c
length-count_cell a b c = length-set c (place a b) _

pub cells-none : (cls : ℕ → ℕ) (e : List ℕ) (total : ℕ) → HasCells cells_of_none total cls (graph_to e 0)
cells-none cls e total k l hk hl =
    ap (λ (T : ℕ → ℕ → ℕ). T k l) matrix_none
    ∙ sym (jdm-cong total cls (graph_to e 0) (λ v w. 0) (λ v w p q. sum_to-none _) k l ∙ jdm-empty total cls k l)

pub cells-more : (cls : ℕ → ℕ) (e : List ℕ) (total i : ℕ) (c : List ℕ) → Good e total i → cls (end_v e i) < most_classes → cls (end_w e i) < most_classes
    → length c ≡ cells_size → HasCells c total cls (graph_to e i)
    → HasCells (count_cell (cls (end_v e i)) (cls (end_w e i)) c) total cls (graph_to e (i + 1))
cells-more cls e total i c g ha hb s h k l hk hl =
    matrix-count_cell (cls (end_v e i)) (cls (end_w e i)) k l ha hb hk hl c s
    ∙ ap (λ (m : ℕ). m + at_edge (cls (end_v e i)) (cls (end_w e i)) k l) (h k l hk hl)
    ∙ sym (jdm-adds total (graph_to e i) (graph_to e (i + 1)) (end_v e i) (end_w e i) (graph_to-adds e total i)
    (omega (arith, g.ordered, g.vertex)) g.vertex cls k l)

-- 2. Bounds.

at_edge-le : (a b k l : ℕ) → at_edge a b k l ≤ 2
at_edge-le a b k l = omega (arith, one k a l b, one k b l a)
  where
    one : (p q r s : ℕ) → δ p q * δ r s ≤ 1
    one p q r s = omega (arith, mul-le-mul_left (δ p q) (δ-le r s), mul-one (δ p q), δ-le p q)

module _ (e : List ℕ) (total : ℕ) (well : first_bad_edge e total ≡ listed e) where
  pub jdm-most : (cls : ℕ → ℕ) (k l n : ℕ) → n ≤ listed e → jdm total cls (graph_to e n) k l ≤ 2 * n
  jdm-most cls k l zero h =
      omega (arith, jdm-cong total cls (graph_to e 0) (λ v w. 0) (λ v w p q. sum_to-none _) k l, jdm-empty total cls k l)
  jdm-most cls k l (suc n) h =
      let g = good e total well n (omega arith) in
      rw (← (add-one n))
      (omega (
        arith,
        jdm-adds total (graph_to e n) (graph_to e (n + 1)) (end_v e n) (end_w e n) (graph_to-adds e total n) (omega arith) (omega arith) cls k l,
        at_edge-le (cls (end_v e n)) (cls (end_w e n)) k l,
        jdm-most cls k l n (omega arith),
      ))

  module _ (low : first_above e total ≡ total) where
    -- 200 vertices of degree 40 have 4,000 edges
    pub few_edges : total ≤ most_vertices → 2 * listed e ≤ cell_most_own
    few_edges few =
        omega (
          arith,
          handshake total (graph_of e) (simple_to e total well (listed e) (omega arith)),
          edges-to e total well (listed e) (omega arith),
          sum_to-mono total (degree total (graph_of e)) (λ v. most_degree) (degree-low e total well low),
          sum_to-const most_degree total,
        )

    pub cells-small : total ≤ most_vertices → (cls : ℕ → ℕ) (c : List ℕ) (n : ℕ) → n ≤ listed e → HasCells c total cls (graph_to e n) → CellsSmall c
    cells-small few cls c n h has k l = go (dec_lt k most_classes) (dec_lt l most_classes)
      where
        go : Dec (k < most_classes) → Dec (l < most_classes) → matrix_of c k l ≤ cell_most_own
        go (yes p) (yes q) = rw (has k l p q) (omega (arith, jdm-most cls k l n h, few_edges few))
        go (yes p) (no q) = rw (le-ltb l most_classes (omega arith), and-false (ltb k most_classes)) (omega arith)
        go (no p) q = rw (le-ltb k most_classes (omega arith)) (omega arith)

-- a small cell as it stands in the array
pub cell_room : (c : List ℕ) (k l : ℕ) → CellsSmall c → k < most_classes → l < most_classes → get_or c (place k l) 0 ≤ cell_most_own
cell_room c k l h hk hl = rw (lt-ltb k most_classes hk, lt-ltb l most_classes hl) at (h k l)
