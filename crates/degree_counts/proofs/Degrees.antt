-- What counting edge by edge makes of the degrees: those of the edges so far, at most 2 for each.
-- Assumes nothing.
use mathlib.Core.Path.{◌≡◌, sym, ap, ◌∙◌}
use mathlib.Core.List.{List}
use Prim.Native.Nat.{ℕ, zero, suc, ◌+◌, ◌*◌, ◌≤◌, ◌<◌}
use native.Mathlib.Nat.{add_assoc}
use native.Mathlib.Numerals.{add-one}
use native.Mathlib.Decide.{ℕ_discrete}
use native.Mathlib.Omega.{arith}
use lib.Dec.{ltb}
use lib.ListN.{length, get_or, replicate, length-set}
use borrow.Author.Tests.{ltb-false}
use Rattle.finite.specs.Range.{δ}
use Rattle.finite.proofs.Delta.{δ-same, δ-other, δ-le}
use Rattle.finite.proofs.Lowest.{lowest-before, lowest-cong}
use Rattle.finite.proofs.Sum.{sum_to-none, sum_to-mono, sum_to-const, sum_to-cong, sum_to-zero}
use Rattle.graph.specs.Graph.{degree, size, isolated}
use Rattle.graph.specs.Tests.{most_degree}
use Rattle.graph.proofs.Update.{degree-adds}
use Rattle.slices.proofs.Zero.{get_or-zeros}
use Rattle.table.proofs.Matrix.{add-here, add_apart}
use Rattle.layout.specs.Layout.{most_vertices}
use Rattle.edge_lists.specs.EdgeList.{listed, end_v, end_w, first_bad_edge, graph_of}
use Rattle.edge_lists.proofs.List.{graph_to, Good, good, graph_to-adds}
use Rattle.degree_counts.specs.Above.{first_above}
use Rattle.degree_counts.specs.Inner.Degrees.{add_at, count_edge, degree_in, HasDegrees, first_above_in, isolated_in}

-- one more at place p
one_more : (t : List ℕ) (p q : ℕ) → p < length t → get_or (add_at t p 1) q 0 ≡ get_or t q 0 + δ q p
one_more t p q l = go (ℕ_discrete q p)
  where
    go : Dec (q ≡ p) → get_or (add_at t p 1) q 0 ≡ get_or t q 0 + δ q p
    go (yes h) = rw (δ-same q p h) (add-here t q p 1 l h)
    go (no h) = rw (δ-other q p h) (add_apart t q p 1 h)

pub length-count_edge : (x y : ℕ) (d : List ℕ) → length (count_edge x y d) ≡ length d
length-count_edge x y d = length-set (add_at d x 1) y _ ∙ length-set d x _

degree-count_edge : (x y : ℕ) (d : List ℕ) → x < length d → y < length d → (v : ℕ) → degree_in (count_edge x y d) v ≡ degree_in d v + (δ v x + δ v y)
degree-count_edge x y d xl yl v =
    one_more (add_at d x 1) y v (rw (length-set d x (get_or d x 0 + 1)) yl)
    ∙ ap (λ (m : ℕ). m + δ v y) (one_more d x v xl)
    ∙ add_assoc (degree_in d v) (δ v x) (δ v y)

-- no edges, no degrees
pub degrees_none : (e : List ℕ) (total : ℕ) → HasDegrees (replicate most_vertices 0) total (graph_to e 0)
degrees_none e total v l = get_or-zeros most_vertices v ∙ sym (sum_to-zero total (graph_to e 0 v) (λ w m. sum_to-none _))

-- one edge more
pub degrees_more : (e : List ℕ) (total i : ℕ) (d : List ℕ) → total ≤ most_vertices → Good e total i → length d ≡ most_vertices
    → HasDegrees d total (graph_to e i) → HasDegrees (count_edge (end_v e i) (end_w e i) d) total (graph_to e (i + 1))
degrees_more e total i d few g s h v l =
    degree-count_edge (end_v e i) (end_w e i) d (omega (arith, g.ordered, g.vertex)) (omega (arith, g.vertex)) v
    ∙ ap (λ (m : ℕ). m + (δ v (end_v e i) + δ v (end_w e i))) (h v l)
    ∙ sym (degree-adds total (graph_to e i) (graph_to e (i + 1)) (end_v e i) (end_w e i) (graph_to-adds e total i)
    (omega (arith, g.ordered, g.vertex)) g.vertex v l)

-- no class has more vertices than there are
pub class_most : (n : ℕ) (cls : ℕ → ℕ) (k : ℕ) → size n cls k ≤ n
class_most n cls k = omega (arith, sum_to-mono n (λ v. δ (cls v) k) (λ v. 1) (λ v h. δ-le (cls v) k), sum_to-const 1 n)

module _ (e : List ℕ) (total : ℕ) (well : first_bad_edge e total ≡ listed e) where
  pub degree-most : (v n : ℕ) → v < total → n ≤ listed e → degree total (graph_to e n) v ≤ 2 * n
  degree-most v zero l h = omega (arith, sum_to-zero total (graph_to e 0 v) (λ w m. sum_to-none _))
  degree-most v (suc n) l h =
      let g = good e total well n (omega arith) in
      rw (← (add-one n))
      (omega (
        arith,
        degree-adds total (graph_to e n) (graph_to e (n + 1)) (end_v e n) (end_w e n) (graph_to-adds e total n) (omega arith) (omega arith) v l,
        δ-le v (end_v e n),
        δ-le v (end_w e n),
        degree-most v n l (omega arith),
      ))

  module _ (low : first_above e total ≡ total) where
    pub degree-low : (v : ℕ) → v < total → degree total (graph_of e) v ≤ most_degree
    degree-low v l =
        ltb-false most_degree (degree total (graph_of e) v)
        (lowest-before 0 total (λ v. ltb most_degree (degree total (graph_of e) v)) (omega arith) v (omega arith) (rw low l))

-- what the array says of the vertices is what the graph says
module _ (e d : List ℕ) (total : ℕ) (has : HasDegrees d total (graph_of e)) where
  pub above_same : first_above_in d total ≡ first_above e total
  above_same =
      lowest-cong 0 total (λ v. ltb most_degree (degree_in d v)) (λ v. ltb most_degree (degree total (graph_of e) v))
      (λ v m l. ap (ltb most_degree) (has v l))

  pub isolated-same : isolated_in d total ≡ isolated total (graph_of e)
  isolated-same = sum_to-cong total (λ v. δ (degree_in d v) 0) (λ v. δ (degree total (graph_of e) v) 0) (λ v l. ap (λ (m : ℕ). δ m 0) (has v l))
