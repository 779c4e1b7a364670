-- The edge list of a simple graph, read two bytes at a time, is an order of its edges.
-- Assumes nothing.
use mathlib.Core.Path.{◌≡◌, sym, ap, ◌∙◌}
use mathlib.Core.List.{List, [], ◌∷◌}
use mathlib.Core.Logic.{◌⊎◌, ⊎_elim}
use mathlib.Core.Bool.{true}
use Prim.Native.Nat.{ℕ, ◌+◌, ◌*◌, ◌≤◌, ◌<◌}
use native.Mathlib.Nat.{one-mul}
use native.Mathlib.Omega.{arith}
use Rattle.finite.proofs.Sum.{sum_to-none, sum_to-zero}
use Rattle.graph.specs.Graph.{Graph, Simple, at_edge}
use Rattle.graph.proofs.Edge.{Place, forth, back, elsewhere, place}
use Rattle.layout.specs.Layout.{most_vertices}
use Rattle.edge_lists.specs.EdgeList.{listed, end_v, end_w, graph_of, list_of}
use Rattle.edge_lists.proofs.Pairs.{over, over-append, one_over, Rising}
use Rattle.edge_lists.proofs.Listed.{list-rising, list-graph}
use Rattle.demands.specs.WithinReach.{named, Order, pairs_in, ascending}

-- what the pairs of a list name is the graph of the list
named-graph : (e : List ℕ) (v w : ℕ) → named (pairs_in e) v w ≡ graph_of e v w
named-graph [] v w = sym (sum_to-none (λ i. at_edge (end_v [] i) (end_w [] i) v w))
named-graph (x ∷ []) v w = sym (sum_to-none (λ i. at_edge (end_v (x ∷ []) i) (end_w (x ∷ []) i) v w))
named-graph (x ∷ y ∷ e) v w =
    ap (λ (s : ℕ). at_edge x y v w + s) (named-graph e v w)
    ∙ ap (λ (s : ℕ). s + graph_of e v w) (sym (one_over at true x y ∙ one-mul (at x y)))
    ∙ sym (over-append (x ∷ y ∷ []) e 1 (omega arith) at (listed e))
    ∙ ap (λ (m : ℕ). over m at (x ∷ y ∷ e)) more
  where
    at : ℕ → ℕ → ℕ
    at a b = at_edge a b v w

    more : 1 + listed e ≡ listed (x ∷ y ∷ e)
    more = omega arith

module _ (n : ℕ) (H : Graph) (few : n ≤ most_vertices) where
  -- each edge listed has both its ends below n
  listed-inside : (v w : ℕ) → (n ≤ v) ⊎ (n ≤ w) → (i : ℕ) → i < listed (list_of n H) → at_edge (end_v (list_of n H) i) (end_w (list_of n H) i) v w ≡ 0
  listed-inside v w o i l = go (place (end_v e i) (end_w e i) v w)
    where
      e : List ℕ
      e = list_of n H

      rising : Rising n 0 (n * most_vertices) (listed e) e
      rising = list-rising n H few

      go : Place (end_v e i) (end_w e i) v w → at_edge (end_v e i) (end_w e i) v w ≡ 0
      go (forth p q) = absurd (⊎_elim (λ h. omega (arith, rising.ordered i l, rising.vertex i l)) (λ h. omega (arith, rising.vertex i l)) o)
      go (back p q) = absurd (⊎_elim (λ h. omega (arith, rising.vertex i l)) (λ h. omega (arith, rising.ordered i l, rising.vertex i l)) o)
      go (elsewhere p) = p

  pub ascending-order : Simple n H → Order n H (ascending n H)
  ascending-order s =
      record {
        once = λ v w l m. omega (arith, named-graph (list_of n H) v w, list-graph n H s v w l m, s.binary v w l m);
        no_other = λ v w o.
            named-graph (list_of n H) v w
            ∙ sum_to-zero (listed (list_of n H)) (λ i. at_edge (end_v (list_of n H) i) (end_w (list_of n H) i) v w) (listed-inside v w o);
      }
