-- Lists of pairs that name edges, each once (specs/WithinReach.antt), on functions alone: what such a list says of its first pair, how long it is,
-- and that the next edge of a drawing fits wherever only edges of the drawing lie.
-- Assumes nothing.
use mathlib.Core.Path.{◌≡◌, refl, sym, ap₂, ◌∙◌}
use mathlib.Core.List.{List, [], ◌∷◌}
use mathlib.Core.Logic.{◌≢◌, ◌⊎◌, inl, inr}
use Prim.Native.Nat.{ℕ, ◌+◌, ◌≤◌, ◌<◌}
use native.Mathlib.Decide.{dec_lt}
use native.Mathlib.Omega.{arith}
use lib.ListN.{length}
use Rattle.finite.specs.Range.{δ, sum_to}
use Rattle.finite.proofs.Delta.{δ-self}
use Rattle.finite.proofs.Sum.{sum_to-mono, sum_to-zero}
use Rattle.graph.specs.Graph.{Graph, Simple, degree, edges, jdm, at_edge}
use Rattle.graph.specs.Target.{Open}
use Rattle.graph.specs.Theorems.{Updated}
use Rattle.graph.proofs.Functions.{edge_added}
use Rattle.graph.proofs.Matrix.{jdm-mono}
use Rattle.graph.proofs.Edge.{at_edge-sym}
use Rattle.graph.proofs.Update.{add_edge_adds, edges-same, adding_updates}
use Rattle.demands.specs.WithinReach.{Pair, named, Order}

-- the pairs name no edge but those of E ..
abbrev pub Within : ℕ → Graph → List Pair → Type 0
Within n E ps = (v w : ℕ) → v < n → w < n → named ps v w ≤ E v w

-- .. and nothing that is not between two vertices
abbrev pub NoOther : ℕ → List Pair → Type 0
NoOther n ps = (v w : ℕ) → (n ≤ v) ⊎ (n ≤ w) → named ps v w ≡ 0

-- a pair names its edge
names_itself : (x y : ℕ) → 1 ≤ at_edge x y x y
names_itself x y = rw (δ-self x, δ-self y) (omega arith)

named-sym : (ps : List Pair) (v w : ℕ) → named ps v w ≡ named ps w v
named-sym [] v w = refl
named-sym (p ∷ ps) v w = ap₂ ◌+◌ (at_edge-sym p.0 p.1 v w) (named-sym ps v w)

-- what holds of each pair that is named
pub record EdgeOf (n : ℕ) (E : Graph) (p : Pair) : Type 0 where
  pub first : p.0 < n
  pub second : p.1 < n
  pub distinct : p.0 ≢ p.1
  pub linked : E p.0 p.1 ≡ 1

module _ (n : ℕ) (p : Pair) (ps : List Pair) where
  pub rest_no_other : NoOther n (p ∷ ps) → NoOther n ps
  rest_no_other o v w h = omega (arith, o v w h)

  -- both ends of a pair that is named are vertices
  end_below : (x : ℕ) → (n ≤ x → (n ≤ p.0) ⊎ (n ≤ p.1)) → NoOther n (p ∷ ps) → x < n
  end_below x out o = go (dec_lt x n)
    where
      go : Dec (x < n) → x < n
      go (yes l) = l
      go (no l) = absurd (omega (arith, names_itself p.0 p.1, o p.0 p.1 (out (omega arith))))

  first_below : NoOther n (p ∷ ps) → p.0 < n
  first_below = end_below p.0 inl

  second_below : NoOther n (p ∷ ps) → p.1 < n
  second_below = end_below p.1 inr

  -- the first of the pairs that name edges of a simple graph is one of its edges
  pub first_edge : (E : Graph) → Simple n E → Within n E (p ∷ ps) → NoOther n (p ∷ ps) → EdgeOf n E p
  first_edge E s h o =
      record {
        first = first_below o;
        second = second_below o;
        distinct = λ e. omega (arith, loop e, h p.0 p.0 (first_below o) (first_below o), s.loopless p.0 (first_below o));
        linked =
            omega (
              arith,
              names_itself p.0 p.1,
              h p.0 p.1 (first_below o) (second_below o),
              s.binary p.0 p.1 (first_below o) (second_below o),
            );
      }
    where
      loop : p.0 ≡ p.1 → 1 ≤ at_edge p.0 p.1 p.0 p.0
      loop e = rw (← e) (names_itself p.0 p.0)

-- Such a list is as long as the graph of the edges that it names has edges.
module _ (n : ℕ) (E : Graph) (s : Simple n E) where
  named-simple : (ps : List Pair) → Within n E ps → Simple n (named ps)
  named-simple ps h =
      record {
        binary = λ v w l m. omega (arith, h v w l m, s.binary v w l m);
        symmetric = λ v w l m. named-sym ps v w;
        loopless = λ v l. omega (arith, h v v l l, s.loopless v l);
      }

  named-length : (ps : List Pair) → Within n E ps → NoOther n ps → edges n (named ps) ≡ length ps
  unfolding edges
  named-length [] h o = sum_to-zero n (λ v. sum_to v (named [] v)) (λ v l. sum_to-zero v (named [] v) (λ w m. refl))
  named-length (p ∷ ps) h o =
      let e = first_edge n p ps E s h o in
      let rest : Within n E ps = λ v w l m. omega (arith, h v w l m) in
      let none : named ps p.0 p.1 ≡ 0 =
      omega (arith, names_itself p.0 p.1, h p.0 p.1 e.first e.second, s.binary p.0 p.1 e.first e.second) in
      omega (
        arith,
        (adding_updates n (λ v. v) (named ps) (named (p ∷ ps)) p.0 p.1 e.first e.second e.distinct (λ v w l m. omega arith)
            (named-simple ps rest) none).2.count,
        named-length ps rest (rest_no_other n p ps o),
      )

pub order_length : (n : ℕ) (H : Graph) → Simple n H → (ps : List Pair) → Order n H ps → length ps ≡ edges n H
order_length n H s ps o =
    sym (named-length n H s ps (λ v w l m. omega (arith, o.once v w l m)) o.no_other) ∙ edges-same n H (named ps) o.once

-- The drawing H: a simple graph with each vertex at the degree of its class and every cell at T. E has some of its edges, and the pairs name the others.
module _ (n : ℕ) (cls deg : ℕ → ℕ) (T : ℕ → ℕ → ℕ) (H : Graph) (simple-H : Simple n H) (at-degree : (v : ℕ) → v < n → degree n H v ≡ deg (cls v))
    (at_table : (k l : ℕ) → jdm n cls H k l ≡ T k l) (E : Graph) (simple : Simple n E) (p : Pair) (ps : List Pair)
    (together : (v w : ℕ) → v < n → w < n → E v w + named (p ∷ ps) v w ≡ H v w) (o : NoOther n (p ∷ ps)) where
  edge_of : EdgeOf n H p
  edge_of = first_edge n p ps H simple-H (λ v w l m. omega (arith, together v w l m)) o

  unlinked : E p.0 p.1 ≡ 0
  unlinked =
      omega (arith, names_itself p.0 p.1, together p.0 p.1 edge_of.first edge_of.second, edge_of.linked)

  E' : Graph
  E' = edge_added E p.0 p.1

  -- with the first pair added, there is still nothing but H
  below : (v w : ℕ) → v < n → w < n → E' v w ≤ H v w
  unfolding E'
  below v w l m = omega (arith, together v w l m)

  updated : Updated n cls E p.0 p.1 E'
  unfolding E'
  updated =
      (adding_updates n cls E E' p.0 p.1 edge_of.first edge_of.second edge_of.distinct (add_edge_adds n E p.0 p.1) simple unlinked).2

  -- so both ends have room and the cell is short: the pair is open, and needs no switch
  pub next-open : Open n cls T E p.0 p.1
  next-open =
      record {
        first = edge_of.first;
        second = edge_of.second;
        distinct = edge_of.distinct;
        unlinked = unlinked;
        short =
            omega (
              arith,
              updated.cells (cls p.0) (cls p.1),
              names_itself (cls p.0) (cls p.1),
              jdm-mono n cls E' H below (cls p.0) (cls p.1),
              at_table (cls p.0) (cls p.1),
            );
      }

  room : (v : ℕ) → v < n → 1 ≤ δ v p.0 + δ v p.1 → degree n E v < deg (cls v)
  room v l h = omega (arith, h, updated.degrees v l, sum_to-mono n (E' v) (H v) (λ w m. below v w l m), at-degree v l)

  pub room_first : degree n E p.0 < deg (cls p.0)
  room_first = room p.0 edge_of.first (rw (δ-self p.0) (omega arith))

  pub room_second : degree n E p.1 < deg (cls p.1)
  room_second = room p.1 edge_of.second (rw (δ-self p.1) (omega arith))
