-- The neighbour switch works, for all degrees together (point 4 of specs/Theorems.antt): it keeps every cell and moves one edge
-- from the saturated vertex a to b, so that a can be linked to o.
-- Assumes nothing.
use mathlib.Core.Path.{◌≡◌, sym, ap, ◌∙◌}
use mathlib.Core.Logic.{◌≢◌}
use Prim.Native.Nat.{ℕ, ◌+◌, ◌≤◌, ◌<◌}
use native.Mathlib.Decide.{ℕ_discrete}
use native.Mathlib.Omega.{arith}
use Rattle.finite.specs.Range.{δ}
use Rattle.finite.proofs.Delta.{δ-self, δ-other}
use Rattle.graph.specs.Graph.{Graph, Simple, degree, jdm, at_edge}
use Rattle.graph.specs.Target.{Partial, Open}
use Rattle.graph.specs.Switch.{Switched}
use Rattle.graph.specs.Theorems.{Updated, Choices, Kept, SwitchWorks}
use Rattle.graph.proofs.Edge.{Place, forth, back, elsewhere, place}
use Rattle.graph.proofs.Update.{adding_updates, removing_updates}
use Rattle.graph.proofs.Choice.{choices}

-- with b and t as chosen, through the graph without the edge a – t
module _ (n C : ℕ) (cls deg : ℕ → ℕ) (T : ℕ → ℕ → ℕ) (E : Graph) (a o b t : ℕ)
    (partial : Partial n C cls deg T E) (pair : Open n cls T E a o) (chosen : Choices n C cls deg T E a o b t)
    (E' : Graph) (switched : Switched n E a b t E') where
  removal : Simple n switched.between × (switched.between a t ≡ 0) × Updated n cls switched.between a t E
  removal =
      removing_updates n cls switched.between E a t pair.first chosen.t_vertex (λ e. chosen.t_not_a (sym e))
      switched.removed partial.simple

  addition : Simple n E' × (E' b t ≡ 1) × Updated n cls switched.between b t E'
  addition =
      adding_updates n cls switched.between E' b t chosen.b_vertex chosen.t_vertex (λ e. chosen.t_not_b (sym e))
      switched.added removal.0
      (omega (arith, switched.removed b t chosen.b_vertex chosen.t_vertex, chosen.t_unlinked))

  -- b has a's class, so what the removal takes from a cell the addition gives back
  cells : (k l : ℕ) → jdm n cls E' k l ≡ jdm n cls E k l
  cells k l =
      addition.2.cells k l
      ∙ ap (λ (c : ℕ). jdm n cls switched.between k l + at_edge c (cls t) k l) chosen.b_class
      ∙ sym (removal.2.cells k l)

  -- how the degrees change, at every vertex
  degrees : (v : ℕ) → v < n → degree n E' v + δ v a ≡ degree n E v + δ v b
  degrees v l = omega (arith, removal.2.degrees v l, addition.2.degrees v l)

  from_a : degree n E' a + 1 ≡ degree n E a
  from_a = omega (arith, degrees a pair.first, δ-self a, δ-other a b (λ e. chosen.b_other (sym e)))

  to_b : degree n E' b ≡ degree n E b + 1
  to_b = omega (arith, degrees b chosen.b_vertex, δ-self b, δ-other b a chosen.b_other)

  others : (v : ℕ) → v < n → v ≢ a → v ≢ b → degree n E' v ≡ degree n E v
  others v l p q = omega (arith, degrees v l, δ-other v a p, δ-other v b q)

  room : (v : ℕ) → v < n → degree n E' v ≤ deg (cls v)
  room v l = go (ℕ_discrete v b)
    where
      go : Dec (v ≡ b) → degree n E' v ≤ deg (cls v)
      go (yes e) = rw e (omega (arith, to_b, chosen.b_room))
      go (no e) = omega (arith, degrees v l, δ-other v b e, partial.room v l)

  -- neither end of the new edge is a
  unlinked : E' a o ≡ 0
  unlinked =
      omega (
        arith,
        switched.added a o pair.first pair.second,
        switched.removed a o pair.first pair.second,
        pair.unlinked,
        go (place b t a o),
      )
    where
      go : Place b t a o → at_edge b t a o ≡ 0
      go (forth p q) = absurd (chosen.b_other (sym p))
      go (back p q) = absurd (chosen.t_not_a (sym p))
      go (elsewhere e) = e

  o_able : degree n E o < deg (cls o) → degree n E' o < deg (cls o)
  o_able h = go (ℕ_discrete o b)
    where
      go : Dec (o ≡ b) → degree n E' o < deg (cls o)
      go (yes e) = omega (arith, chosen.b_last (sym e), ap (degree n E') e, to_b, ap (degree n E) e)
      go (no e) = omega (arith, degrees o pair.second, δ-other o b e)

  pub kept : Kept n C cls deg T E a o b E'
  kept =
      record {
        partial = record { simple = addition.0; within = λ k l kC lC. rw (cells k l) (partial.within k l kC lC); room = room };
        cells = cells;
        from_a = from_a;
        to_b = to_b;
        others = others;
        same_count = omega (arith, removal.2.count, addition.2.count);
        unlinked = unlinked;
        o_able = o_able;
      }

pub switch_works : SwitchWorks
switch_works n C cls deg T E a o target partial pair full =
    let c = choices n C cls deg T E a o target partial pair full in
    (c, λ E' s. kept n C cls deg T E a o _ _ partial pair c E' s)
