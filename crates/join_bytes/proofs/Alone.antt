-- A join without a switch sets the bytes of its edge and no others, and so is every join of two vertices that have room.
-- Assumes nothing.
use mathlib.Core.Path.{◌≡◌, refl, sym, ap, subst, ◌∙◌}
use mathlib.Core.Bool.{Bool, true, false, cond}
use mathlib.Core.List.{List}
use Prim.Native.Nat.{ℕ}
use Rattle.answer.specs.declared.switches.Switch.{Switch}
use Rattle.answer.specs.declared.switches.Switches.{Switches}
use Rattle.answer.specs.declared.switches.Switches.TheVariants.{None, One, Two}
use Rattle.graph.specs.Switch.{unsaturated}
use Rattle.adjacency.specs.Adjacency.{edge, set_edge}
use Rattle.join_bytes.specs.Join.{neighbor_switch, relieve_bytes, join_bytes, in_order, join_switches}
use Rattle.graph.specs.Tests.{class_degree}

abbrev IsNone : Switches → Type 0
IsNone None = Unit {0}
IsNone (One x) = ⊥
IsNone (Two x y) = ⊥

none_ordered : (a b : Bool) (x y : Switch) → in_order a b x y ≡ None → (a ≡ true) × (b ≡ true)
none_ordered true true x y e = (refl, refl)
none_ordered false true x y e = absurd (subst IsNone (sym e) tt)
none_ordered true false x y e = absurd (subst IsNone (sym e) tt)
none_ordered false false x y e = absurd (subst IsNone (sym e) tt)

module _ (n : ℕ) (cls : ℕ → ℕ) where
  -- where there is room, nothing is switched
  relieve-left : (g : List ℕ) (a o : ℕ) → unsaturated n cls class_degree (edge g) a ≡ true → relieve_bytes n cls g a o ≡ g
  relieve-left g a o p = ap (λ (u : Bool). cond u g (neighbor_switch n cls g a o)) p

  module _ (g : List ℕ) (v w : ℕ) where
    pub room_none : unsaturated n cls class_degree (edge g) v ≡ true → unsaturated n cls class_degree (edge g) w ≡ true → join_switches n cls g v w ≡ None
    room_none p q = rw (p, q)

    pub none_alone : join_switches n cls g v w ≡ None → join_bytes n cls g v w ≡ set_edge g v w 1
    none_alone e =
        let h = relieve_bytes n cls g v w in
        let r = none_ordered (unsaturated n cls class_degree (edge g) v) (unsaturated n cls class_degree (edge h) w) _ _ e in
        ap (λ (x : List ℕ). set_edge x v w 1) (relieve-left h w v r.1 ∙ relieve-left g v w r.0)
