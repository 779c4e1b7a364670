-- What a join leaves alone: each edge that it moves stands in the row of its lower end, and the other rows keep their columns above them.
-- Assumes nothing.
use mathlib.Core.Path.{◌≡◌, refl, sym, ◌∙◌}
use mathlib.Core.Bool.{Bool, true, false, false≢true, cond}
use mathlib.Core.List.{List}
use mathlib.Core.Logic.{◌≢◌}
use Prim.Native.Nat.{ℕ, ◌<◌}
use native.Mathlib.Omega.{arith}
use Rattle.answer.specs.Inner.Moved.{SwitchBelow, RowApart, Each}
use Rattle.answer.specs.declared.switches.Switch.{Switch}
use Rattle.graph.specs.Switch.{unsaturated}
use Rattle.adjacency.specs.Adjacency.{edge, set_edge}
use Rattle.adjacency.proofs.Set.{set-length, set_other}
use Rattle.join_bytes.specs.Join.{transfer_at, switch_at, neighbor_switch, relieve_bytes, join_bytes, in_order, join_switches}
use Rattle.join_bytes.specs.Inner.Joinable.{Joinable}
use Rattle.join_bytes.proofs.Joinable.{switch_below, joinable_next, joinable_last}
use Rattle.graph.specs.Tests.{class_degree}

-- of the switches of both ends, those that were made
each_made : (P : Switch → Type 0) (p q : Bool) (x y : Switch) → (p ≡ false → P x) → (q ≡ false → P y) → Each P (in_order p q x y)
each_made P true true x y f h = tt
each_made P true false x y f h = h refl
each_made P false true x y f h = f refl
each_made P false false x y f h = (f refl, h refl)

made_each : (P : Switch → Type 0) (p q : Bool) (x y : Switch) → Each P (in_order p q x y) → (p ≡ false → P x) × (q ≡ false → P y)
made_each P true true x y e = ((λ h. absurd (false≢true (sym h))), (λ h. absurd (false≢true (sym h))))
made_each P true false x y e = ((λ h. absurd (false≢true (sym h))), (λ h. e))
made_each P false true x y e = ((λ h. e), (λ h. absurd (false≢true (sym h))))
made_each P false false x y e = ((λ h. e.0), (λ h. e.1))

module _ {n : ℕ} {cls : ℕ → ℕ} {g : List ℕ} {a o : ℕ} (j : Joinable n cls g a o) where
  -- room made at a
  relieve-apart : (u z : ℕ) → u < z → z < n → (unsaturated n cls class_degree (edge g) a ≡ false → RowApart u (switch_at n cls g a o))
      → edge (relieve_bytes n cls g a o) u z ≡ edge g u z
  relieve-apart u z uz zn apart = go (unsaturated n cls class_degree (edge g) a) refl
    where
      go : (p : Bool) → unsaturated n cls class_degree (edge g) a ≡ p → edge (cond p g (neighbor_switch n cls g a o)) u z ≡ edge g u z
      go true e = refl
      go false e =
          let below = switch_below j e in
          let off = apart e in
          set_other (set_edge g a (transfer_at n cls g a o) 0) (switch_at n cls g a o).b (switch_at n cls g a o).t 1
          (set-length g a (transfer_at n cls g a o) 0 ∙ j.sized) (omega (arith, below.1, j.few)) (omega (arith, below.2, j.few))
          u z (omega (arith, j.few)) (omega (arith, j.few)) (λ h. omega (arith, h.0, h.1, off.1)) (λ h. omega (arith, h.0, h.1, off.1))
          ∙ set_other g a (transfer_at n cls g a o) 0 j.sized (omega (arith, below.0, j.few)) (omega (arith, below.2, j.few))
          u z (omega (arith, j.few)) (omega (arith, j.few)) (λ h. omega (arith, h.0, h.1, off.0)) (λ h. omega (arith, h.0, h.1, off.0))

module _ {n : ℕ} {cls : ℕ → ℕ} {g : List ℕ} {v w : ℕ} (j : Joinable n cls g v w) where
  -- the join of v and w above it
  pub join_apart : v < w → (u z : ℕ) → u < z → z < n → u ≢ v → Each (RowApart u) (join_switches n cls g v w)
      → edge (join_bytes n cls g v w) u z ≡ edge g u z
  join_apart vw u z uz zn uv apart =
      let parts = made_each (RowApart u) (unsaturated n cls class_degree (edge g) v) (unsaturated n cls class_degree (edge (relieve_bytes n cls g v w)) w)
      (switch_at n cls g v w) (switch_at n cls (relieve_bytes n cls g v w) w v) apart in
      let last = joinable_last j in
      set_other (relieve_bytes n cls (relieve_bytes n cls g v w) w v) v w 1 last.sized
      (omega (arith, last.pair.first, j.few)) (omega (arith, last.pair.second, j.few)) u z (omega (arith, j.few)) (omega (arith, j.few))
      (λ h. uv h.0) (λ h. omega (arith, h.0, h.1))
      ∙ relieve-apart (joinable_next j) u z uz zn parts.1
      ∙ relieve-apart j u z uz zn parts.0

  -- its switches name vertices
  pub switches_below : Each (SwitchBelow n) (join_switches n cls g v w)
  switches_below =
      each_made (SwitchBelow n) (unsaturated n cls class_degree (edge g) v) (unsaturated n cls class_degree (edge (relieve_bytes n cls g v w)) w) (switch_at n cls g v w)
      (switch_at n cls (relieve_bytes n cls g v w) w v) (switch_below j) (switch_below (joinable_next j))
