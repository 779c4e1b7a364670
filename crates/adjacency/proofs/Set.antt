-- One edge set in the bytes: the byte read at any place, and that it adds or removes that edge alone.
-- Assumes nothing.
use mathlib.Core.Path.{◌≡◌, ◌∙◌}
use mathlib.Core.Logic.{◌≢◌, ◌⊎◌, ⊎_elim}
use mathlib.Core.List.{List}
use Prim.Native.Nat.{ℕ, ◌+◌, ◌*◌, ◌≤◌, ◌<◌}
use native.Mathlib.Omega.{arith}
use lib.ListN.{length, set, length-set}
use lib.Seq.{get_or-set_same, get_or-set_other}
use Rattle.finite.proofs.Delta.{δ-self}
use Rattle.graph.specs.Graph.{at_edge, AddsEdge}
use Rattle.graph.proofs.Edge.{Place, forth, back, elsewhere, place, at_edge-here, at_edge-back, at_edge-sym}
use Rattle.adjacency.specs.Adjacency.{side, adjacency_size, edge, set_edge}

pub set-length : (g : List ℕ) (v w x : ℕ) → length (set_edge g v w x) ≡ length g
set-length g v w x = simp length-set

-- a place where the edge v – w does not stand is neither of its two
apart_forth : (v w a b : ℕ) → at_edge v w a b ≡ 0 → (a ≡ v) × (b ≡ w) → ⊥
apart_forth v w a b e p = let z = rw (p.0, p.1, δ-self v, δ-self w) at e in omega arith

apart_back : (v w a b : ℕ) → at_edge v w a b ≡ 0 → (a ≡ w) × (b ≡ v) → ⊥
apart_back v w a b e p = apart_forth v w b a (at_edge-sym v w b a ∙ e) (p.1, p.0)

module _ (g : List ℕ) (v w x : ℕ) (long : length g ≡ adjacency_size) (vs : v < side) (ws : w < side) where
  -- x at both places of the edge
  pub set_back : edge (set_edge g v w x) w v ≡ x
  set_back = get_or-set_same (set g (v * side + w) x) (w * side + v) x 0 (rw length-set (omega arith))

  pub set_here : v ≢ w → edge (set_edge g v w x) v w ≡ x
  set_here h =
      get_or-set_other (set g (v * side + w) x) (w * side + v) (v * side + w) x 0 (omega arith)
      ∙ get_or-set_same g (v * side + w) x 0 (omega arith)

  -- every other place as it was
  pub set_other : (a b : ℕ) → a < side → b < side → ((a ≡ v) × (b ≡ w) → ⊥) → ((a ≡ w) × (b ≡ v) → ⊥) → edge (set_edge g v w x) a b ≡ edge g a b
  set_other a b ha hb p q =
      get_or-set_other (set g (v * side + w) x) (w * side + v) (a * side + b) x 0 (λ e. q (omega arith))
      ∙ get_or-set_other g (v * side + w) (a * side + b) x 0 (λ e. p (omega arith))

module _ (n : ℕ) (g : List ℕ) (v w : ℕ) (long : length g ≡ adjacency_size) (vs : v < side) (ws : w < side) (ns : n ≤ side) (apart : v ≢ w) where
  pub set-adds : edge g v w ≡ 0 → edge g w v ≡ 0 → AddsEdge n (edge g) v w (edge (set_edge g v w 1))
  set-adds p q a b ha hb = go (place v w a b)
    where
      go : Place v w a b → edge (set_edge g v w 1) a b ≡ edge g a b + at_edge v w a b
      go (forth i j) = rw (i, j) (omega (arith, p, set_here g v w 1 long vs ws apart, at_edge-here v w apart))
      go (back i j) = rw (i, j) (omega (arith, q, set_back g v w 1 long vs ws, at_edge-back v w apart))
      go (elsewhere e) =
          omega (arith, e, set_other g v w 1 long vs ws a b (omega arith) (omega arith) (apart_forth v w a b e) (apart_back v w a b e))

  pub set-removes : edge g v w ≡ 1 → edge g w v ≡ 1 → AddsEdge n (edge (set_edge g v w 0)) v w (edge g)
  set-removes p q a b ha hb = go (place v w a b)
    where
      go : Place v w a b → edge g a b ≡ edge (set_edge g v w 0) a b + at_edge v w a b
      go (forth i j) = rw (i, j) (omega (arith, p, set_here g v w 0 long vs ws apart, at_edge-here v w apart))
      go (back i j) = rw (i, j) (omega (arith, q, set_back g v w 0 long vs ws, at_edge-back v w apart))
      go (elsewhere e) =
          omega (arith, e, set_other g v w 0 long vs ws a b (omega arith) (omega arith) (apart_forth v w a b e) (apart_back v w a b e))

  -- outside the vertices nothing changes
  pub set-outside : (x : ℕ) → v < n → w < n → (a b : ℕ) → a < side → b < side → (n ≤ a) ⊎ (n ≤ b) → edge (set_edge g v w x) a b ≡ edge g a b
  set-outside x vn wn a b ha hb h = ⊎_elim (λ l. off (λ e. omega arith) (λ e. omega arith)) (λ l. off (λ e. omega arith) (λ e. omega arith)) h
    where
      off : ((a ≡ v) × (b ≡ w) → ⊥) → ((a ≡ w) × (b ≡ v) → ⊥) → edge (set_edge g v w x) a b ≡ edge g a b
      off = set_other g v w x long vs ws a b ha hb
