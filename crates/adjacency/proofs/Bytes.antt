-- Equal edges are equal bytes: two matrices that are the same between the vertices and 0 elsewhere are the same list.
-- Assumes nothing.
use mathlib.Core.Path.{◌≡◌, sym, ap, ◌∙◌}
use mathlib.Core.List.{List}
use mathlib.Core.Logic.{inl, inr}
use Prim.Native.Nat.{ℕ, ◌+◌, ◌*◌, ◌/◌, ◌%◌, ◌<◌}
use native.Mathlib.Decide.{dec_lt}
use native.Mathlib.Omega.{arith}
use lib.ListN.{length, get_or}
use lib.Seq.{ext_get_or}
use Rattle.graph.specs.Graph.{SameOn}
use Rattle.adjacency.specs.Adjacency.{side, adjacency_size, edge}
use Rattle.adjacency.specs.Clauses.{ZeroOutside}

-- equal between the vertices, and 0 elsewhere
pub same_bytes : (n : ℕ) (g h : List ℕ) → length g ≡ adjacency_size → length h ≡ adjacency_size → ZeroOutside n g → ZeroOutside n h
    → SameOn n (edge g) (edge h) → g ≡ h
same_bytes n g h gs hs go ho same = ext_get_or 0 g h (gs ∙ sym hs) at
  where
    pair : (v w : ℕ) → v < side → w < side → Dec (v < n) → Dec (w < n) → edge g v w ≡ edge h v w
    pair v w vs ws (yes p) (yes q) = sym (same v w p q)
    pair v w vs ws (yes p) (no q) = go v w vs ws (inr (omega arith)) ∙ sym (ho v w vs ws (inr (omega arith)))
    pair v w vs ws (no p) d = go v w vs ws (inl (omega arith)) ∙ sym (ho v w vs ws (inl (omega arith)))

    at : (i : ℕ) → i < length g → get_or g i 0 ≡ get_or h i 0
    at i l =
        let e : i ≡ i / side * side + i % side = omega arith in
        ap (λ (k : ℕ). get_or g k 0) e
        ∙ pair (i / side) (i % side) (omega (arith, gs)) (omega arith) (dec_lt (i / side) n) (dec_lt (i % side) n)
        ∙ ap (λ (k : ℕ). get_or h k 0) (sym e)
