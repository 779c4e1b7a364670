-- What the code of switching keeps beside the matrix, and what it may rely on.
-- Assumes nothing.
use Rattle.std.specs.Prelude.{◌≡◌, Bool, false, ◌&&◌, not, List, ◌≢◌, ℕ, ◌+◌, ◌-◌, ◌≤◌, ◌<◌, eqb, ltb, length, get_or, set}
use Rattle.finite.specs.Range.{lowest}
use Rattle.graph.specs.Switch.{unsaturated, or_else}
use Rattle.graph.specs.Tests.{most_degree, class_degree}
use Rattle.adjacency.specs.Adjacency.{adjacency_size, side, edge}
use Rattle.classes.specs.Inner.Block.{Numbered, class_from}
use Rattle.switching.specs.declared.End.{End}

-- how many bytes of a row are tested at once
abbrev pub lanes : ℕ
lanes = 16

-- the degrees after the edge v – w was added, or removed
abbrev pub with_edge : List ℕ → ℕ → ℕ → List ℕ
with_edge degrees v w = set (set degrees w (get_or degrees w 0 + 1)) v (get_or degrees v 0 + 1)

abbrev pub without_edge : List ℕ → ℕ → ℕ → List ℕ
without_edge degrees v w = set (set degrees v (get_or degrees v 0 - 1)) w (get_or degrees w 0 - 1)

-- the edge v – w may be removed, or added: there are bytes for it, and one to take away from either degree, or room
abbrev pub Unlinkable : List ℕ → List ℕ → ℕ → ℕ → Type 0
Unlinkable g degrees v w =
    (length g ≡ adjacency_size) × (v < side) × (w < side) × (v ≢ w) × ((0 < get_or degrees v 0) × (0 < get_or degrees w 0))

abbrev pub Linkable : List ℕ → List ℕ → ℕ → ℕ → Type 0
Linkable g degrees v w =
    (length g ≡ adjacency_size) × (v < side) × (w < side) × (v ≢ w) × ((get_or degrees v 0 ≤ most_degree) × (get_or degrees w 0 ≤ most_degree))

-- where a substitute for a is searched: a's class is known, and all its vertices before `low` but `other` are saturated
pub record Placed (n : ℕ) (starts g : List ℕ) (a : End) (other : ℕ) : Type 0 where
  pub numbered : Numbered n starts
  pub class : a.class ≡ class_from starts a.at
  pub after : get_or starts a.class 0 ≤ a.low
  pub before : a.low ≤ get_or starts (a.class + 1) 0
  pub saturated : (i : ℕ) → i < a.low → class_from starts i ≡ a.class → (i ≡ other → ⊥) → unsaturated n (class_from starts) class_degree (edge g) i ≡ false

-- b, of a class with degree k, may stand in for a vertex of it; `degrees` has the edges of each
abbrev pub can_stand_in : List ℕ → ℕ → ℕ → ℕ → Bool
can_stand_in degrees k other b = ltb (get_or degrees b 0) k && not (eqb b other)

-- the lowest vertex of a's class from `low` on that may stand in for a; `other` where there is none
abbrev pub substitute_in : List ℕ → List ℕ → End → ℕ → ℕ
substitute_in degrees starts a other =
    or_else (get_or starts (a.class + 1) 0) other
    (lowest a.low (get_or starts (a.class + 1) 0) (can_stand_in degrees (class_degree a.class) other))
