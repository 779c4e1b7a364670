-- The neighbour switch and the joining of two vertices, as document 01 ("Joining, lifting, finishing") and
-- document 001 (NeighborSwitch) have them.
-- Assumes nothing.
use Rattle.std.specs.Prelude.{◌≡◌, Bool, true, false, ◌&&◌, not, cond, ℕ, eqb, ltb}
use Rattle.finite.specs.Range.{lowest}
use Rattle.graph.specs.Graph.{Graph, degree, AddsEdge, SameOn}

-- vertex v has fewer edges than its class's degree (document 01: it is not full)
abbrev pub unsaturated : ℕ → (ℕ → ℕ) → (ℕ → ℕ) → Graph → ℕ → Bool
unsaturated n cls deg E v = ltb (degree n E v) (deg (cls v))

-- b may stand in for a: it has a's class, is unsaturated, and is not the other named vertex
abbrev pub can_substitute : ℕ → (ℕ → ℕ) → (ℕ → ℕ) → Graph → ℕ → ℕ → ℕ → Bool
can_substitute n cls deg E a other b = eqb (cls b) (cls a) && unsaturated n cls deg E b && not (eqb b other)

-- the lowest vertex of a, .., z - 1 as the choice, or the given one where the search came to its end z
abbrev pub or_else : ℕ → ℕ → ℕ → ℕ
or_else z other b = cond (ltb b z) b other

-- document 01's b: the lowest such vertex; if there is none, the other named vertex
abbrev pub substitute : ℕ → (ℕ → ℕ) → (ℕ → ℕ) → Graph → ℕ → ℕ → ℕ
substitute n cls deg E a other = or_else n other (lowest 0 n (can_substitute n cls deg E a other))

-- t is not b, is linked to a and is not linked to b
abbrev pub can_transfer : Graph → ℕ → ℕ → ℕ → Bool
can_transfer E a b t = not (eqb t b) && eqb (E a t) 1 && eqb (E b t) 0

-- document 01's t: the lowest such vertex
abbrev pub transfer : ℕ → Graph → ℕ → ℕ → ℕ
transfer n E a b = lowest 0 n (can_transfer E a b)

-- E' is E after the neighbour switch of a: the edge a – t removed, the edge b – t added
pub record Switched (n : ℕ) (E : Graph) (a b t : ℕ) (E' : Graph) : Type 0 where
  pub between : Graph
  pub removed : AddsEdge n between a t E
  pub added : AddsEdge n between b t E'

-- E' is E after making room at a: switched if a is saturated, else left as it is
pub record Relieved (n : ℕ) (cls deg : ℕ → ℕ) (E : Graph) (a other : ℕ) (E' : Graph) : Type 0 where
  pub left : unsaturated n cls deg E a ≡ true → SameOn n E E'
  pub switched : unsaturated n cls deg E a ≡ false →
      Switched n E a (substitute n cls deg E a other) (transfer n E a (substitute n cls deg E a other)) E'

-- E' is E after joining v and w: room made at v, then at w, then the edge v – w added
pub record Joined (n : ℕ) (cls deg : ℕ → ℕ) (E : Graph) (v w : ℕ) (E' : Graph) : Type 0 where
  pub once : Graph
  pub twice : Graph
  pub relieved_v : Relieved n cls deg E v w once
  pub relieved_w : Relieved n cls deg once w v twice
  pub linked : AddsEdge n twice v w E'
