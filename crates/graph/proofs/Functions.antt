-- Graphs made by functions: one edge more or less, a switch, a join. The laws speak of relations (`AddsEdge`, `Switched`, `Joined`); these show
-- that there are such graphs.
-- Assumes nothing.
use mathlib.Core.Bool.{cond}
use Prim.Native.Nat.{ℕ, ◌+◌, ◌-◌}
use Rattle.graph.specs.Graph.{Graph, at_edge}
use Rattle.graph.specs.Switch.{unsaturated, substitute, transfer}

-- no edges
abbrev pub empty : Graph
empty v w = 0

abbrev pub edge_added : Graph → ℕ → ℕ → Graph
edge_added E x y v w = E v w + at_edge x y v w

abbrev pub edge_removed : Graph → ℕ → ℕ → Graph
edge_removed E x y v w = E v w - at_edge x y v w

abbrev pub neighbor_switch : Graph → ℕ → ℕ → ℕ → Graph
neighbor_switch E a b t = edge_added (edge_removed E a t) b t

abbrev pub relieve : ℕ → (ℕ → ℕ) → (ℕ → ℕ) → Graph → ℕ → ℕ → Graph
relieve n cls deg E a other =
    cond (unsaturated n cls deg E a) E
    (neighbor_switch E a (substitute n cls deg E a other) (transfer n E a (substitute n cls deg E a other)))

abbrev pub join : ℕ → (ℕ → ℕ) → (ℕ → ℕ) → Graph → ℕ → ℕ → Graph
join n cls deg E v w = edge_added (relieve n cls deg (relieve n cls deg E v w) w v) v w
