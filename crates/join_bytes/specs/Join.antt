-- Joining two vertices (document 01, "Joining, lifting, finishing") on the bytes of the adjacency matrix g, with n vertices
-- of classes cls: if v is saturated, switch v; then if w is saturated, switch w; then link v and w.
-- Assumes nothing.
use Rattle.std.specs.Prelude.{Bool, true, false, cond, List, ℕ}
use Rattle.answer.specs.declared.switches.Switch.{Switch}
use Rattle.answer.specs.declared.switches.Switches.{Switches}
use Rattle.answer.specs.declared.switches.Switches.TheVariants.{None, One, Two}
use Rattle.graph.specs.Switch.{unsaturated, substitute, transfer}
use Rattle.adjacency.specs.Adjacency.{edge, set_edge}
use Rattle.graph.specs.Tests.{class_degree}

-- document 01's b and t of switching a, `other` being the other named vertex
abbrev pub substitute_at : ℕ → (ℕ → ℕ) → List ℕ → ℕ → ℕ → ℕ
substitute_at n cls g a other = substitute n cls class_degree (edge g) a other

abbrev pub transfer_at : ℕ → (ℕ → ℕ) → List ℕ → ℕ → ℕ → ℕ
transfer_at n cls g a other = transfer n (edge g) a (substitute_at n cls g a other)

-- switching a, in the order of document 001's NeighborSwitch
abbrev pub neighbor_switch : ℕ → (ℕ → ℕ) → List ℕ → ℕ → ℕ → List ℕ
neighbor_switch n cls g a other =
    let b = substitute_at n cls g a other in  -- 1
    let t = transfer n (edge g) a b in  -- 2
    let g' = set_edge g a t 0 in  -- 3
    set_edge g' b t 1  -- 4

-- room at a: a switch if it is saturated
abbrev pub relieve_bytes : ℕ → (ℕ → ℕ) → List ℕ → ℕ → ℕ → List ℕ
relieve_bytes n cls g a other = cond (unsaturated n cls class_degree (edge g) a) g (neighbor_switch n cls g a other)

-- both steps, and the edge
abbrev pub join_bytes : ℕ → (ℕ → ℕ) → List ℕ → ℕ → ℕ → List ℕ
join_bytes n cls g v w = set_edge (relieve_bytes n cls (relieve_bytes n cls g v w) w v) v w 1

-- what switching a says (document 02, P2): a, b and t
abbrev pub switch_at : ℕ → (ℕ → ℕ) → List ℕ → ℕ → ℕ → Switch
switch_at n cls g a other = record { a = a; b = substitute_at n cls g a other; t = transfer_at n cls g a other }

-- the switches of v and of w, in the order made; none at an end that had room
abbrev pub in_order : Bool → Bool → Switch → Switch → Switches
in_order true true x y = None
in_order false true x y = One x
in_order true false x y = One y
in_order false false x y = Two x y

-- the switches of the join: v's on the matrix as it is, w's on what that leaves
abbrev pub join_switches : ℕ → (ℕ → ℕ) → List ℕ → ℕ → ℕ → Switches
join_switches n cls g v w =
    let g' = relieve_bytes n cls g v w in
    in_order (unsaturated n cls class_degree (edge g) v) (unsaturated n cls class_degree (edge g') w) (switch_at n cls g v w) (switch_at n cls g' w v)
