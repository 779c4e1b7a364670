-- What making room at an end took, and what of a join's reliefs callers need.
-- Assumes nothing.
use Rattle.std.specs.Prelude.{cond, List, ℕ, Option, Some, None}
use Rattle.graph.specs.Switch.{unsaturated}
use Rattle.graph.specs.Tests.{class_degree}
use Rattle.adjacency.specs.Adjacency.{edge}
use Rattle.answer.specs.declared.switches.Switch.{Switch}
use Rattle.answer.specs.declared.switches.Switches.{Switches}
use Rattle.answer.specs.declared.switches.Switches.TheVariants as of_join
use Rattle.join_bytes.specs.Join.{transfer_at, switch_at}

-- what making room at a takes: a switch, or nothing
abbrev pub relief_of : ℕ → (ℕ → ℕ) → List ℕ → ℕ → ℕ → Option Switch
relief_of n cls g a other = cond (unsaturated n cls class_degree (edge g) a) None (Some (switch_at n cls g a other))

-- the switches of two reliefs, in the order made
abbrev pub both_reliefs : Option Switch → Option Switch → Switches
both_reliefs None None = of_join.None
both_reliefs None (Some y) = of_join.One y
both_reliefs (Some x) None = of_join.One x
both_reliefs (Some x) (Some y) = of_join.Two x y

-- the vertex that a relief cut off from its end; n where there was no switch
abbrev pub cut_off : ℕ → Option Switch → ℕ
cut_off n None = n
cut_off n (Some x) = x.t

-- the vertex that the switch of v cut off from v; n where v was not switched
abbrev pub freed : ℕ → (ℕ → ℕ) → List ℕ → ℕ → ℕ → ℕ
freed n cls g v w = cond (unsaturated n cls class_degree (edge g) v) n (transfer_at n cls g v w)
