-- Where the edges that a join's switches moved stand.
-- Assumes nothing.
use Rattle.std.specs.Prelude.{◌≢◌, ℕ, ◌<◌, min}
use Rattle.answer.specs.declared.switches.Switch.{Switch}
use Rattle.answer.specs.declared.switches.Switches.{Switches}
use Rattle.answer.specs.declared.switches.Switches.TheVariants.{None, One, Two}

-- the vertices of a switch are below n
abbrev pub SwitchBelow : ℕ → Switch → Type 0
SwitchBelow n s = (s.a < n) × (s.b < n) × (s.t < n)

-- u is not the lower end of an edge that the switch moved
abbrev pub RowApart : ℕ → Switch → Type 0
RowApart u s = (u ≢ min s.a s.t) × (u ≢ min s.b s.t)

-- P holds of each of them
abbrev pub Each : (Switch → Type 0) → Switches → Type 0
Each P None = Unit {0}
Each P (One x) = P x
Each P (Two x y) = P x × P y
