-- Counting rows anew, and flagging a cell.
-- Assumes nothing.
use Rattle.std.specs.Prelude.{List, ℕ, ◌+◌, ◌-◌, ◌*◌, ◌<◌, min, get_or, set}
use Rattle.finite.specs.Range.{fold_to}
use Rattle.answer.specs.Inner.Moved.{SwitchBelow, Each}
use Rattle.answer.specs.declared.switches.Switch.{Switch}
use Rattle.answer.specs.declared.switches.Switches.{Switches}
use Rattle.answer.specs.declared.switches.Switches.TheVariants.{None, One, Two}
use Rattle.graph.specs.Tests.{most_classes}
use Rattle.adjacency.specs.Adjacency.{side}
use Rattle.open_pairs.specs.Inner.Rows.{free_to}

-- row v counted anew, its class being what the array says
abbrev pub refresh_row : ℕ → List ℕ → List ℕ → List ℕ → ℕ → List ℕ → List ℕ
refresh_row n classes g full v pairs = set pairs v (free_to g full (get_or classes v 0) v n)

-- the rows from, .., to - 1
abbrev pub refresh_range : ℕ → List ℕ → List ℕ → List ℕ → ℕ → ℕ → List ℕ → List ℕ
refresh_range n classes g full from to pairs = fold_to (to - from) (λ i. refresh_row n classes g full (from + i)) pairs

-- the rows of the edges that a switch moved: each stands in the row of its lower end
abbrev pub refresh_switch : ℕ → List ℕ → List ℕ → List ℕ → Switch → List ℕ → List ℕ
refresh_switch n classes g full s pairs =
    refresh_row n classes g full (min s.b s.t) (refresh_row n classes g full (min s.a s.t) pairs)

abbrev pub refresh_switches : ℕ → List ℕ → List ℕ → List ℕ → Switches → List ℕ → List ℕ
refresh_switches n classes g full None pairs = pairs
refresh_switches n classes g full (One x) pairs = refresh_switch n classes g full x pairs
refresh_switches n classes g full (Two x y) pairs = refresh_switch n classes g full y (refresh_switch n classes g full x pairs)

-- the cell of class k and the class of the vertices from, .., to - 1 flagged as full
abbrev pub mark_full : ℕ → ℕ → ℕ → List ℕ → List ℕ
mark_full k from to full = fold_to (to - from) (λ i f. set f (k * side + (from + i)) 1) full

-- the array has a class for each of the n vertices
abbrev pub Classed : ℕ → List ℕ → Type 0
Classed n classes = (v : ℕ) → v < n → get_or classes v 0 < most_classes

-- the vertices of all switches are below n
abbrev pub Within : ℕ → Switches → Type 0
Within n s = Each (SwitchBelow n) s
