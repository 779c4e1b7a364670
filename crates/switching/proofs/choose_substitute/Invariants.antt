-- `switching::choose_substitute` meets its contract: what is left to search has the answer of the whole class.
use mathlib.Core.Path.{◌≡◌}
use Prim.Native.Nat.{◌-◌}
use Rattle.graph.specs.Tests.{class_degree}
use Rattle.finite.specs.Range.{lowest}
use Rattle.switching.specs.Inner.Work.{can_stand_in}
use Rattle.switching.proofs.choose_substitute.Given as goal

abbrev pub invariant-loop-b : goal.invariant-loop-b
invariant-loop-b l = lowest l.initial.b l.to (can_stand_in l.degrees (class_degree l.class) l.other) ≡ lowest l.b l.to (can_stand_in l.degrees (class_degree l.class) l.other)

abbrev pub decreases-loop-b : goal.decreases-loop-b
decreases-loop-b l = l.to - l.b
