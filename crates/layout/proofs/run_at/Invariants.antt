-- `layout::run_at` meets its contract: the run reached is never past the vertex.
use Prim.Native.Nat.{◌-◌}
use Rattle.graph.specs.Tests.{most_classes}
use Rattle.layout.specs.Inner.Arrays.{count_in, Reaches}
use Rattle.layout.proofs.run_at.Given as goal

abbrev pub invariant-loop-end : goal.invariant-loop-end
invariant-loop-end l = Reaches (count_in l.counts) l.class l.end l.v

abbrev pub decreases-loop-end : goal.decreases-loop-end
decreases-loop-end l = most_classes - l.class
