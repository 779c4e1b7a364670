-- `layout::classes` meets its contract: after v turns the classes of the first v vertices are filled in,
use mathlib.Core.Path.{◌≡◌}
use Prim.Native.Nat.{◌≤◌}
use lib.ListN.{replicate}
use Rattle.finite.specs.Inner.Fill.{fill_to}
use Rattle.graph.specs.Numbering.{class_of}
use Rattle.graph.specs.Tests.{most_classes}
use Rattle.layout.specs.Layout.{most_vertices}
use Rattle.layout.specs.Inner.Arrays.{count_in, Reaches}
use Rattle.layout.proofs.classes.Given as goal

abbrev pub invariant-loop-v : goal.invariant-loop-v
invariant-loop-v l = (l.v ≤ l.n) × (l.t ≡ fill_to l.v (class_of most_classes (count_in l.counts)) (replicate most_vertices 0))
    × Reaches (count_in l.counts) l.run.class l.run.end l.v
