-- `classes::starts` meets its contract: after k turns the first k entries are filled in, and sum is the next.
use mathlib.Core.Path.{◌≡◌}
use Prim.Native.Nat.{◌+◌}
use lib.ListN.{replicate}
use Rattle.finite.specs.Range.{sum_to}
use Rattle.finite.specs.Inner.Fill.{fill_to}
use Rattle.graph.specs.Tests.{most_classes}
use Rattle.layout.specs.Inner.Arrays.{count_in}
use Rattle.classes.proofs.starts.Given as goal

abbrev pub invariant-loop-k : goal.invariant-loop-k
invariant-loop-k l = (l.sum ≡ sum_to l.k (count_in l.counts)) × (l.t ≡ fill_to l.k (λ k. sum_to k (count_in l.counts)) (replicate (most_classes + 1) 0))
