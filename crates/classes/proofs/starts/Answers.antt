-- `classes::starts` meets its contract: after k turns the first k entries are filled in, and sum is the next.
use mathlib.Core.Path.{◌≡◌, sym}
use Prim.Native.Nat.{◌+◌}
use native.Mathlib.Omega.{arith}
use Rattle.finite.proofs.Fold.{fill_to-none, fill_to-more}
use Rattle.finite.proofs.Sum.{sum_to-none, sum_to-more, sum_to-le}
use Rattle.graph.specs.Tests.{most_classes}
use Rattle.layout.specs.Inner.Arrays.{count_in}
use Rattle.classes.proofs.starts.Goals as goal

pub loop-k-init : goal.loop-k-init
loop-k-init c = (sym (sum_to-none _), sym (fill_to-none _ _))

pub overflow_add-sum : goal.overflow_add-sum
overflow_add-sum c =
    let D = count_in c.args.counts.now in
    omega (arith, sum_to-more D c.loop-k.k, sum_to-le (c.loop-k.k + 1) most_classes D (omega arith))

pub loop-k-preserved : goal.loop-k-preserved
loop-k-preserved c = (rw (sum_to-more, c.loop-k.invariant.0), rw (fill_to-more, c.loop-k.invariant.1, c.loop-k.invariant.0))

pub returns : goal.returns
returns c =
    let e : c.loop-k.k ≡ most_classes = omega arith in
    rw (rw e at c.loop-k.invariant.1, rw e at c.loop-k.invariant.0) (sym (fill_to-more _ _ most_classes))
