-- `layout::run_at` meets its contract: the run reached is never past the vertex.
use mathlib.Core.Path.{sym}
use Prim.Native.Nat.{◌+◌}
use native.Mathlib.Omega.{arith}
use Rattle.finite.proofs.Sum.{sum_to-more, sum_to-le}
use Rattle.graph.specs.Tests.{most_classes}
use Rattle.graph.proofs.Numbering.{class_of-range, class_after}
use Rattle.layout.specs.Inner.Arrays.{count_in}
use Rattle.layout.proofs.run_at.Goals as goal

pub overflow_add-end : goal.overflow_add-end
overflow_add-end c =
    let D = count_in c.args.counts.now in
    let k = c.loop-end.class in
    let after = class_after most_classes D c.args.v k c.requires.1 (omega arith) in
    let more = sum_to-more D (k + 1) in
    let most = sum_to-le (k + 1 + 1) most_classes D (omega arith) in
    omega arith

pub loop-end-preserved : goal.loop-end-preserved
loop-end-preserved c =
    let D = count_in c.args.counts.now in
    let k = c.loop-end.class in
    let after = class_after most_classes D c.args.v k c.requires.1 (omega arith) in
    (after, rw (sum_to-more D (k + 1)) (omega arith), omega arith)

pub returns : goal.returns
returns c = (
  c.loop-end.invariant,
  sym ((class_of-range most_classes (count_in c.args.counts.now) c.args.v c.loop-end.class c.requires.1).1 (c.loop-end.invariant.2, omega arith)),
)
