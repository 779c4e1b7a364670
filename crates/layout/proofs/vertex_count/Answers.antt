-- `layout::vertex_count` meets its contract: after k turns n is the sum of the first k counts.
use mathlib.Core.Path.{◌≡◌, ◌∙◌}
use native.Mathlib.Omega.{arith}
use Rattle.finite.proofs.Sum.{sum_to-none, sum_to-more}
use Rattle.graph.specs.Tests.{most_classes}
use Rattle.layout.proofs.Counted.{counted-total, counts_most}
use Rattle.layout.proofs.vertex_count.Goals as goal

pub loop-count-init : goal.loop-count-init
loop-count-init c = simp sum_to-none (omega arith)

pub overflow_add-n : goal.overflow_add-n
overflow_add-n c =
    let m = counts_most c.args.cells.now c.args.counts.now c.requires.0 c.requires.1 c.loop-count.count-index in
    omega arith

pub loop-count-preserved : goal.loop-count-preserved
loop-count-preserved c =
    let m = counts_most c.args.cells.now c.args.counts.now c.requires.0 c.requires.1 c.loop-count.count-index in
    simp sum_to-more (omega arith)

pub returns : goal.returns
returns c =
    let e : c.loop-count.count-index ≡ most_classes = omega arith in
    (rw e at c.loop-count.invariant.1)
    ∙ counted-total c.args.cells.now c.args.counts.now c.requires.1
