-- `layout::count_classes` meets its contract: after k turns the counts of the classes below k are filled in.
use mathlib.Core.Path.{◌≡◌, sym, ◌∙◌}
use native.Mathlib.Omega.{arith}
use Rattle.finite.proofs.Fold.{fill_to-none, fill_to-more}
use Rattle.graph.specs.Tests.{most_classes}
use Rattle.graph.proofs.Counts.{count_at}
use Rattle.layout.specs.Inner.Arrays.{table_in}
use Rattle.layout.proofs.Counted.{counts_made}
use Rattle.layout.proofs.count_classes.Goals as goal

pub loop-k-init : goal.loop-k-init
loop-k-init c = (omega arith, omega arith, rw c.requires.2 (sym (fill_to-more _ _ 0 ∙ rw (fill_to-none))))

pub loop-k-preserved : goal.loop-k-preserved
loop-k-preserved c =
    let e = count_at (table_in c.args.cells.now c.args.isolated) c.loop-k.k c.loop-k.invariant.0 in
    (omega arith, omega arith, rw (c.row_sum.ensures.0, c.class_degree.ensures, fill_to-more, e, c.loop-k.invariant.2))

pub returns : goal.returns
returns c =
    let e : c.loop-k.k ≡ most_classes = omega arith in
    counts_made c.args.cells.now _ c.args.isolated (rw e at c.loop-k.invariant.2) c.requires.1
