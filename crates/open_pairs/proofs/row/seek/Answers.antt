-- `open_pairs::row::seek` meets its contract: what is left of the position is what the entries passed leave of it.
use mathlib.Core.Path.{◌≡◌}
use native.Mathlib.Omega.{arith}
use lib.ListN.{length}
use Rattle.finite.proofs.Sum.{sum_to-none, sum_to-more}
use Rattle.open_pairs.proofs.row.seek.Goals as goal

pub loop-at-init : goal.loop-at-init
loop-at-init c = rw sum_to-none (omega arith)

pub loop-at-preserved : goal.loop-at-preserved
loop-at-preserved c = rw sum_to-more (omega arith)

pub returns : goal.returns
returns c =
    let e : c.loop-at.at ≡ length c.args.counts.now = omega arith in
    absurd (omega (arith, rw e at c.loop-at.invariant))
