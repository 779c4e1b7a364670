-- `switching::skip_transfers` meets its contract: no vertex passed can be t.
use mathlib.Core.Path.{sym, ◌∙◌}
use native.Mathlib.Omega.{arith}
use Rattle.adjacency.specs.Adjacency.{edge}
use Rattle.switching.specs.Inner.Work.{lanes}
use Rattle.switching.proofs.Transfer.{transfers_passed}
use Rattle.switching.proofs.skip_transfers.Goals as goal

pub loop-t-preserved : goal.loop-t-preserved
loop-t-preserved c =
    let s = c.args in
    let e = sym c.none_transfers.ensures ∙ c.if-not-none_transfers.false in
    (omega arith, transfers_passed (edge s.adjacency.now) s.a s.b lanes c.loop-t.t c.loop-t.invariant.1 e)
