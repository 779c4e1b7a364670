-- `loan::open_loan` meets its contract.
use mathlib.Core.Path.{sym, ap, ◌∙◌}
use native.Mathlib.Omega.{arith}
use Rattle.graph.specs.Tests.{vertices}
use Rattle.state.specs.State.{state_of}
use Rattle.state.proofs.Facts.{laid-facts}
use Rattle.swap_log.specs.Log.{log_ok}
use Rattle.loan.proofs.open_loan.Goals as goal

pub log_ok-requires : goal.log_ok-requires
log_ok-requires c =
    let e = c.if-not-open.false in
    let o = c.«open».ensures.opened e in
    let l = laid-facts (state_of c.args.journal.now c.args.adjacency.now) c.requires.0.journal-ok (sym c.«open».ensures.value ∙ e) in
    let same = c.vertex_count-n.ensures ∙ ap vertices o.said in (
      rw same (record { sized = c.requires.0.adjacency_length; few = l.vertices-le; simple = l.partial.simple; outside = l.outside }),
      c.requires.1,
      o.most,
      o.counted,
      c.vertex_count-n.ensures,
      omega (arith, same, l.vertices-le),
    )
