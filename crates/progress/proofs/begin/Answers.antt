-- `progress::begin` meets its contract.
use mathlib.Core.Path.{ap₂}
use Prim.Native.Nat.{◌-◌}
use native.Mathlib.Omega.{arith}
use Rattle.state.proofs.Opened.{opened_total, opened_wanted, opened_few, opened_edges}
use Rattle.progress.proofs.Whole.{laid, vertices-few, wanted-enough}
use Rattle.progress.proofs.begin.Goals as goal

pub edges_wanted-requires : goal.edges_wanted-requires
edges_wanted-requires c =
    let p = c.requires in
    opened_total p.state p.opened (laid p.state p.passed p.opened)

pub edge_total-requires : goal.edge_total-requires
edge_total-requires c =
    let p = c.requires in (
      omega (arith, vertices-few p.state p.passed p.opened, c.vertex_count-n.ensures),
      λ v l. opened_few p.state p.opened (laid p.state p.passed p.opened) c.vertex_count-n.ensures v (omega (arith, l)),
    )

pub overflow_sub-missing : goal.overflow_sub-missing
overflow_sub-missing c =
    let p = c.requires in
    wanted-enough p.state p.passed p.opened c.vertex_count-n.ensures
    (opened_wanted p.state p.opened (laid p.state p.passed p.opened) c.edges_wanted.ensures)
    (opened_edges p.state p.opened (laid p.state p.passed p.opened) c.vertex_count-n.ensures c.edge_total.ensures)

pub returns : goal.returns
returns c =
    let p = c.requires in
    record {
      total = c.vertex_count-n.ensures;
      lacks =
          ap₂ ◌-◌ (opened_wanted p.state p.opened (laid p.state p.passed p.opened) c.edges_wanted.ensures) c.edge_total.ensures;
    }
