-- `figures::figures_laid` meets its contract.
use mathlib.Core.Path.{◌≡◌, ap, ◌∙◌}
use Prim.Native.Nat.{ℕ}
use Rattle.std.proofs.Common.{rules}
use Rattle.graph.specs.Graph.{edges, DegreeTable}
use Rattle.layout.specs.Layout.{wanted}
use Rattle.journal.specs.Journal.{phase_laid}
use Rattle.adjacency.specs.Adjacency.{edge}
use Rattle.state.specs.State.{state_of}
use Rattle.state.proofs.Checks.{phase-facts}
use Rattle.state.proofs.Opened.{opened_vertices, opened_total, opened_wanted, opened_few, opened_edges}
use Rattle.figures.proofs.figures_laid.Goals as goal

pub edges_wanted-wanted-requires : goal.edges_wanted-wanted-requires
edges_wanted-wanted-requires c =
    let s = state_of c.args.journal.now c.args.adjacency.now in
    let f = phase-facts phase_laid s c.requires.0 in
    opened_total s c.requires.1 (f.0.laid f.1)

pub edge_total-laid-requires : goal.edge_total-laid-requires
edge_total-laid-requires c =
    let s = state_of c.args.journal.now c.args.adjacency.now in
    let f = phase-facts phase_laid s c.requires.0 in
    let d = f.0.laid f.1 in
    let n = c.vertex_count-vertices.ensures in
    (rw (opened_vertices s c.requires.1 d n) d.vertices-le, opened_few s c.requires.1 d n)

pub returns : goal.returns
returns c =
    let s = state_of c.args.journal.now c.args.adjacency.now in
    let f = phase-facts phase_laid s c.requires.0 in
    let d = f.0.laid f.1 in
    let o = c.requires.1 in
    let n = opened_vertices s o d c.vertex_count-vertices.ensures in
    let e = opened_edges s o d c.vertex_count-vertices.ensures c.edge_total-laid.ensures in
    let named : c.from.result ≡ phase_laid = search rules in
    λ i. record {
      phase = named i;
      blocks = c.block_count-blocks.ensures.0 i;
      vertices = n i;
      wanted = (opened_wanted s o d c.edges_wanted-wanted.ensures ∙ ap (λ (u : DegreeTable). wanted u.cells) o.said) i;
      laid = (e ∙ ap (λ (m : ℕ). edges m (edge s.adjacency)) n) i;
    }
