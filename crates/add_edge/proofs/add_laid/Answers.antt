-- `add_edge::add_laid` meets its contract.
use mathlib.Core.Path.{sym, ap, subst, ◌∙◌}
use Prim.Native.Nat.{ℕ}
use borrow.Author.Tests.{eq-eqb}
use Rattle.graph.specs.Graph.{DegreeTable}
use Rattle.journal.specs.Journal.{phase_laid}
use Rattle.state.specs.State.{state_of}
use Rattle.state.specs.Checks.{pair_verdict}
use Rattle.state.proofs.Checks.{phase-facts, pair-passed}
use Rattle.state.proofs.Opened.{opened_vertices}
use Rattle.add_edge.specs.Add.{add_unlinked}
use Rattle.add_edge.specs.Inner.Work.{Unlinked, added_adjacency}
use Rattle.add_edge.proofs.add_laid.Goals as goal

pub add_unlinked-requires : goal.add_unlinked-requires
add_unlinked-requires c =
    let a = c.args in
    let st = state_of a.journal.now a.adjacency.now in
    let f = phase-facts phase_laid st c.requires.0 in
    let laid = f.0.laid f.1 in
    let n = opened_vertices st c.requires.1 laid c.vertex_count-n.ensures in
    let d = pair-passed c.vertex_count-n.result a.v a.w (sym c.pair_check.ensures ∙ c.in_default.is) in (
      subst (λ (t : DegreeTable). Unlinked t a.adjacency.now a.degrees.now a.v a.w) (sym c.requires.1.said)
          (record {
            sized = f.0.adjacency_length;
            few = laid.vertices-le;
            target = laid.target;
            partial = laid.partial;
            degrees_right = c.requires.1.degrees_right;
            first = rw n at d.0;
            second = rw n at d.1;
            distinct = d.2;
            unlinked = sym c.edge_at.ensures.0 ∙ c.if-edge_at-ne0.false;
          }),
      c.requires.1.most,
      c.requires.1.counted,
      c.vertex_count-n.ensures,
    )

pub returns : goal.returns
returns c =
    let a = c.args in
    let st = state_of a.journal.now a.adjacency.now in
    let f = phase-facts phase_laid st c.requires.0 in
    let n = opened_vertices st c.requires.1 (f.0.laid f.1) c.vertex_count-n.ensures in
    let T = c.requires.1.said in
    let g = a.adjacency.now in
    let go = ap (λ (x : ℕ). pair_verdict x a.v a.w) (sym n) ∙ sym c.pair_check.ensures ∙ c.in_default.is in
    record {
      value = rw (go, eq-eqb _ _ (rw c.edge_at.ensures.0 at c.if-edge_at-ne0.false)) (c.add_unlinked.ensures.value ∙ ap (λ (t : DegreeTable). add_unlinked t g a.v a.w) T);
      adjacency_after = rw (go, eq-eqb _ _ (rw c.edge_at.ensures.0 at c.if-edge_at-ne0.false)) (c.add_unlinked.ensures.adjacency_after
          ∙ ap (λ (t : DegreeTable). added_adjacency (add_unlinked t g a.v a.w) t g a.v a.w) T);
    }
