-- `cell_counts::cells_of` meets its contract: after i turns the first i edges are counted.
use mathlib.Core.Path.{◌≡◌, ◌∙◌}
use Prim.Native.Nat.{ℕ, ◌<◌}
use lib.ListN.{length-replicate}
use Rattle.graph.specs.Graph.{degree}
use Rattle.graph.specs.Tests.{most_classes}
use Rattle.table.specs.Inner.Cells.{cells_size}
use Rattle.edge_lists.specs.EdgeList.{listed, end_v, end_w, graph_of}
use Rattle.edge_lists.proofs.List.{good}
use Rattle.degree_counts.proofs.Degrees.{degree-low}
use Rattle.cell_counts.specs.Inner.Cells.{HasCells}
use Rattle.cell_counts.proofs.Cells.{length-count_cell, cells-none, cells-more, cells-small, cell_room}
use native.Mathlib.Omega.{arith}
use Rattle.cell_counts.proofs.cells_of.Goals as goal

pub loop-v-init : goal.loop-v-init
loop-v-init c = (length-replicate {A = ℕ} cells_size 0, cells-none _ c.args.edges.now c.args.total)

pub degree_at-a-requires : goal.degree_at-a-requires
degree_at-a-requires c =
    let i = c.loop-v.v-index in
    let g = good c.args.edges.now c.args.total c.requires.1 i (omega arith) in
    rw (c.edge_pairs-v-items.ensures.ends i (omega arith)) (omega arith)

pub degree_at-b-requires : goal.degree_at-b-requires
degree_at-b-requires c =
    let i = c.loop-v.v-index in
    let g = good c.args.edges.now c.args.total c.requires.1 i (omega arith) in
    rw (c.edge_pairs-v-items.ensures.ends i (omega arith)) (omega arith)

pub count_cell-requires : goal.count_cell-requires
count_cell-requires c =
    let e = c.args.edges.now in
    let t = c.args.total in
    let i = c.loop-v.v-index in
    let pair = c.edge_pairs-v-items.ensures.ends i (omega arith) in
    let g = good e t c.requires.1 i (omega arith) in
    let da = degree-low e t c.requires.1 c.requires.2 (end_v e i) (omega arith) in
    let db = degree-low e t c.requires.1 c.requires.2 (end_w e i) (omega arith) in
    let ea = (rw pair at c.degree_at-a.ensures) ∙ c.requires.3 (end_v e i) (omega arith) in
    let eb = (rw pair at c.degree_at-b.ensures) ∙ c.requires.3 (end_w e i) (omega arith) in
    let low = cells-small e t c.requires.1 c.requires.2 c.requires.0 (degree t (graph_of e)) c.loop-v.cells i (omega arith) c.loop-v.invariant.1 in
    let ra : c.degree_at-a.result < most_classes = omega arith in
    let rb : c.degree_at-b.result < most_classes = omega arith in
    (ra, rb, cell_room c.loop-v.cells c.degree_at-a.result c.degree_at-b.result low ra rb)

pub loop-v-preserved : goal.loop-v-preserved
loop-v-preserved c =
    let e = c.args.edges.now in
    let t = c.args.total in
    let i = c.loop-v.v-index in
    let pair = c.edge_pairs-v-items.ensures.ends i (omega arith) in
    let g = good e t c.requires.1 i (omega arith) in
    let da = degree-low e t c.requires.1 c.requires.2 (end_v e i) (omega arith) in
    let db = degree-low e t c.requires.1 c.requires.2 (end_w e i) (omega arith) in
    let ea = (rw pair at c.degree_at-a.ensures) ∙ c.requires.3 (end_v e i) (omega arith) in
    let eb = (rw pair at c.degree_at-b.ensures) ∙ c.requires.3 (end_w e i) (omega arith) in (
      rw (c.count_cell.ensures, length-count_cell) c.loop-v.invariant.0,
      rw (c.count_cell.ensures, ea, eb)
          (cells-more (degree t (graph_of e)) e t i c.loop-v.cells g (omega arith) (omega arith) c.loop-v.invariant.0 c.loop-v.invariant.1),
    )

pub returns : goal.returns
returns c =
    let e = c.args.edges.now in
    let t = c.args.total in
    let n : c.loop-v.v-index ≡ listed e = omega arith in
    let has : HasCells c.loop-v.cells t (degree t (graph_of e)) (graph_of e) = rw n at c.loop-v.invariant.1 in
    (has, cells-small e t c.requires.1 c.requires.2 c.requires.0 (degree t (graph_of e)) c.loop-v.cells (listed e) (omega arith) has)
