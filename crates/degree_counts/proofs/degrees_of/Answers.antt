-- `degree_counts::degrees_of` meets its contract: after i turns the first i edges are counted.
use mathlib.Core.Path.{◌≡◌}
use Prim.Native.Nat.{ℕ, ◌*◌, ◌≤◌, ◌<◌}
use lib.ListN.{length-replicate}
use Rattle.layout.specs.Layout.{most_vertices}
use Rattle.edge_lists.specs.EdgeList.{listed, end_v, end_w}
use Rattle.edge_lists.proofs.List.{good}
use Rattle.degree_counts.specs.Inner.Degrees.{degree_in}
use Rattle.degree_counts.proofs.Degrees.{length-count_edge, degrees_none, degrees_more, degree-most}
use native.Mathlib.Omega.{arith}
use Rattle.degree_counts.proofs.degrees_of.Goals as goal

pub loop-v-init : goal.loop-v-init
loop-v-init c = (length-replicate {A = ℕ} most_vertices 0, degrees_none c.args.edges.now c.args.total)

pub count_edge-requires : goal.count_edge-requires
count_edge-requires c =
    let e = c.args.edges.now in
    let i = c.loop-v.v-index in
    let pair = c.edge_pairs-v-items.ensures.ends i (omega arith) in
    let g = good e c.args.total c.requires.1 i (omega arith) in
    let room : (v : ℕ) → v < c.args.total → degree_in c.loop-v.degrees v ≤ 2 * i =
    λ v h. rw (c.loop-v.invariant.1 v h) (degree-most e c.args.total c.requires.1 v i h (omega arith)) in
    rw (c.from.ensures, c.from-in-loop-v.ensures, pair)
    (g.ordered, omega (arith, g.vertex), omega (arith, room (end_v e i) (omega arith)), omega (arith, room (end_w e i) (omega arith)))

pub loop-v-preserved : goal.loop-v-preserved
loop-v-preserved c =
    let e = c.args.edges.now in
    let i = c.loop-v.v-index in
    let pair = c.edge_pairs-v-items.ensures.ends i (omega arith) in (
      rw (c.count_edge.ensures, length-count_edge) c.loop-v.invariant.0,
      rw (c.count_edge.ensures, c.from.ensures, c.from-in-loop-v.ensures, pair)
          (degrees_more e c.args.total i c.loop-v.degrees c.requires.0 (good e c.args.total c.requires.1 i (omega arith))
          c.loop-v.invariant.0 c.loop-v.invariant.1),
    )

pub returns : goal.returns
returns c =
    let n : c.loop-v.v-index ≡ listed c.args.edges.now = omega arith in
    rw n at c.loop-v.invariant.1
