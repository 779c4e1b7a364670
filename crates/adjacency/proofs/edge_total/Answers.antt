-- `adjacency::edge_total` meets its contract: after some turns sum is that of the first degrees.
use Prim.Native.Nat.{◌<◌}
use native.Mathlib.Omega.{arith}
use lib.ListN.{get_or}
use lib.Seq.{get_or-take}
use Rattle.std.proofs.Common.{rules}
use Rattle.finite.proofs.Sum.{sum_to-none, sum_to-more}
use Rattle.adjacency.proofs.edge_total.Goals as goal

pub loop-degree-init : goal.loop-degree-init
loop-degree-init c = simp sum_to-none (omega arith)

pub loop-degree-preserved : goal.loop-degree-preserved
loop-degree-preserved c =
    let v = c.loop-degree.degree-index in
    let among : v < c.args.n = search rules in
    let few = c.requires.1 v among in
    let more = sum_to-more (λ i. get_or c.args.degrees.now i 0) v in
    let item = get_or-take c.args.n c.args.degrees.now v 0 among in
    (omega arith, omega arith, omega arith)
