-- `text::put_edges` meets its contract: after i turns the lines of the first i edges are written.
use mathlib.Core.Path.{refl}
use Prim.Native.Nat.{◌/◌}
use native.Mathlib.Omega.{arith}
use borrow.Author.Rules.{rules}
use lib.ListN.{length}
use Rattle.finite.specs.Range.{cat_to}
use Rattle.finite.proofs.Fold.{cat_to-none, cat_to-more, cat_to-part}
use Rattle.text.specs.Text.{edge_line_at}
use Rattle.text.proofs.Written.{written_next}
use Rattle.text.proofs.put_edges.Goals as goal

pub loop-v-init : goal.loop-v-init
loop-v-init c = rw cat_to-none (refl, omega arith, refl)

pub put_edge-a-requires : goal.put_edge-a-requires
put_edge-a-requires c =
    let e = c.args.edges.now in
    let i = c.loop-v.v-index in
    rw (c.from.ensures, c.from-in-loop-v.ensures, c.edge_pairs-v-items.ensures.ends i (omega arith)) (omega (
      arith,
      c.requires,
      c.loop-v.invariant.0,
      c.loop-v.invariant.1,
      cat_to-part (edge_line_at e) (length e / 2) i (omega arith),
    ))

pub loop-v-preserved : goal.loop-v-preserved
loop-v-preserved c =
    let a = c.args in
    let i = c.loop-v.v-index in
    let f = edge_line_at a.edges.now in
    let pair = c.edge_pairs-v-items.ensures.ends i (omega arith) in
    let value = rw (c.from.ensures, c.from-in-loop-v.ensures, pair) at c.put_edge-a.ensures.value in
    let after = rw (c.from.ensures, c.from-in-loop-v.ensures, pair) at c.put_edge-a.ensures.out_after in
    let w = written_next a.out.now a.at (cat_to i f) (f i) _ _ (c.loop-v.invariant.1, c.loop-v.invariant.2) _ _ (value, after) in
    (search rules, rw (cat_to-more f i) w.0, rw (cat_to-more f i) w.1)
