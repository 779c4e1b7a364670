-- `layout::classes` meets its contract: after v turns the classes of the first v vertices are filled in,
use mathlib.Core.Path.{◌≡◌, sym, ap, ◌∙◌}
use Prim.Native.Nat.{ℕ}
use native.Mathlib.Omega.{arith}
use lib.ListN.{replicate}
use Rattle.finite.specs.Inner.Fill.{fill_to}
use Rattle.finite.proofs.Fold.{fill_to-none, fill_to-more}
use Rattle.finite.proofs.Sum.{sum_to-none, sum_to-more}
use Rattle.graph.specs.Numbering.{class_of}
use Rattle.graph.specs.Tests.{most_classes}
use Rattle.layout.specs.Layout.{most_vertices}
use Rattle.layout.specs.Inner.Arrays.{count_in}
use Rattle.layout.proofs.Counted.{counted, counted-total}
use Rattle.layout.proofs.classes.Goals as goal

pub loop-v-init : goal.loop-v-init
loop-v-init c =
    let D = count_in c.args.counts.now in
    let none = sum_to-none D in
    let more = sum_to-more D 0 in
    (omega arith, sym (fill_to-none _ _), (omega arith, omega arith, omega arith))

pub run_at-run-requires : goal.run_at-run-requires
run_at-run-requires c =
    let e = counted-total c.args.cells.now c.args.counts.now c.requires.1 in
    (c.loop-v.invariant.2, omega arith, omega arith)

pub loop-v-preserved : goal.loop-v-preserved
loop-v-preserved c = (omega arith, rw (c.run_at-run.ensures.1, fill_to-more, c.loop-v.invariant.1), (omega arith, omega arith, omega arith))

pub returns : goal.returns
returns c =
    let e : c.loop-v.v ≡ c.vertex_count-n.result = omega arith in
    let d = counted c.args.cells.now c.args.counts.now c.requires.1 in
    rw (← c.vertex_count-n.ensures)
    ((rw e at c.loop-v.invariant.1)
    ∙ ap (λ (D : ℕ → ℕ). fill_to c.vertex_count-n.result (class_of most_classes D) (replicate most_vertices 0)) d)
