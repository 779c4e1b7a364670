-- `complete_shuffled::fill::shuffle_cells` meets its contract: after i turns i joins are made, and what is left of the run goes on from there.
use mathlib.Core.Path.{refl, ap, ◌∙◌}
use native.Mathlib.Omega.{arith}
use Rattle.graph.specs.Graph.{edges}
use Rattle.table.specs.Inner.Cells.{matrix_of}
use Rattle.adjacency.specs.Adjacency.{edge}
use Rattle.classes.specs.Inner.Block.{class_from}
use Rattle.progress.proofs.Output.{wrote_none, wrote_then}
use Rattle.shuffled_completion.specs.Shuffle.{Shuffled}
use Rattle.complete_shuffled.specs.Inner.Work.{shuffled_at}
use Rattle.complete_shuffled.proofs.Beginning.{begin_countable, begin_classed, begin_shuffling}
use Rattle.complete_shuffled.proofs.Counting.{next_more, still_short, not_short, run-next, run-stop}
use Rattle.complete_shuffled.proofs.fill.shuffle_cells.Goals as goal

pub new-tracking-requires : goal.new-tracking-requires
new-tracking-requires c = (
  begin_countable c.args.classes.now c.requires.0 c.requires.1,
  c.requires.1,
  begin_classed c.args.classes.now c.requires.0 c.requires.1,
)

pub loop-init : goal.loop-init
loop-init c =
    let start = begin_shuffling c.args.classes.now c.requires.0 c.requires.1 c.new-tracking.ensures in
    (omega arith, start, refl, omega arith, wrote_none _ _)

pub shuffle_step-done-requires : goal.shuffle_step-done-requires
shuffle_step-done-requires c =
    let i = c.loop.invariant in
    let s = i.1 in (
      s,
      still_short c.args.n (class_from c.args.starts.now) (matrix_of c.args.cells.now) (shuffled_at c.loop.adjacency c.loop.output c.loop.done)
          s.is_valid.filling (omega (arith, i.3, c.requires.2.0, c.loop-test.true)),
    )

pub loop-preserved : goal.loop-preserved
loop-preserved c =
    let a = c.args in
    let i = c.loop.invariant in
    let was = shuffled_at c.loop.adjacency c.loop.output c.loop.done in
    let short = still_short a.n (class_from a.starts.now) (matrix_of a.cells.now) was i.1.is_valid.filling
    (omega (arith, i.3, c.requires.2.0, c.loop-test.true)) in
    let one = next_more a.n (class_from a.starts.now) (matrix_of a.cells.now) was i.1.is_valid.filling short in
    let made = c.shuffle_step-done.ensures in (
      omega (arith, c.loop-test.true),
      rw made.wrote_records.sized made.shuffling,
      rw made.result_after (run-next a.n (class_from a.starts.now) (matrix_of a.cells.now) c.loop.counter was
          (omega (arith, c.loop-test.true, c.requires.2.1)) short i.2),
      ap (λ (r : Shuffled). edges a.n (edge r.ran.adjacency)) made.result_after ∙ omega (arith, one, i.3),
      wrote_then i.4 made.wrote_records,
    )

pub returns : goal.returns
returns c =
    let a = c.args in
    let i = c.loop.invariant in
    let end = shuffled_at c.loop.adjacency c.loop.output c.loop.done in
    let full = not_short a.n (class_from a.starts.now) (matrix_of a.cells.now) end i.1.is_valid.filling
    (omega (arith, i.0, i.3, c.requires.2.0, c.loop-test.false)) in
    record { result_after = run-stop a.n (class_from a.starts.now) (matrix_of a.cells.now) c.loop.counter end full i.2; wrote_records = i.4 }
