-- `complete_shuffled::shuffle_laid` meets its contract.
use mathlib.Core.Path.{refl, ap}
use native.Mathlib.Omega.{arith}
use Rattle.answer.specs.declared.ShuffleAnswer.TheVariants.{Refused}
use Rattle.state.specs.State.{state_of}
use Rattle.progress.proofs.Whole.{total-few, lacks_missing, lacks_few}
use Rattle.completion.proofs.Entry.{laid-short}
use Rattle.shuffled_completion.specs.Shuffle.{shuffled}
use Rattle.complete_shuffled.proofs.Entry.{begin_working, begin_classes, begin_lacks, end_few, end_done}
use Rattle.complete_shuffled.proofs.shuffle_laid.Goals as goal

pub overflow_mul-missing : goal.overflow_mul-missing
overflow_mul-missing c = omega (arith, lacks_few (state_of c.args.journal.now c.args.adjacency.now) c.requires.0 c.requires.1 c.begin-begun.ensures)

pub returns-then-output-missing : goal.returns-then-output-missing
returns-then-output-missing c =
    let s = state_of c.args.journal.now c.args.adjacency.now in
    let short = rw (lacks_missing s c.requires.0 c.requires.1 c.begin-begun.ensures) at c.if-output-missing.true in
    let e = laid-short s (shuffled s c.args.x).ran _ short in
    record { value = rw e (ap Refused c.refuse.ensures); adjacency_after = rw e; output_after = rw e }

pub starts-starts-requires : goal.starts-starts-requires
starts-starts-requires c = total-few (state_of c.args.journal.now c.args.adjacency.now) c.requires.0 c.requires.1

pub shuffle_cells-done-requires : goal.shuffle_cells-done-requires
shuffle_cells-done-requires c =
    let s = state_of c.args.journal.now c.args.adjacency.now in
    let u = c.begin-begun.ensures in (
      begin_working s c.requires.0 c.requires.1 u c.starts-starts.ensures _ (rw (lacks_missing s c.requires.0 c.requires.1 u) at c.if-output-missing.false),
      begin_classes s c.requires.0 c.requires.1 u c.starts-starts.ensures c.classes-vertex_classes.ensures,
      begin_lacks s c.requires.0 c.requires.1 u c.starts-starts.ensures,
    )

pub overflow_mul-result : goal.overflow_mul-result
overflow_mul-result c =
    let s = state_of c.args.journal.now c.args.adjacency.now in
    omega (arith, end_few s c.requires.0 c.requires.1 c.begin-begun.ensures c.starts-starts.ensures c.args.x c.shuffle_cells-done.ensures.result_after)

pub returns : goal.returns
returns c =
    let s = state_of c.args.journal.now c.args.adjacency.now in
    let u = c.begin-begun.ensures in
    let fits = rw (lacks_missing s c.requires.0 c.requires.1 u) at c.if-output-missing.false in
    let done =
    end_done s c.requires.0 c.requires.1 u c.starts-starts.ensures c.args.x c.shuffle_cells-done.ensures.result_after c.args.output.now _ fits
    c.shuffle_cells-done.ensures.wrote_records refl in
    record { value = done.0; adjacency_after = done.1.0; output_after = done.1.1 }
