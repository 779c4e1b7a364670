-- `complete::complete_laid` meets its contract.
use mathlib.Core.Path.{refl, ap}
use native.Mathlib.Omega.{arith}
use Rattle.answer.specs.declared.CompleteAnswer.TheVariants.{Refused}
use Rattle.state.specs.State.{state_of}
use Rattle.completion.specs.Complete.{completed}
use Rattle.progress.proofs.Whole.{total-few, lacks_missing, lacks_few, working_start, working_end, joins_few, work_done}
use Rattle.completion.proofs.Entry.{laid-short, complete-works}
use Rattle.state.proofs.Checks.{laid-passed}
use Rattle.complete.proofs.complete_laid.Goals as goal

pub overflow_mul-begun : goal.overflow_mul-begun
overflow_mul-begun c = omega (arith, lacks_few (state_of c.args.journal.now c.args.adjacency.now) c.requires.0 c.requires.1 c.begin-begun.ensures)

pub returns-then-output-begun : goal.returns-then-output-begun
returns-then-output-begun c =
    let s = state_of c.args.journal.now c.args.adjacency.now in
    let short = rw (lacks_missing s c.requires.0 c.requires.1 c.begin-begun.ensures) at c.if-output-begun.true in
    let e = laid-short s (completed s) _ short in
    record { value = rw e (ap Refused c.refuse.ensures); adjacency_after = rw e; output_after = rw e }

pub starts-starts-requires : goal.starts-starts-requires
starts-starts-requires c = total-few (state_of c.args.journal.now c.args.adjacency.now) c.requires.0 c.requires.1

pub fill_all-done-requires : goal.fill_all-done-requires
fill_all-done-requires c =
    let s = state_of c.args.journal.now c.args.adjacency.now in
    let fits = rw (lacks_missing s c.requires.0 c.requires.1 c.begin-begun.ensures) at c.if-output-begun.false in
    working_start s c.requires.0 c.requires.1 c.begin-begun.ensures.total c.starts-starts.ensures _ fits

pub overflow_mul-result : goal.overflow_mul-result
overflow_mul-result c =
    let s = state_of c.args.journal.now c.args.adjacency.now in
    let facts = laid-passed s c.requires.0 in
    let end = working_end s c.requires.0 c.requires.1 c.begin-begun.ensures.total c.starts-starts.ensures _ c.fill_all-done.ensures.result_after in
    omega (arith, joins_few s facts (complete-works s facts) end)

pub returns : goal.returns
returns c =
    let s = state_of c.args.journal.now c.args.adjacency.now in
    let facts = laid-passed s c.requires.0 in
    let end = working_end s c.requires.0 c.requires.1 c.begin-begun.ensures.total c.starts-starts.ensures _ c.fill_all-done.ensures.result_after in
    let fits = rw (lacks_missing s c.requires.0 c.requires.1 c.begin-begun.ensures) at c.if-output-begun.false in
    let done = work_done s facts (complete-works s facts) end c.args.output.now _ fits c.fill_all-done.ensures.wrote_records refl in
    record { value = done.0; adjacency_after = done.1.0; output_after = done.1.1 }
