-- `edge_list::list_laid` meets its contract: twice the number of edges is the length of the list.
use mathlib.Core.Path.{refl, ap, ◌∙◌}
use Prim.Native.Nat.{ℕ}
use native.Mathlib.Omega.{arith}
use borrow.Author.Tests.{le-leb, lt-leb}
use lib.ListN.{length}
use lib.Seq.{sets}
use Rattle.answer.specs.declared.WrittenAnswer.TheVariants.{Written, Refused}
use Rattle.journal.specs.Journal.{phase_laid}
use Rattle.state.specs.State.{state_of}
use Rattle.state.proofs.Checks.{phase-facts}
use Rattle.edge_list.specs.List.{list_bytes}
use Rattle.edge_list.proofs.List.{laid-vertices, laid-few, degrees_few, list-bytes, counted-few}
use Rattle.edge_list.proofs.list_laid.Goals as goal

pub edge_total-bytes-requires : goal.edge_total-bytes-requires
edge_total-bytes-requires c =
    let s = state_of c.args.journal.now c.args.adjacency.now in
    (laid-few s c.requires.0 c.requires.1 c.vertex_count-n.ensures, degrees_few s c.requires.0 c.requires.1 c.vertex_count-n.ensures)

pub overflow_mul-bytes : goal.overflow_mul-bytes
overflow_mul-bytes c =
    let s = state_of c.args.journal.now c.args.adjacency.now in
    omega (arith, counted-few s c.requires.0 c.requires.1 c.vertex_count-n.ensures c.edge_total-bytes.ensures)

pub returns-then-output-bytes : goal.returns-then-output-bytes
returns-then-output-bytes c =
    let s = state_of c.args.journal.now c.args.adjacency.now in
    let e = list-bytes s c.requires.0 c.requires.1 c.vertex_count-n.ensures c.edge_total-bytes.ensures in
    record { value = rw (c.requires.0, lt-leb _ _ (rw (← e) at c.if-output-bytes.true)) (ap Refused c.refuse.ensures); output_after = rw (c.requires.0, lt-leb _ _ (rw (← e) at c.if-output-bytes.true)) (refl) }

pub put_list-requires : goal.put_list-requires
put_list-requires c =
    let g = c.args.adjacency.now in
    let s = state_of c.args.journal.now g in
    let n = c.vertex_count-n.ensures in
    let e = ap (λ (n : ℕ). length (list_bytes n g)) (laid-vertices s c.requires.0 c.requires.1 n)
    ∙ list-bytes s c.requires.0 c.requires.1 n c.edge_total-bytes.ensures in
    ((phase-facts phase_laid s c.requires.0).0.adjacency_length, laid-few s c.requires.0 c.requires.1 n, omega (arith, e, c.if-output-bytes.false))

pub returns : goal.returns
returns c =
    let g = c.args.adjacency.now in
    let s = state_of c.args.journal.now g in
    let n = laid-vertices s c.requires.0 c.requires.1 c.vertex_count-n.ensures in
    let e = list-bytes s c.requires.0 c.requires.1 c.vertex_count-n.ensures c.edge_total-bytes.ensures in
    record { value = rw (c.requires.0, le-leb _ _ (rw (← e) at c.if-output-bytes.false)) (ap Written (c.put_list.ensures.value ∙ ap (λ (n : ℕ). length (list_bytes n g)) n)); output_after = rw (c.requires.0, le-leb _ _ (rw (← e) at c.if-output-bytes.false)) (c.put_list.ensures.output_after ∙ ap (λ (n : ℕ). sets c.args.output.now 0 (list_bytes n g)) n) }
