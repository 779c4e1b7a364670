-- `graph6_write::write_listed` meets its contract: the check decides as the definition has it, and the size and the body are the text.
use mathlib.Core.Path.{refl, ap, ◌∙◌}
use borrow.Author.Tests.{le-leb, lt-leb}
use Rattle.answer.specs.declared.WrittenAnswer.TheVariants.{Written, Refused}
use Rattle.edge_lists.proofs.List.{verdict_passed}
use Rattle.graph6_write.proofs.Text.{code_size, code_text}
use Rattle.graph6_write.proofs.write_listed.Goals as goal

pub returns-then-output-head : goal.returns-then-output-head
returns-then-output-head c =
    let p = verdict_passed c.args.edges.now c.args.total c.requires in
    let size = code_size c.args.edges.now c.args.total p _ _ c.size_length-head.ensures.0 c.body_length-rest.ensures.0 in
    let short = rw size at c.if-output-head.true in
    record { value = rw (lt-leb _ _ short) (ap Refused c.refuse.ensures); output_after = rw (lt-leb _ _ short) (refl) }

pub returns : goal.returns
returns c =
    let p = verdict_passed c.args.edges.now c.args.total c.requires in
    let size = code_size c.args.edges.now c.args.total p _ _ c.size_length-head.ensures.0 c.body_length-rest.ensures.0 in
    let text = code_text c.args.edges.now c.args.total p _ _ c.size_length-head.ensures.0 c.body_length-rest.ensures.0 c.args.output.now in
    let fits = rw size at c.if-output-head.false in
    record { value = rw (le-leb _ _ fits) (ap Written size); output_after = rw (le-leb _ _ fits) (c.copy_in.ensures ∙ rw (c.put_size.ensures, c.body_of-body.ensures) text) }
