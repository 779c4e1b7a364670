-- `text::put_head` meets its contract: four pieces, one after the other.
use native.Mathlib.Omega.{arith}
use Rattle.text.specs.Text.{field, boards_word, links_word, switches_word, newline}
use Rattle.text.proofs.Decimal.{field_room}
use Rattle.text.proofs.Written.{written_4}
use Rattle.text.proofs.put_head.Goals as goal

pub put_field-a-requires : goal.put_field-a-requires
put_field-a-requires c = field_room boards_word _ _ _ (omega arith)

pub put_field-b-requires : goal.put_field-b-requires
put_field-b-requires c = field_room links_word _ _ _ (omega arith)

pub put_field-c-requires : goal.put_field-c-requires
put_field-c-requires c = field_room switches_word _ _ _ (omega arith)

pub returns : goal.returns
returns c =
    let a = c.args in
    let w = written_4 a.out.now a.at (field boards_word a.n) (field links_word a.edges) (field switches_word a.switches) newline
    _ _ (c.put_field-a.ensures.value.0, c.put_field-a.ensures.out_after)
    _ _ (c.put_field-b.ensures.value.0, c.put_field-b.ensures.out_after)
    _ _ (c.put_field-c.ensures.value.0, c.put_field-c.ensures.out_after)
    _ _ (c.put_word.ensures.value, c.put_word.ensures.out_after) in
    record { value = w.0; out_after = w.1 }
