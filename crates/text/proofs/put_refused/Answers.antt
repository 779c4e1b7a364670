-- `text::put_refused` meets its contract: four pieces, one after the other.
use native.Mathlib.Omega.{arith}
use Rattle.answer.specs.Numbers.{number_of}
use Rattle.text.specs.Text.{field, refused_word, space, newline}
use Rattle.text.proofs.Decimal.{field_room}
use Rattle.text.proofs.Written.{written_4}
use Rattle.text.proofs.put_refused.Goals as goal

pub put_field-number-requires : goal.put_field-number-requires
put_field-number-requires c = field_room refused_word _ _ _ (omega arith)

pub put_field-first-requires : goal.put_field-first-requires
put_field-first-requires c = field_room space _ _ _ (omega arith)

pub put_field-second-requires : goal.put_field-second-requires
put_field-second-requires c = field_room space _ _ _ (omega arith)

pub returns : goal.returns
returns c =
    let a = c.args in
    let w = written_4 a.out.now a.at (field refused_word (number_of a.r.cause)) (field space a.r.first) (field space a.r.second) newline
    _ _ (rw c.number_of.ensures at c.put_field-number.ensures.value.0, rw c.number_of.ensures at c.put_field-number.ensures.out_after)
    _ _ (c.put_field-first.ensures.value.0, c.put_field-first.ensures.out_after)
    _ _ (c.put_field-second.ensures.value.0, c.put_field-second.ensures.out_after)
    _ _ (c.put_word.ensures.value, c.put_word.ensures.out_after) in
    record { value = w.0; out_after = w.1 }
