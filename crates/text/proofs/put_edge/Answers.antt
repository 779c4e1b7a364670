-- `text::put_edge` meets its contract: three pieces, one after the other.
use mathlib.Core.List.{◌++◌}
use Rattle.text.specs.Text.{decimal, field, space, newline}
use Rattle.text.proofs.Written.{written_next}
use Rattle.text.proofs.put_edge.Goals as goal

pub returns : goal.returns
returns c =
    let a = c.args in
    let w = written_next a.out.now a.at (decimal a.v) (field space a.w) _ _ (c.put_decimal-a.ensures.value, c.put_decimal-a.ensures.out_after) _ _ (c.put_field-b.ensures.value.0, c.put_field-b.ensures.out_after) in
    let r = written_next a.out.now a.at (decimal a.v ++ field space a.w) newline _ _ w _ _ (c.put_word.ensures.value, c.put_word.ensures.out_after) in
    record { value = r.0; out_after = r.1 }
