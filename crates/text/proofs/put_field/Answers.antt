-- `text::put_field` meets its contract.
use native.Mathlib.Omega.{arith}
use Rattle.text.specs.Text.{decimal}
use Rattle.text.proofs.Decimal.{decimal-length}
use Rattle.text.proofs.Written.{written_next}
use Rattle.text.proofs.put_field.Goals as goal

pub returns : goal.returns
returns c =
    let a = c.args in
    let x = written_next a.out.now a.at a.word.now (decimal a.n) _ _ (c.put_word-a.ensures.value, c.put_word-a.ensures.out_after) _ _ (c.put_decimal.ensures.value, c.put_decimal.ensures.out_after) in
    record { value = (x.0, omega (arith, c.put_word-a.ensures.value, c.put_decimal.ensures.value, decimal-length a.n)); out_after = x.1 }
