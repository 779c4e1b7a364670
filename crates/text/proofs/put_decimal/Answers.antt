-- `text::put_decimal` meets its contract.
use mathlib.Core.Path.{sym, ◌∙◌}
use native.Mathlib.Omega.{arith}
use Rattle.text.proofs.Decimal.{decimal-fewest}
use Rattle.text.proofs.put_decimal.Goals as goal

pub put_word-requires : goal.put_word-requires
put_word-requires c = rw (c.decimal-k.ensures.digits ∙ sym (decimal-fewest c.args.n c.decimal-k.result (omega arith) c.decimal-k.ensures.len)) c.requires

pub returns-clause-value : goal.returns-clause-value
returns-clause-value c = rw (c.decimal-k.ensures.digits ∙ sym (decimal-fewest c.args.n c.decimal-k.result (omega arith) c.decimal-k.ensures.len)) at c.put_word.ensures.value

pub returns-clause-out_after : goal.returns-clause-out_after
returns-clause-out_after c = rw (c.decimal-k.ensures.digits ∙ sym (decimal-fewest c.args.n c.decimal-k.result (omega arith) c.decimal-k.ensures.len)) at c.put_word.ensures.out_after
