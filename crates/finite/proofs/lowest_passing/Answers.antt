-- `finite::lowest_passing` meets its contract: a range that ends before it begins has no number.
use mathlib.Core.Path.{sym}
use native.Mathlib.Omega.{arith}
use Rattle.finite.proofs.Lowest.{lowest-end}
use Rattle.finite.proofs.lowest_passing.Goals as goal

pub returns-then-to-from : goal.returns-then-to-from
returns-then-to-from g c p h = sym (lowest-end c.args.from c.args.to p (omega arith))
