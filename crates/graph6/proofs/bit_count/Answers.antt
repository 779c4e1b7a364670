-- `graph6::bit_count` meets its contract.
use mathlib.Core.Path.{refl}
use native.Mathlib.Omega.{arith}
use Rattle.graph6.specs.Format.{column_start}
use Rattle.graph6.proofs.Columns.{columns_none, columns_most}
use Rattle.graph6.proofs.bit_count.Goals as goal

pub returns-then-n-eq0 : goal.returns-then-n-eq0
unfolding column_start
returns-then-n-eq0 c = rw (c.if-n-eq0.true, columns_none) (omega arith, omega arith)

pub returns : goal.returns
unfolding column_start
returns c = (refl, columns_most c.args.n c.requires)
