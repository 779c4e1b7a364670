-- `open_pairs::column::skip_columns` meets its contract: what is left of the position is what the free columns passed leave of it.
use native.Mathlib.Omega.{arith}
use Rattle.open_pairs.proofs.Columns.{free_none}
use Rattle.open_pairs.proofs.column.skip_columns.Goals as goal

pub loop-w-init : goal.loop-w-init
loop-w-init c =
    let x = c.args in
    (omega arith, omega arith, omega (arith, free_none x.adjacency.now x.full.now x.k x.v))
