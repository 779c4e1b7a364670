-- `open_pairs::column::row_open` meets its contract.
use native.Mathlib.Omega.{arith}
use Rattle.open_pairs.proofs.Columns.{free_none, free_most}
use Rattle.open_pairs.proofs.column.row_open.Goals as goal

pub returns : goal.returns
returns c =
    let x = c.args in
    omega (
      arith,
      c.requires.0.few,
      free_none x.adjacency.now x.full.now x.k x.v,
      free_most x.adjacency.now x.full.now x.k x.v x.n,
    )
