-- `open_pairs::row::RowCounts::none` meets its contract.
use Rattle.open_pairs.proofs.Sums.{none_summed}
use Rattle.open_pairs.proofs.row.RowCounts.none.Goals as goal

pub invariant_of-result : goal.invariant_of-result
invariant_of-result c = none_summed
