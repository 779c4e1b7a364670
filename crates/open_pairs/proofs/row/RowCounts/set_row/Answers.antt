-- `open_pairs::row::RowCounts::set_row` meets its contract.
use Prim.Native.Nat.{◌/◌}
use native.Mathlib.Omega.{arith}
use Rattle.open_pairs.specs.Inner.Rows.{rows_in_sum}
use Rattle.open_pairs.proofs.Sums.{sum-most, count_in-sum, summed_set}
use Rattle.open_pairs.proofs.row.RowCounts.set_row.Goals as goal

pub overflow_sub-self : goal.overflow_sub-self
overflow_sub-self c = count_in-sum c.self.invariant c.args.v c.requires.0

pub overflow_add-self : goal.overflow_add-self
overflow_add-self c = omega (arith, sum-most c.self.invariant (c.args.v / rows_in_sum) (omega arith))

pub invariant_of-self : goal.invariant_of-self
invariant_of-self c = summed_set c.self.invariant c.args.v c.requires.0 c.args.m c.requires.1
