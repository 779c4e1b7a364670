-- `slices::byte_sum` meets its contract: after i turns the sum is that of the first i bytes.
use Prim.Native.Nat.{ℕ, ◌+◌}
use lib.ListN.{length, get_or}
use native.Mathlib.Omega.{arith}
use Rattle.finite.proofs.Sum.{sum_to-none, sum_to-more, sum_to-le}
use Rattle.slices.proofs.byte_sum.Goals as goal

pub loop-x-init : goal.loop-x-init
loop-x-init c = (omega arith, rw sum_to-none)

pub overflow_add-sum : goal.overflow_add-sum
overflow_add-sum c =
    let f : ℕ → ℕ = λ i. get_or c.args.s.now i 0 in
    omega (
      arith,
      c.loop-x.invariant.1,
      c.from-sum.ensures,
      sum_to-more f c.loop-x.x-index,
      sum_to-le (c.loop-x.x-index + 1) (length c.args.s.now) f (omega arith),
    )

pub loop-x-preserved : goal.loop-x-preserved
loop-x-preserved c = simp sum_to-more (omega arith)
