-- `graph6_read::bits::list_length` meets its contract.
use mathlib.Core.Path.{ap}
use Prim.Native.Nat.{ℕ, ◌*◌, ◌≤◌}
use native.Mathlib.Omega.{arith}
use lib.ListN.{length}
use Rattle.slices.proofs.PartSum.{first_sum}
use Rattle.graph6_read.proofs.bits.list_length.Goals as goal

pub byte_sum-requires : goal.byte_sum-requires
byte_sum-requires c =
    let fits : c.bit_count-used.result ≤ length c.args.bits.now = omega arith in
    rw (first_sum c.args.bits.now c.bit_count-used.result fits, c.bit_count-used.ensures.0) c.requires.2

pub returns : goal.returns
returns c =
    let fits : c.bit_count-used.result ≤ length c.args.bits.now = omega arith in
    ap (λ (m : ℕ). 2 * m) (rw (first_sum c.args.bits.now c.bit_count-used.result fits, c.bit_count-used.ensures.0) at c.byte_sum.ensures.0)
