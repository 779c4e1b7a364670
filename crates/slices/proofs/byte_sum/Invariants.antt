-- `slices::byte_sum` meets its contract: after i turns the sum is that of the first i bytes.
use mathlib.Core.Path.{◌≡◌}
use Prim.Native.Nat.{◌≤◌}
use lib.ListN.{length, get_or}
use Rattle.finite.specs.Range.{sum_to}
use Rattle.slices.proofs.byte_sum.Given as goal

abbrev pub invariant-loop-x : goal.invariant-loop-x
invariant-loop-x l = (l.x-index ≤ length l.s) × (l.sum ≡ sum_to l.x-index (λ i. get_or l.s i 0))
