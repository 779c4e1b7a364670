-- `slices::all_zero` meets its contract: the largest of the bytes passed is 0 where all of them are.
use mathlib.Core.Path.{◌≡◌}
use Prim.Native.Nat.{◌≤◌}
use lib.Dec.{eqb}
use lib.ListN.{length, get_or}
use Rattle.finite.specs.Range.{all_to}
use Rattle.slices.proofs.all_zero.Given as goal

abbrev pub invariant-loop-x : goal.invariant-loop-x
invariant-loop-x l = (l.x-index ≤ length l.s) × (eqb l.most 0 ≡ all_to l.x-index (λ i. eqb (get_or l.s i 0) 0))
