-- `open_pairs::column::taken` meets its contract: of the places passed, those that are not free are counted.
use mathlib.Core.Path.{◌≡◌}
use mathlib.Core.Bool.{◌&&◌}
use Prim.Native.Nat.{◌+◌}
use lib.Dec.{eqb}
use lib.ListN.{length, get_or}
use Rattle.finite.specs.Range.{bit, sum_to}
use Rattle.open_pairs.proofs.column.taken.Given as goal

abbrev pub invariant-loop-x : goal.invariant-loop-x
invariant-loop-x l = l.sum + sum_to (length l.yielded) (λ i. bit (eqb (get_or l.a i 0) 0 && eqb (get_or l.b i 0) 0)) ≡ length l.yielded
