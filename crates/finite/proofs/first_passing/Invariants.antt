-- `finite::first_passing` meets its contract: each number before i was tested, and failed.
use mathlib.Core.Bool.{false}
use Prim.Native.Nat.{ℕ, ◌≤◌, ◌<◌}
use Rattle.finite.proofs.first_passing.Given as goal

abbrev pub invariant-loop-i : goal.invariant-loop-i
invariant-loop-i g l = (l.from ≤ l.i) × ((j : ℕ) → l.from ≤ j → j < l.i → goal.F-post g l.passes j false)
