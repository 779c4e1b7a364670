-- `replica::read_full`: what was read fits, and each turn reads more.
use Rattle.std.proofs.Common.{length, ◌-◌, ◌≤◌}
use Rattle.replica.proofs.read_full.Given as goal

abbrev pub invariant-loop-done : goal.invariant-loop-done
invariant-loop-done g l = l.done ≤ length l.input

abbrev pub decreases-loop-done : goal.decreases-loop-done
decreases-loop-done g l = length l.initial.input - l.done
