-- `open_pairs::row::seek` meets its contract: what is left of the position is what the entries passed leave of it.
use mathlib.Core.Path.{◌≡◌}
use Prim.Native.Nat.{◌+◌}
use lib.ListN.{get_or}
use Rattle.finite.specs.Range.{sum_to}
use Rattle.open_pairs.proofs.row.seek.Given as goal

abbrev pub invariant-loop-at : goal.invariant-loop-at
invariant-loop-at l = sum_to l.at (λ i. get_or l.counts i 0) + l.rest ≡ l.position
