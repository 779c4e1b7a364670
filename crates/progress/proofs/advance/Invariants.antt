-- `progress::advance` meets its contract: what is left to search has the answer of the whole.
use mathlib.Core.Path.{◌≡◌}
use lib.Dec.{ltb}
use lib.ListN.{get_or}
use Rattle.finite.specs.Range.{lowest}
use Rattle.progress.proofs.advance.Given as goal

abbrev pub invariant-loop-i : goal.invariant-loop-i
invariant-loop-i l = lowest l.from l.to (λ i. ltb (get_or l.degrees i 0) l.k) ≡ lowest l.i l.to (λ i. ltb (get_or l.degrees i 0) l.k)
