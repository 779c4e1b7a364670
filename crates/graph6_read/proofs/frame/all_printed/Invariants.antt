-- `graph6_read::frame::all_printed` meets its contract: the flag is the test of the bytes passed.
use mathlib.Core.Path.{◌≡◌}
use lib.ListN.{get_or}
use Rattle.finite.specs.Range.{all_to}
use Rattle.graph6.specs.Format.{most_byte, up_to}
use Rattle.graph6_read.proofs.frame.all_printed.Given as goal

abbrev pub invariant-loop-x : goal.invariant-loop-x
invariant-loop-x l = l.ok ≡ all_to l.x-index (λ i. up_to most_byte (get_or l.text i 0))
