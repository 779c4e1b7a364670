-- `journal::slots_ok` meets its contract: the slots passed are ok.
use mathlib.Core.Path.{◌≡◌}
use mathlib.Core.Bool.{true}
use Prim.Native.Nat.{◌≤◌}
use Rattle.finite.specs.Range.{all_to}
use Rattle.table.specs.Block.{most_blocks}
use Rattle.journal.specs.Journal.{slot_ok}
use Rattle.journal.proofs.slots_ok.Given as goal

abbrev pub invariant-loop-i : goal.invariant-loop-i
invariant-loop-i l = (l.i ≤ most_blocks) × (all_to l.i (slot_ok l.journal) ≡ true)
