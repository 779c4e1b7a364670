-- `journal::sum_blocks` meets its contract: after i turns the first i blocks are added.
use mathlib.Core.Path.{◌≡◌}
use Prim.Native.Nat.{◌≤◌}
use Rattle.journal.specs.Journal.{blocks}
use Rattle.journal.proofs.Matrix.{cells_to}
use Rattle.journal.proofs.sum_blocks.Given as goal

abbrev pub invariant-loop-i : goal.invariant-loop-i
invariant-loop-i l = (l.i ≤ blocks l.journal) × (l.cells ≡ cells_to l.journal l.i)
