-- `table::cells::add_block` meets its contract: after i turns the first i records are added.
use mathlib.Core.Path.{◌≡◌}
use Prim.Native.Nat.{◌≤◌}
use Rattle.finite.specs.Range.{fold_to}
use Rattle.table.specs.Block.{records}
use Rattle.table.specs.Inner.Cells.{add_record}
use Rattle.table.proofs.cells.add_block.Given as goal

abbrev pub invariant-loop-i : goal.invariant-loop-i
invariant-loop-i l = (l.i ≤ records l.block) × (l.cells ≡ fold_to l.i (add_record l.block) l.initial.cells)
