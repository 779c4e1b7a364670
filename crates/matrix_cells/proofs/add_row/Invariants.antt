-- `matrix_cells::add_row` meets its contract: after i turns the first i bytes are added, and the other sums are as they were.
use mathlib.Core.Path.{◌≡◌}
use Prim.Native.Nat.{ℕ, ◌≤◌, ◌<◌, ◌+◌}
use lib.ListN.{length, get_or}
use Rattle.matrix_cells.proofs.add_row.Given as goal

abbrev pub invariant-loop-i : goal.invariant-loop-i
invariant-loop-i l = (l.i ≤ length l.initial.sums) × (length l.sums ≡ length l.initial.sums)
    × ((j : ℕ) → j < l.i → get_or l.sums j 0 ≡ get_or l.initial.sums j 0 + get_or l.row j 0)
    × ((j : ℕ) → l.i ≤ j → get_or l.sums j 0 ≡ get_or l.initial.sums j 0)
