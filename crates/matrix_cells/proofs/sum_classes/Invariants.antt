-- `matrix_cells::sum_classes` meets its contract: after v turns the sums are over the first v vertices.
use mathlib.Core.Path.{◌≡◌}
use Prim.Native.Nat.{ℕ, ◌≤◌, ◌<◌, ◌+◌, ◌*◌}
use lib.ListN.{length, get_or}
use Rattle.layout.specs.Inner.Arrays.{class_in}
use Rattle.adjacency.specs.Adjacency.{side, edge}
use Rattle.matrix_cells.specs.Inner.Sums.{sums_size, class_edges}
use Rattle.matrix_cells.proofs.sum_classes.Given as goal

abbrev pub invariant-loop-v : goal.invariant-loop-v
invariant-loop-v l = (l.v ≤ l.n) × (length l.sums ≡ sums_size) × ((k w : ℕ) → w < l.n → get_or l.sums (k * side + w) 0 ≡ class_edges l.v (class_in l.classes) (edge l.adjacency) k w)
