-- `matrix_cells::class_within` meets its contract: the flag is the test of the cells passed.
use mathlib.Core.Path.{◌≡◌}
use mathlib.Core.Bool.{◌||◌}
use Prim.Native.Nat.{◌≤◌, ◌+◌, ◌*◌}
use lib.Dec.{leb, ltb}
use lib.ListN.{get_or}
use Rattle.finite.specs.Range.{δ, sum_to, all_to}
use Rattle.graph.specs.Tests.{most_classes}
use Rattle.table.specs.Inner.Cells.{matrix_of}
use Rattle.layout.specs.Inner.Arrays.{class_in}
use Rattle.adjacency.specs.Adjacency.{side}
use Rattle.matrix_cells.proofs.class_within.Given as goal

abbrev pub invariant-loop-l : goal.invariant-loop-l
invariant-loop-l st = (st.k ≤ st.l) × (st.l ≤ most_classes) × (st.ok ≡ all_to st.l (λ l. ltb l st.k || leb (sum_to st.n (λ w. δ (class_in st.classes w) l * get_or st.sums (st.k * side + w) 0)) (matrix_of st.cells st.k l)))
