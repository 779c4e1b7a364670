-- `matrix_cells::cells_within` meets its contract: the flag is the test of the classes passed.
use mathlib.Core.Path.{◌≡◌}
use mathlib.Core.Bool.{◌||◌}
use Prim.Native.Nat.{ℕ, ◌≤◌, ◌<◌}
use lib.Dec.{leb, ltb}
use Rattle.finite.specs.Range.{all_to}
use Rattle.graph.specs.Graph.{jdm}
use Rattle.graph.specs.Tests.{most_classes}
use Rattle.table.specs.Inner.Cells.{matrix_of}
use Rattle.layout.specs.Inner.Arrays.{class_in}
use Rattle.adjacency.specs.Adjacency.{edge}
use Rattle.matrix_cells.proofs.cells_within.Given as goal

abbrev pub invariant-loop-k : goal.invariant-loop-k
invariant-loop-k st = (st.k ≤ most_classes) × (st.start ≤ st.n) × ((w : ℕ) → w < st.start → class_in st.classes w < st.k)
    × (st.ok ≡ all_to st.k (λ k. all_to most_classes (λ l. ltb l k || leb (jdm st.n (class_in st.classes) (edge st.adjacency) k l) (matrix_of st.cells k l))))
