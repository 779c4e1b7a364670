-- `matrix_cells::count_class` meets its contract: the vertices below w are counted, for each class from k on.
use mathlib.Core.Path.{◌≡◌}
use Prim.Native.Nat.{ℕ, ◌≤◌, ◌+◌, ◌*◌}
use lib.ListN.{length, get_or}
use Rattle.finite.specs.Range.{δ, sum_to}
use Rattle.graph.specs.Tests.{most_classes}
use Rattle.layout.specs.Inner.Arrays.{class_in}
use Rattle.adjacency.specs.Adjacency.{side}
use Rattle.matrix_cells.proofs.count_class.Given as goal

abbrev pub invariant-loop-w : goal.invariant-loop-w
invariant-loop-w st = (st.w ≤ st.n) × (length st.have ≡ most_classes)
    × ((l : ℕ) → st.k ≤ l → get_or st.have l 0 ≡ sum_to st.w (λ w. δ (class_in st.classes w) l * get_or st.sums (st.k * side + w) 0))
    × ((l : ℕ) → get_or st.have l 0 ≤ 255 * st.w)
