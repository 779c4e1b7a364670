-- Laying out (document 01): D(k), N, the tests 9 to 12 in their order, and the class of each vertex.
-- Assumes nothing.
use Rattle.std.specs.Prelude.{ℕ, ◌/◌, eqb, leb}
use Rattle.finite.specs.Range.{sum_to}
use Rattle.graph.specs.Graph.{DegreeTable}
use Rattle.graph.specs.Tests.{most_classes, row_sum, vertices, first_odd, first_uneven, first_overfull, first_overfull_in}
use Rattle.answer.specs.Refusals.{Verdict, Go, Stop, refuse, stopped, unless}
use Rattle.answer.specs.declared.Cause.TheVariants.{OddDiagonal, RowNotDivisible, CellTooLarge, TooManyVertices}

-- the most vertices of a layout
abbrev pub most_vertices : ℕ
most_vertices = 200

-- edges wanted: half the sum of all cells, (k, l) and (l, k) both counted
abbrev pub wanted : (ℕ → ℕ → ℕ) → ℕ
wanted T = sum_to most_classes (row_sum T) / 2

-- The tests 9 to 12, each over all cells before the next begins, with the places of the first failure. Only 12 sees the isolated vertices.
abbrev pub layout_verdict : DegreeTable → Verdict
layout_verdict t =
    let T = t.cells in
    unless (eqb (first_odd T) most_classes) (Stop (refuse OddDiagonal (first_odd T) (first_odd T)))
    (unless (eqb (first_uneven T) most_classes) (Stop (refuse RowNotDivisible (first_uneven T) 0))
    (unless (eqb (first_overfull T) most_classes) (Stop (refuse CellTooLarge (first_overfull T) (first_overfull_in T (first_overfull T))))
    (unless (leb (vertices t) most_vertices) (stopped TooManyVertices) Go)))
