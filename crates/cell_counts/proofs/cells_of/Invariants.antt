-- `cell_counts::cells_of` meets its contract: after i turns the first i edges are counted.
use mathlib.Core.Path.{◌≡◌}
use lib.ListN.{length}
use Rattle.graph.specs.Graph.{degree}
use Rattle.table.specs.Inner.Cells.{cells_size}
use Rattle.edge_lists.specs.EdgeList.{graph_of}
use Rattle.edge_lists.proofs.List.{graph_to}
use Rattle.cell_counts.specs.Inner.Cells.{HasCells}
use Rattle.cell_counts.proofs.cells_of.Given as goal

abbrev pub invariant-loop-v : goal.invariant-loop-v
invariant-loop-v l = (length l.cells ≡ cells_size) × HasCells l.cells l.total (degree l.total (graph_of l.edges)) (graph_to l.edges l.v-index)
