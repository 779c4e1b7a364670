-- `degree_counts::degrees_of` meets its contract: after i turns the first i edges are counted.
use mathlib.Core.Path.{◌≡◌}
use lib.ListN.{length}
use Rattle.layout.specs.Layout.{most_vertices}
use Rattle.edge_lists.proofs.List.{graph_to}
use Rattle.degree_counts.specs.Inner.Degrees.{HasDegrees}
use Rattle.degree_counts.proofs.degrees_of.Given as goal

abbrev pub invariant-loop-v : goal.invariant-loop-v
invariant-loop-v l = (length l.degrees ≡ most_vertices) × HasDegrees l.degrees l.total (graph_to l.edges l.v-index)
