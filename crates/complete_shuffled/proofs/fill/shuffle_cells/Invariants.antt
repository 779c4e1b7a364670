-- `complete_shuffled::fill::shuffle_cells` meets its contract: after i turns i joins are made, and what is left of the run goes on from there.
use mathlib.Core.Path.{◌≡◌}
use Prim.Native.Nat.{◌+◌, ◌-◌, ◌≤◌}
use lib.ListN.{length}
use Rattle.graph.specs.Graph.{edges}
use Rattle.table.specs.Inner.Cells.{matrix_of}
use Rattle.adjacency.specs.Adjacency.{edge}
use Rattle.classes.specs.Inner.Block.{class_from}
use Rattle.completion.specs.Complete.{most_edges}
use Rattle.progress.specs.Inner.Work.{ran, WroteRecords}
use Rattle.shuffled_completion.specs.Shuffle.{run_shuffled}
use Rattle.complete_shuffled.specs.Inner.Work.{Shuffling, shuffled_at, begins}
use Rattle.complete_shuffled.proofs.fill.shuffle_cells.Given as goal

abbrev pub invariant-loop : goal.invariant-loop
invariant-loop l = (l.counter ≤ l.m)
    × Shuffling l.n l.cells l.starts l.classes l.adjacency l.tracking.have l.tracking.full l.tracking.counts l.low l.degrees (length l.output) (ran l.adjacency l.output l.done.totals)
    × (run_shuffled (most_edges - l.counter) l.n (class_from l.starts) (matrix_of l.cells) (shuffled_at l.adjacency l.output l.done)
    ≡ run_shuffled most_edges l.n (class_from l.starts) (matrix_of l.cells) (begins l.initial.adjacency l.x))
    × (edges l.n (edge l.adjacency) ≡ edges l.n (edge l.initial.adjacency) + l.counter)
    × WroteRecords 0 l.done.totals.joins l.initial.output l.output
