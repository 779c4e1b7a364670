-- `complete::fill::fill_all` meets its contract: before row k those before it are filled.
use mathlib.Core.Path.{◌≡◌}
use Prim.Native.Nat.{◌+◌, ◌-◌}
use Rattle.finite.specs.Range.{fold_to}
use Rattle.graph.specs.Tests.{least_class}
use Rattle.table.specs.Inner.Cells.{matrix_of}
use Rattle.classes.specs.Inner.Block.{class_from}
use Rattle.adjacency.specs.Inner.Degrees.{degrees_of}
use Rattle.completion.specs.Inner.Cellwise.{fill_row}
use Rattle.progress.specs.Inner.Work.{ran, WroteRecords}
use Rattle.complete.proofs.fill.fill_all.Given as goal

abbrev pub invariant-loop-k : goal.invariant-loop-k
invariant-loop-k l = (ran l.adjacency l.output l.sum ≡ fold_to (l.k - least_class) (λ i. fill_row l.n (class_from l.starts) (matrix_of l.cells) (least_class + i)) (ran l.initial.adjacency l.initial.output l.initial.sum))
    × (l.degrees ≡ degrees_of l.n l.adjacency)
    × WroteRecords l.initial.sum.joins l.sum.joins l.initial.output l.output
