-- `complete::fill::fill_row` meets its contract: before cell (k, l) those before it in the row are filled.
use mathlib.Core.Path.{◌≡◌}
use Prim.Native.Nat.{◌+◌, ◌-◌}
use Rattle.finite.specs.Range.{fold_to}
use Rattle.table.specs.Inner.Cells.{matrix_of}
use Rattle.classes.specs.Inner.Block.{class_from}
use Rattle.adjacency.specs.Inner.Degrees.{degrees_of}
use Rattle.completion.specs.Inner.Cellwise.{fill_cell}
use Rattle.progress.specs.Inner.Work.{ran, WroteRecords}
use Rattle.complete.proofs.fill.fill_row.Given as goal

abbrev pub invariant-loop-l : goal.invariant-loop-l
invariant-loop-l l = (ran l.adjacency l.output l.sum ≡ fold_to (l.l - l.k) (λ i. fill_cell l.n (class_from l.starts) (matrix_of l.cells) l.k (l.k + i)) (ran l.initial.adjacency l.initial.output l.initial.sum))
    × (l.degrees ≡ degrees_of l.n l.adjacency)
    × WroteRecords l.initial.sum.joins l.sum.joins l.initial.output l.output
