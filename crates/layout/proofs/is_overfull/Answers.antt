-- `layout::is_overfull` meets its contract.
use mathlib.Core.Path.{◌∙◌}
use Rattle.graph.specs.Tests.{count}
use Rattle.graph.proofs.Matrix.{cell_most-cong}
use Rattle.table.specs.Inner.Cells.{matrix_of}
use Rattle.layout.specs.Inner.Arrays.{count_in}
use Rattle.layout.proofs.Counted.{counted-degree, counts_most}
use Rattle.layout.proofs.is_overfull.Goals as goal

pub cell_most-requires : goal.cell_most-requires
cell_most-requires c = (c.requires.1, c.requires.3, counts_most c.args.cells.now c.args.counts.now c.requires.4 c.requires.5)

pub returns : goal.returns
returns c =
    let e = counted-degree c.args.cells.now c.args.counts.now c.requires.5 in
    let same = cell_most-cong (count_in c.args.counts.now) (count (matrix_of c.args.cells.now)) c.args.k c.args.l (e c.args.k c.requires.0) (e c.args.l c.requires.2) in
    rw (c.cell_most.ensures ∙ same, c.cell.ensures.0)
