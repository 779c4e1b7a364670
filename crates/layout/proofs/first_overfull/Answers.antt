-- `layout::first_overfull` meets its contract: the first row that does not fit is the first with an overfull cell.
use mathlib.Core.Path.{subst}
use mathlib.Core.Bool.{not}
use Prim.Native.Nat.{ℕ}
use Rattle.std.proofs.Common.{rules}
use Rattle.finite.specs.Range.{lowest, IsFound}
use Rattle.graph.specs.Tests.{least_class, most_classes}
use Rattle.table.specs.Inner.Cells.{matrix_of}
use Rattle.table.proofs.Matrix.{matrix_sym}
use Rattle.layout.specs.Inner.Arrays.{row_fits}
use Rattle.layout.proofs.Overfull.{first_unfit}
use Rattle.layout.proofs.first_overfull.Goals as goal

pub returns : goal.returns
returns c =
    let T = matrix_of c.args.cells.now in
    let found : IsFound most_classes (lowest least_class most_classes (λ k. not (row_fits T k))) c.first_passing.result = search rules in
    subst (λ (k : ℕ). IsFound most_classes k c.first_passing.result) (first_unfit T (matrix_sym c.args.cells.now)) found
