-- `matrix_cells::cells_within` meets its contract: the flag is the test of the classes passed.
use mathlib.Core.Path.{◌≡◌, sym}
use mathlib.Core.Bool.{and-true}
use Prim.Native.Nat.{ℕ}
use native.Mathlib.Omega.{arith}
use borrow.Author.Count.{below_none}
use lib.ListN.{length-replicate}
use Rattle.finite.proofs.All.{all_to-none, all_to-more}
use Rattle.graph.specs.Tests.{most_classes}
use Rattle.table.specs.Inner.Cells.{matrix_of}
use Rattle.layout.specs.Inner.Arrays.{class_in}
use Rattle.table.proofs.Matrix.{matrix_sym}
use Rattle.slices.proofs.Zero.{get_or-zeros}
use Rattle.adjacency.specs.Adjacency.{edge}
use Rattle.matrix_cells.specs.Inner.Sums.{sums_size}
use Rattle.adjacency.proofs.Mirrored.{cells_within-upper}
use Rattle.adjacency.proofs.Classes.{class_absent}
use Rattle.matrix_cells.proofs.Sums.{class_edgess_within, absent_within}
use Rattle.matrix_cells.proofs.cells_within.Goals as goal
use Rattle.matrix_cells.proofs.cells_within.Goals.{then-has_class, else-has_class}

pub sum_classes-requires : goal.sum_classes-requires
sum_classes-requires c = (c.requires.0, c.requires.1, c.requires.2, c.requires.3, length-replicate {A = ℕ} sums_size 0, get_or-zeros sums_size)

pub loop-k-init : goal.loop-k-init
loop-k-init c = (omega arith, omega arith, below_none _, rw all_to-none)

pub loop-k-preserved : goal.loop-k-preserved
loop-k-preserved c =
    let a = c.args in
    let k = c.loop-k.k in
    let cls = class_in a.classes.now in
    let E = edge a.adjacency.now in
    let T = matrix_of a.cells.now in (
      omega arith,
      c.skip_below-start.ensures.0,
      λ w i. omega (arith, c.skip_below-start.ensures.1 w i),
      elim c.if-has_class.branch [
        | then-has_class w ↦ rw (all_to-more, w.ok-is, c.loop-k.invariant.3, w.class_within-ok.ensures, class_edgess_within a.n cls E _ T k (c.sum_classes.ensures k))
        | else-has_class w ↦
            let r = c.skip_below-start.ensures in
            let none = class_absent a.n k c.skip_below-start.result cls c.requires.4 r.1 r.2 (rw c.has_class.ensures at w.if-has_class.false) in
            rw (all_to-more, w.ok-is, c.loop-k.invariant.3, absent_within a.n cls E T k none) (sym (and-true _))
      ],
    )

pub returns : goal.returns
returns c =
    let a = c.args in
    let e : c.loop-k.k ≡ most_classes = omega arith in
    let T = matrix_of a.cells.now in
    rw (cells_within-upper a.n a.adjacency.now c.requires.2 (class_in a.classes.now) c.requires.3 T (matrix_sym a.cells.now))
    (rw e at c.loop-k.invariant.3)
