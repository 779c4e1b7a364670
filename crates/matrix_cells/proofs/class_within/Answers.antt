-- `matrix_cells::class_within` meets its contract: the flag is the test of the cells passed.
use mathlib.Core.Path.{sym}
use Prim.Native.Nat.{ℕ, ◌≤◌}
use native.Mathlib.Omega.{arith}
use borrow.Author.Tests.{lt-ltb, le-ltb}
use lib.ListN.{length-replicate}
use Rattle.finite.proofs.All.{all_to-more, all_to-holds}
use Rattle.graph.specs.Tests.{most_classes}
use Rattle.slices.proofs.Zero.{get_or-zeros}
use Rattle.matrix_cells.proofs.class_within.Goals as goal

pub count_class-requires : goal.count_class-requires
count_class-requires c = (omega arith, omega arith, c.requires.2, omega arith, c.requires.4, length-replicate {A = ℕ} most_classes 0, get_or-zeros most_classes)

pub loop-l-init : goal.loop-l-init
loop-l-init c = (omega arith, omega arith, sym (all_to-holds _ _ (λ l h. rw (lt-ltb l _ h))))

pub loop-l-preserved : goal.loop-l-preserved
loop-l-preserved c =
    let k = c.args.k in
    let h : k ≤ c.loop-l.l = omega arith in (
      omega arith,
      omega arith,
      rw (
        all_to-more,
        le-ltb c.loop-l.l k h,
        c.loop-l.invariant.2,
        c.count_class.ensures c.loop-l.l h,
        c.upper_cell.ensures.0,
      ),
    )
