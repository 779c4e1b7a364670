-- `slices::all_zero` meets its contract: the largest of the bytes passed is 0 where all of them are.
use mathlib.Core.Path.{ap, ◌∙◌}
use Prim.Native.Nat.{ℕ}
use lib.Dec.{eqb}
use lib.ListN.{get_or}
use native.Mathlib.Omega.{arith}
use Rattle.std.proofs.Common.{rules}
use Rattle.finite.proofs.All.{all_to-none, all_to-more}
use Rattle.slices.proofs.Zero.{max_zero}
use Rattle.slices.proofs.all_zero.Goals as goal

pub loop-x-init : goal.loop-x-init
loop-x-init c = (omega arith, rw all_to-none)

pub loop-x-preserved : goal.loop-x-preserved
loop-x-preserved c = (omega arith, rw (all_to-more, ← c.loop-x.invariant.1) (ap (λ (m : ℕ). eqb m 0) (search rules) ∙ max_zero c.loop-x.most (get_or c.args.s.now c.loop-x.x-index 0)))
