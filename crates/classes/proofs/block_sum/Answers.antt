-- `classes::block_sum` meets its contract.
use mathlib.Core.Path.{ap, ◌∙◌}
use Prim.Native.Nat.{ℕ, ◌*◌}
use Rattle.classes.proofs.Blocks.{diagonal_block}
use Rattle.classes.proofs.block_sum.Goals as goal

pub returns : goal.returns
returns c = ap (λ (x : ℕ). 2 * x) c.edges_among.ensures.0 ∙ diagonal_block c.requires.1 c.if-top-left.false c.if-bottom-right.false
