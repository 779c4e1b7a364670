-- `input_blocks::block_in` meets its contract.
use Rattle.std.proofs.Common.{refl}
use Rattle.input_blocks.proofs.Taking.{rest_block}
use Rattle.input_blocks.proofs.block_in.Goals as goal

pub returns : goal.returns
returns c = rw c.min.ensures (rest_block c.args.input.now c.args.number _ refl)
