-- `state_text::put_state_text` meets its contract.
use native.Mathlib.Omega.{arith}
use lib.ListN.{length-replicate}
use Rattle.state.specs.State.{state_of}
use Rattle.state_text.proofs.Room.{passes, lines_fit}
use Rattle.state_text.proofs.put_state_text.Goals as goal

pub put_state_list-len-requires : goal.put_state_list-len-requires
put_state_list-len-requires c = (c.requires.0, rw length-replicate (omega arith))

pub put_list_text-requires : goal.put_list_text-requires
put_list_text-requires c =
    let a = c.args in
    rw (c.put_state_list-len.ensures.list_after, c.requires.1) (
      passes (state_of a.journal.now a.adjacency.now) c.requires.0,
      c.requires.2,
      omega (arith, lines_fit (state_of a.journal.now a.adjacency.now) c.requires.0, c.requires.2),
    )

pub returns-clause-value : goal.returns-clause-value
returns-clause-value c = rw c.put_state_list-len.ensures.list_after at c.put_list_text.ensures.value

pub returns-clause-output_after : goal.returns-clause-output_after
returns-clause-output_after c = rw c.put_state_list-len.ensures.list_after at c.put_list_text.ensures.output_after
