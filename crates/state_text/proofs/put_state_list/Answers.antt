-- `state_text::put_state_list` meets its contract: listing is not refused.
use Rattle.state.specs.State.{state_of}
use Rattle.state_text.proofs.Room.{never_refused, listed}
use Rattle.state_text.proofs.put_state_list.Goals as goal

pub returns-in-Refused : goal.returns-in-Refused
returns-in-Refused c =
    let a = c.args in
    let l = c.edge_list-answer in
    absurd (never_refused (state_of a.journal.now a.adjacency.now) c.requires.0 a.list.now _ _ (l.ensures.value, l.ensures.output_after) c.requires.1 _ c.in-Refused.is)

pub returns-in-Written : goal.returns-in-Written
returns-in-Written c =
    let a = c.args in
    let l = c.edge_list-answer in
    let w = listed (state_of a.journal.now a.adjacency.now) c.requires.0 a.list.now _ _ (l.ensures.value, l.ensures.output_after) c.requires.1 _ c.in-Written.is in
    record { list_after = w.0; upper_bound = w.1 }
