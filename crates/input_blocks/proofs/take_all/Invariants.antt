-- `input_blocks::take_all` meets its contract: the blocks so far went into the journal.
use mathlib.Core.Path.{◌≡◌}
use Prim.Native.Nat.{◌≤◌}
use lib.ListN.{length}
use Rattle.state.specs.State.{state_of}
use Rattle.input_blocks.proofs.Taking.{Went}
use Rattle.input_blocks.proofs.take_all.Given as goal

abbrev pub invariant-loop-number : goal.invariant-loop-number
invariant-loop-number l = (l.number ≤ l.n) × (length l.journal ≡ length l.initial.journal) × Went (state_of l.initial.journal l.adjacency) l.input l.number (state_of l.journal l.adjacency)
