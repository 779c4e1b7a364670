-- The program need not read more than 65 blocks (specs/Theorems.antt `ReadsEnough`).
-- Assumes nothing.
use mathlib.Core.Path.{◌≡◌, ap}
use mathlib.Core.List.{List}
use Prim.Native.Nat.{ℕ}
use lib.ListN.{take}
use Rattle.answer.specs.declared.Choice.{Choice}
use Rattle.state.specs.State.{State, cleared}
use Rattle.input_blocks.specs.Blocks.{Taking, input_most}
use Rattle.input_blocks.proofs.Enough.{takes_enough}
use Rattle.options.specs.declared.Form.{Form}
use Rattle.runner.specs.Program.{taken_text, text_from}
use Rattle.runner.specs.Theorems.{ReadsEnough}

-- from any state
enough : (form : Form) (choice : Choice) (s : State) (input : List ℕ) → text_from form choice s input ≡ text_from form choice s (take input_most input)
enough form choice s input = ap (λ (t : Taking). taken_text form choice t.verdict t.state) (takes_enough s input)

pub reads_enough : ReadsEnough
reads_enough form choice input = enough form choice cleared input
