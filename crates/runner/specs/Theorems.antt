-- What holds of the program's text (specs/Program.antt), whatever the input.
-- Assumes nothing.
use Rattle.std.specs.Prelude.{◌≡◌, true, List, ◌⊎◌, ℕ, ◌+◌, ◌≤◌, take}
use Rattle.graph.specs.Graph.{Simple, own_jdm, isolated, DegreeTable}
use Rattle.graph.specs.Tests.{vertices}
use Rattle.answer.specs.Refusals.{Go, refuse}
use Rattle.answer.specs.declared.Cause.TheVariants.{JournalFull}
use Rattle.answer.specs.declared.Refusal.{Refusal}
use Rattle.answer.specs.declared.LayOutAnswer.{LayOutAnswer}
use Rattle.answer.specs.declared.LayOutAnswer.TheVariants.{LaidOut, Refused}
use Rattle.answer.specs.declared.CompleteAnswer.TheVariants.{Completed}
use Rattle.answer.specs.declared.Choice.{Choice}
use Rattle.table.specs.Block.{most_blocks, well_formed}
use Rattle.journal.specs.Journal.{table_of}
use Rattle.adjacency.specs.Adjacency.{edge}
use Rattle.adjacency.specs.Clauses.{ZeroOutside}
use Rattle.state.specs.State.{State, cleared}
use Rattle.lay_out.specs.LayOut.{lay_out_answer, lay_out_after}
use Rattle.shuffled_completion.specs.Outcome.{choice_answer}
use Rattle.text.specs.Text.{refused_line}
use Rattle.options.specs.declared.Form.{Form}
use Rattle.input_blocks.specs.Blocks.{blocks_in, block_in, take_all, input_most}
use Rattle.input_blocks.specs.Taken.{input_table, state_after, AllTaken, FirstRefused}
use Rattle.state_text.specs.StateText.{shown}
use Rattle.runner.specs.Program.{join_records_most, with_own_log, program_text}

-- what lies behind 65 blocks cannot matter: the program need not read it
abbrev pub ReadsEnough : Type 0
ReadsEnough = (form : Form) (choice : Choice) (input : List ℕ) → program_text form choice input ≡ program_text form choice (take input_most input)

-- 65 well-formed blocks are one more than the journal has room for: the text is the refusal 8, whatever follows them
abbrev pub EndsFull : Type 0
EndsFull =
    (form : Form) (choice : Choice) (input : List ℕ) →
    most_blocks + 1 ≤ blocks_in input → ((i : ℕ) → i ≤ most_blocks → well_formed (block_in input i) ≡ true) →
    program_text form choice input ≡ refused_line (refuse JournalFull 0 0)

-- where the input's blocks are taken and laid out, completing has room and is not refused
abbrev pub CompletesAlways : Type 0
CompletesAlways =
    (choice : Choice) (input : List ℕ) (n : ℕ) →
    let t = take_all cleared input in
    let s = lay_out_after t.state in
    t.verdict ≡ Go → lay_out_answer t.state ≡ LaidOut n →
    (joins switches written : ℕ) × (choice_answer choice (with_own_log s) join_records_most ≡ Completed joins switches written)

-- The text is that of a state whose journal says t and whose matrix holds a simple graph with t's matrix in every cell, by equation (1) at its own
-- degrees, and as many isolated vertices, and 0 outside it: its graph shown, and nothing else.
pub record Built (form : Form) (t : DegreeTable) (text : List ℕ) : Type 0 where
  pub state : State
  pub switches : ℕ
  pub table : table_of state.journal ≡ t
  pub simple : Simple (vertices t) (edge state.adjacency)
  pub has_table : (k l : ℕ) → own_jdm (vertices t) (edge state.adjacency) k l ≡ t.cells k l
  pub has_isolated : isolated (vertices t) (edge state.adjacency) ≡ t.isolated
  pub outside : ZeroOutside (vertices t) state.adjacency
  pub says : text ≡ shown form (vertices t) switches state.adjacency

-- every block is taken, and laying out then answers a
abbrev pub LaidOutBy : State → List ℕ → LayOutAnswer → Type 0
LaidOutBy s input a = AllTaken s input (blocks_in input) × (lay_out_answer (state_after s input (blocks_in input)) ≡ a)

-- The text from a state s: the refusal of the first block that is refused; or, where every block is taken, that of laying out; or, where neither is
-- refused, the text of a graph with the input's table.
abbrev pub SaysFrom : Form → State → List ℕ → List ℕ → Type 0
SaysFrom form s input text =
    ((r : Refusal) × FirstRefused s input r × (text ≡ refused_line r))
    ⊎ (((r : Refusal) × LaidOutBy s input (Refused r) × (text ≡ refused_line r))
    ⊎ ((n : ℕ) × LaidOutBy s input (LaidOut n) × Built form (input_table input) text))

-- so is every text of the program, which starts with a journal and a matrix that are all zero
abbrev pub ProgramSays : Type 0
ProgramSays = (form : Form) (choice : Choice) (input : List ℕ) → SaysFrom form cleared input (program_text form choice input)
