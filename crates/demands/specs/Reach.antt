-- What state and log are after every list of calls from cleared ones: they have their lengths, are valid (document 01: sound), and agree with the tally. And
-- that every call, on any valid state and log of the right lengths, reached so or not, leaves such.
-- Assumes nothing.
use Rattle.std.specs.Prelude.{◌≡◌, true, cond, List}
use Rattle.graph.specs.Graph.{edges}
use Rattle.journal.specs.Journal.{phase_taking, phase_laid, phase, blocks, table_of}
use Rattle.adjacency.specs.Adjacency.{edge}
use Rattle.loan.specs.Loan.{Loan, cleared_loan}
use Rattle.loan.specs.Valid.{loan_lengths_ok, loan_valid}
use Rattle.state.specs.Laid.{vertex_count}
use Rattle.demands.specs.Calls.{Call, after, after_all}
use Rattle.demands.specs.Tally.{Tally, no_tally, tally_all}

-- state and log are valid, and the tally t tells what is in the state
pub record Reach (s : Loan) (t : Tally) : Type 0 where
  pub lengths : loan_lengths_ok s ≡ true
  pub is_valid : loan_valid s ≡ true
  -- its blocks add up to the tally's table, and are as many as the tally says
  pub table : table_of s.state.journal ≡ t.table
  pub numbered : blocks s.state.journal ≡ t.blocks
  -- it is laid out where the tally says so
  pub phased : phase s.state.journal ≡ cond t.laid phase_laid phase_taking
  -- its matrix holds as many edges as the tally counts
  pub counted : edges (vertex_count s.state) (edge s.state.adjacency) ≡ t.edges

-- after every list of calls from a cleared state, with any arguments, refused or not
abbrev pub Reached : Type 0
Reached = (calls : List Call) → Reach (after_all cleared_loan calls) (tally_all cleared_loan no_tally calls)

-- every call, whether it may change them or reads, on any valid state and log of the right lengths
abbrev pub StaysValid : Type 0
StaysValid =
    (s : Loan) → loan_lengths_ok s ≡ true → loan_valid s ≡ true →
    (c : Call) → (loan_lengths_ok (after s c) ≡ true) × (loan_valid (after s c) ≡ true)
