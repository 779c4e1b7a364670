-- A state is checked once: what the check goes by before it looks at a laid matrix, and what it hands on where that passes.
-- Assumes nothing.
use Rattle.std.specs.Prelude.{◌≡◌, true, ◌&&◌, cond, List, ℕ, eqb, length, replicate}
use Rattle.answer.specs.Refusals.{Verdict, Go, Stop, stopped, unless, unless_stopped}
use Rattle.answer.specs.declared.Cause.TheVariants.{WrongLength, InvalidState, WrongPhase}
use Rattle.graph.specs.Tests.{most_classes}
use Rattle.slices.specs.Slices.{all_zero}
use Rattle.table.specs.Inner.Cells.{cells_size, AtMost, cell_sum_most}
use Rattle.layout.specs.Layout.{most_vertices}
use Rattle.layout.specs.Inner.Arrays.{count_in, table_in, Counts}
use Rattle.journal.specs.Journal.{journal_size, phase_taking, phase_laid, phase, journal_ok, table_of}
use Rattle.adjacency.specs.Adjacency.{adjacency_size}
use Rattle.adjacency.specs.Inner.Degrees.{degrees_of}
use Rattle.state.specs.State.{State}
use Rattle.state.specs.Valid.{lengths_ok}
use Rattle.state.specs.Laid.{vertex_count}

-- the check 1 and, of 2, all but a laid matrix
abbrev pub front_verdict : State → Verdict
front_verdict s =
    unless (lengths_ok s) (stopped WrongLength)
    (unless (journal_ok s.journal && cond (eqb (phase s.journal) phase_taking) (all_zero s.adjacency) true) (stopped InvalidState) Go)

-- and 3, for a call that needs a laid state
abbrev pub laid_front : State → Verdict
laid_front s = unless_stopped (front_verdict s) Stop (unless (eqb (phase s.journal) phase_laid) (stopped WrongPhase) Go)

-- What a laid matrix is looked at with: a journal that is as it should be, and arrays of zeros to count in.
pub record Openable (s : State) (cells counts degrees : List ℕ) : Type 0 where
  pub journal_length : length s.journal ≡ journal_size
  pub adjacency_length : length s.adjacency ≡ adjacency_size
  pub journal-ok : journal_ok s.journal ≡ true
  pub no_cells : cells ≡ replicate cells_size 0
  pub no_counts : counts ≡ replicate most_classes 0
  pub no_degrees : degrees ≡ replicate most_vertices 0

-- The cells of the journal's table, how many vertices each class has, and the degrees that the vertices have so far.
pub record Opened (s : State) (cells counts degrees : List ℕ) : Type 0 where
  pub said : table_in cells (count_in counts 0) ≡ table_of s.journal
  pub most : AtMost cell_sum_most cells
  pub counted : Counts cells counts
  pub degrees_right : degrees ≡ degrees_of (vertex_count s) s.adjacency
