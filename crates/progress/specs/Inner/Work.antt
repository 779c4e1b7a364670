-- What completing keeps from join to join, whichever pairs it joins, and what it begins with.
-- Assumes nothing.
use Rattle.std.specs.Prelude.{◌≡◌, false, List, ℕ, ◌+◌, ◌-◌, ◌*◌, ◌/◌, ◌≤◌, ◌<◌, length, get_or, take, drop}
use Rattle.finite.specs.Range.{sum_to}
use Rattle.answer.specs.Refusals.{Go}
use Rattle.answer.specs.Switches.{switch_count, first_switch, second_switch}
use Rattle.answer.specs.declared.switches.Switches.{Switches}
use Rattle.graph.specs.Graph.{edges}
use Rattle.graph.specs.Switch.{unsaturated}
use Rattle.graph.specs.Tests.{most_classes, vertices, class_degree}
use Rattle.graph.specs.Theorems.{all_cells}
use Rattle.journal.specs.Journal.{phase_laid}
use Rattle.adjacency.specs.Adjacency.{edge}
use Rattle.table.specs.Inner.Cells.{matrix_of}
use Rattle.layout.specs.Layout.{most_vertices, wanted}
use Rattle.layout.specs.Inner.Arrays.{count_in, table_in}
use Rattle.state.specs.State.{State}
use Rattle.state.specs.Checks.{phase_verdict}
use Rattle.state.specs.Inner.Opened.{Opened}
use Rattle.adjacency.specs.Inner.Degrees.{degrees_of}
use Rattle.classes.specs.Inner.Block.{Numbered, class_from}
use Rattle.join_records.specs.Record.{join_record_size}
use Rattle.join_records.specs.Inner.Bytes.{InBytes}
use Rattle.completion.specs.Complete.{Ran, most_edges}
use Rattle.completion.specs.Inner.Cellwise.{Filling}
use Rattle.progress.specs.declared.Totals.{Totals}
use Rattle.progress.specs.declared.Start.{Start}

-- the matrix with the totals and the output beside it: as many records as joins stand at the output's start
abbrev pub ran : List ℕ → List ℕ → Totals → Ran
ran g out t = record { adjacency = g; joins = t.joins; switches = t.switches; records = take (join_record_size * t.joins) out }

-- from the i-th join on up to the j-th, the output changed nowhere behind their records
pub record WroteRecords (i j : ℕ) (out out' : List ℕ) : Type 0 where
  pub rises : i ≤ j
  pub sized : length out' ≡ length out
  pub behind : drop (join_record_size * j) out' ≡ drop (join_record_size * j) out

-- one join more, with its switches
abbrev pub with_join : Totals → Switches → Totals
with_join t s = record { joins = t.joins + 1; switches = t.switches + switch_count s }

-- the join of v and w with its switches can be recorded behind those made so far, in an output of `room` bytes
pub record Recordable (room : ℕ) (t : Totals) (v w : ℕ) (s : Switches) : Type 0 where
  pub few : t.joins ≤ most_edges
  pub switches_le : t.switches ≤ 2 * t.joins
  pub fits : join_record_size * t.joins + join_record_size ≤ room
  pub first : v < 256
  pub second : w < 256
  pub bytes : InBytes (first_switch s) × InBytes (second_switch s)

-- a partial graph, with totals that its edges bound; an output of `room` bytes has room for the records made and those of the edges that are missing
pub record ValidRun (n : ℕ) (cls : ℕ → ℕ) (T : ℕ → ℕ → ℕ) (room : ℕ) (s : Ran) : Type 0 where
  pub filling : Filling n cls T s.adjacency
  pub joins_le : s.joins ≤ edges n (edge s.adjacency)
  pub switches_le : s.switches ≤ 2 * s.joins
  pub records_fit : join_record_size * (2 * s.joins + all_cells most_classes T) ≤ 2 * (room + join_record_size * edges n (edge s.adjacency))

-- the vertices of class k below `low` are saturated
abbrev pub Saturated : ℕ → (ℕ → ℕ) → List ℕ → ℕ → ℕ → Type 0
Saturated n cls g k low = (i : ℕ) → i < low → cls i ≡ k → unsaturated n cls class_degree (edge g) i ≡ false

-- the starts of a layout's classes
pub record Arranged (n : ℕ) (starts : List ℕ) : Type 0 where
  pub few : n ≤ most_vertices
  pub numbered : Numbered n starts

-- these, and beside them a partial graph of the table with its degrees
pub record Working (n : ℕ) (cells starts degrees : List ℕ) (room : ℕ) (s : Ran) : Type 0 where
  pub arranged : Arranged n starts
  pub is_valid : ValidRun n (class_from starts) (matrix_of cells) room s
  pub degrees_right : degrees ≡ degrees_of n s.adjacency

-- the arrays of a valid laid state
pub record OpenArrays (cells counts degrees : List ℕ) : Type 0 where
  pub state : State
  pub passed : phase_verdict phase_laid state ≡ Go
  pub opened : Opened state cells counts degrees

-- what the work begins with, as the arrays say
pub record Started (cells counts degrees : List ℕ) (b : Start) : Type 0 where
  pub total : b.n ≡ vertices (table_in cells (count_in counts 0))
  pub lacks : b.missing ≡ wanted (matrix_of cells) - sum_to b.n (λ v. get_or degrees v 0) / 2
