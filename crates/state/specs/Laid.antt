-- A laid state's graph: what follows from what the journal says alone, and which cells are short.
-- Assumes nothing.
use Rattle.std.specs.Prelude.{Bool, ℕ}
use Rattle.graph.specs.Target.{is_short}
use Rattle.graph.specs.Tests.{vertices, vertex_class}
use Rattle.journal.specs.Journal.{jdm_of, table_of}
use Rattle.adjacency.specs.Adjacency.{edge}
use Rattle.state.specs.State.{State}

-- N, and the class of vertex v
abbrev pub vertex_count : State → ℕ
vertex_count s = vertices (table_of s.journal)

abbrev pub class_at : State → ℕ → ℕ
class_at s = vertex_class (table_of s.journal)

-- cell (k, l) is short: the edges so far, counted by equation (1) at the classes laid out, stay below the table there
abbrev pub short_at : State → ℕ → ℕ → Bool
short_at s = is_short (vertex_count s) (class_at s) (jdm_of s.journal) (edge s.adjacency)
