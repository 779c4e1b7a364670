-- When a state is valid (document 01: sound).
-- Assumes nothing.
use Rattle.std.specs.Prelude.{◌≡◌, Bool, true, ◌&&◌, cond, List, ℕ, eqb, leb, length}
use Rattle.graph.specs.Graph.{DegreeTable}
use Rattle.graph.specs.Tests.{passes, vertices, vertex_class}
use Rattle.slices.specs.Slices.{all_zero}
use Rattle.layout.specs.Layout.{most_vertices}
use Rattle.journal.specs.Journal.{journal_size, phase_taking, phase_laid, phase, journal_ok, table_of}
use Rattle.adjacency.specs.Adjacency.{adjacency_size, adjacency_ok}
use Rattle.state.specs.State.{State}

-- both have their lengths
abbrev pub lengths_ok : State → Bool
lengths_ok s = eqb (length s.journal) journal_size && eqb (length s.adjacency) adjacency_size

-- laid out: the summed table passes the tests 9 to 12, and the matrix is one of its partial graphs
abbrev pub laid_ok : DegreeTable → List ℕ → Bool
laid_ok t g = passes t.cells && leb (vertices t) most_vertices && adjacency_ok (vertices t) (vertex_class t) t.cells g

-- The journal is as laid down; while blocks are taken the matrix is all zero, laid out it is as above.
abbrev pub valid : State → Bool
valid s =
    journal_ok s.journal && cond (eqb (phase s.journal) phase_taking) (all_zero s.adjacency) (laid_ok (table_of s.journal) s.adjacency)

-- a "laid bench": valid, and laid out
pub record ValidLaid (s : State) : Type 0 where
  pub lengths : lengths_ok s ≡ true
  pub is_valid : valid s ≡ true
  pub phased : phase s.journal ≡ phase_laid
