-- The state's matrix beside a degree table t: which cells are short, and that it has t.
-- Assumes nothing.
use Rattle.std.specs.Prelude.{◌≡◌, ℕ}
use Rattle.graph.specs.Graph.{Simple, own_jdm, isolated, DegreeTable}
use Rattle.graph.specs.Target.{Short}
use Rattle.graph.specs.Tests.{vertices, vertex_class}
use Rattle.adjacency.specs.Adjacency.{edge}
use Rattle.adjacency.specs.Clauses.{ZeroOutside}
use Rattle.state.specs.State.{State}

-- Cell (k, l) is short: the edges counted as equation (1) does, but at the classes laid out, stay below t there.
abbrev pub ShortFor : DegreeTable → State → ℕ → ℕ → Type 0
ShortFor t s = Short (vertices t) (vertex_class t) t.cells (edge s.adjacency)

-- "a simple graph whose table, counted by equation (1) .., equals in every cell" that of t: on N vertices, at the graph's own degrees; of these N
-- exactly as many as t says have no edge; and every byte of the matrix whose row or column is N or more is 0
pub record HasTable (t : DegreeTable) (s : State) : Type 0 where
  pub simple : Simple (vertices t) (edge s.adjacency)
  pub exact : (k l : ℕ) → own_jdm (vertices t) (edge s.adjacency) k l ≡ t.cells k l
  pub exact_isolated : isolated (vertices t) (edge s.adjacency) ≡ t.isolated
  pub outside : ZeroOutside (vertices t) s.adjacency
