-- What the code of adding works with: two unlinked vertices of a graph for a table t, and the degrees beside it.
-- Assumes nothing.
use Rattle.std.specs.Prelude.{◌≡◌, List, ℕ, ◌≤◌, ◌<◌, length, get_or}
use Rattle.answer.specs.declared.AddAnswer.{AddAnswer}
use Rattle.answer.specs.declared.AddAnswer.TheVariants.{Added, Refused}
use Rattle.graph.specs.Graph.{DegreeTable}
use Rattle.graph.specs.Target.{Target, Partial}
use Rattle.graph.specs.Tests.{most_classes, vertices, vertex_class, class_degree}
use Rattle.layout.specs.Layout.{most_vertices}
use Rattle.adjacency.specs.Adjacency.{adjacency_size, edge}
use Rattle.adjacency.specs.Inner.Degrees.{degrees_of}
use Rattle.classes.specs.Inner.Block.{class_from}
use Rattle.join_bytes.specs.Join.{join_bytes}
use Rattle.switching.specs.declared.End.{End}

-- g is a partial graph of the table t, with these degrees, and v and w are two vertices that it does not link
pub record Unlinked (t : DegreeTable) (g degrees : List ℕ) (v w : ℕ) : Type 0 where
  pub sized : length g ≡ adjacency_size
  pub few : vertices t ≤ most_vertices
  pub target : Target (vertices t) most_classes (vertex_class t) class_degree t.cells
  pub partial : Partial (vertices t) most_classes (vertex_class t) class_degree t.cells (edge g)
  pub degrees_right : degrees ≡ degrees_of (vertices t) g
  pub first : v < vertices t
  pub second : w < vertices t
  pub distinct : v ≡ w → ⊥
  pub unlinked : edge g v w ≡ 0

-- vertex v as an end of the join: its class by the starts, all of which is searched for a substitute
abbrev pub end_in : List ℕ → ℕ → End
end_in starts v = record { at = v; class = class_from starts v; low = get_or starts (class_from starts v) 0 }

-- the matrix afterwards
abbrev pub added_adjacency : AddAnswer → DegreeTable → List ℕ → ℕ → ℕ → List ℕ
added_adjacency (Added s) t g v w = join_bytes (vertices t) (vertex_class t) g v w
added_adjacency (Refused r) t g v w = g
