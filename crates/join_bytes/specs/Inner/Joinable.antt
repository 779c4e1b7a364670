-- What joining two vertices may rely on.
-- Assumes nothing.
use Rattle.std.specs.Prelude.{◌≡◌, List, ℕ, ◌≤◌, length}
use Rattle.graph.specs.Target.{Target, Partial, Open}
use Rattle.graph.specs.Tests.{most_classes, class_degree}
use Rattle.layout.specs.Layout.{most_vertices}
use Rattle.adjacency.specs.Adjacency.{adjacency_size, edge}

-- v and w may be joined: g is a partial graph of some table, and the pair is open
pub record Joinable (n : ℕ) (cls : ℕ → ℕ) (g : List ℕ) (v w : ℕ) : Type 0 where
  pub table : ℕ → ℕ → ℕ
  pub sized : length g ≡ adjacency_size
  pub few : n ≤ most_vertices
  pub target : Target n most_classes cls class_degree table
  pub partial : Partial n most_classes cls class_degree table (edge g)
  pub pair : Open n cls table (edge g) v w
