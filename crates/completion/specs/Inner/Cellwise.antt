-- Completing cell by cell, as the code does it: each cell (k, l), k ≤ l, in ascending order gets the joins that it misses. That this is
-- `run` of specs/Complete.antt is a law (proofs/Cellwise.antt); the entry's contract does not speak of it.
-- Assumes nothing.
use Rattle.std.specs.Prelude.{◌≡◌, List, ℕ, ◌+◌, ◌-◌, ◌/◌, ◌≤◌, length}
use Rattle.finite.specs.Range.{fold_to}
use Rattle.graph.specs.Graph.{jdm, times_counted}
use Rattle.graph.specs.Target.{Target, Partial}
use Rattle.graph.specs.Tests.{least_class, most_classes, class_degree}
use Rattle.layout.specs.Layout.{most_vertices}
use Rattle.adjacency.specs.Adjacency.{adjacency_size, edge}
use Rattle.completion.specs.Choice.{open_v, open_w}
use Rattle.completion.specs.Complete.{Ran, joined}

-- the lowest open pair of cell (k, l) joined
abbrev pub cell_step : ℕ → (ℕ → ℕ) → ℕ → ℕ → Ran → Ran
cell_step n cls k l s =
    joined n cls s (open_v n cls s.adjacency k l) (open_w n cls s.adjacency k l (open_v n cls s.adjacency k l))

-- how many joins cell (k, l) misses: a join counts in it as often as its edge
abbrev pub cell_missing : ℕ → (ℕ → ℕ) → (ℕ → ℕ → ℕ) → List ℕ → ℕ → ℕ → ℕ
cell_missing n cls T g k l = (T k l - jdm n cls (edge g) k l) / times_counted k l

-- cell (k, l) filled; row k from the diagonal on; all rows
abbrev pub fill_cell : ℕ → (ℕ → ℕ) → (ℕ → ℕ → ℕ) → ℕ → ℕ → Ran → Ran
fill_cell n cls T k l s = fold_to (cell_missing n cls T s.adjacency k l) (λ i. cell_step n cls k l) s

abbrev pub fill_row : ℕ → (ℕ → ℕ) → (ℕ → ℕ → ℕ) → ℕ → Ran → Ran
fill_row n cls T k s = fold_to (most_classes - k) (λ i. fill_cell n cls T k (k + i)) s

abbrev pub fill_all : ℕ → (ℕ → ℕ) → (ℕ → ℕ → ℕ) → Ran → Ran
fill_all n cls T s = fold_to (most_classes - least_class) (λ i. fill_row n cls T (least_class + i)) s

-- what holds of the matrix all along: it is a partial graph of the table
pub record Filling (n : ℕ) (cls : ℕ → ℕ) (T : ℕ → ℕ → ℕ) (g : List ℕ) : Type 0 where
  pub sized : length g ≡ adjacency_size
  pub few : n ≤ most_vertices
  pub target : Target n most_classes cls class_degree T
  pub partial : Partial n most_classes cls class_degree T (edge g)
