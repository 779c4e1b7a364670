-- The matrix's part of document 01's sentence: "A bench is *sound* when ..; in stage 1 .. the grid is symmetric, 0 or 1, with a zero diagonal, zero outside
-- the boards, no board above its degree, and no cell above the table", clause by clause. `adjacency_ok` tests exactly this (proofs/Facts.antt
-- `matrix_by_clauses`).
-- Assumes nothing.
use Rattle.std.specs.Prelude.{◌≡◌, true, List, ◌⊎◌, ◌↔◌, ℕ, ◌≤◌, ◌<◌, length}
use Rattle.graph.specs.Graph.{Simple, degree, jdm}
use Rattle.graph.specs.Tests.{most_classes, class_degree}
use Rattle.adjacency.specs.Adjacency.{edge, adjacency_ok}

-- every byte of the matrix whose row or column is n or more is 0
abbrev pub ZeroOutside : ℕ → List ℕ → Type 0
ZeroOutside n g = (v w : ℕ) → v < 200 → w < 200 → (n ≤ v) ⊎ (n ≤ w) → edge g v w ≡ 0

-- the matrix of n vertices, their classes cls, the table T
pub record MatrixClauses (n : ℕ) (cls : ℕ → ℕ) (T : ℕ → ℕ → ℕ) (g : List ℕ) : Type 0 where
  -- "the grid is symmetric, 0 or 1, with a zero diagonal"
  pub simple : Simple n (edge g)
  -- "zero outside the boards"
  pub outside : ZeroOutside n g
  -- "no board above its degree"
  pub room : (v : ℕ) → v < n → degree n (edge g) v ≤ class_degree (cls v)
  -- "no cell above the table": the edges are counted as equation (1) does, but at the classes laid out
  pub within : (k l : ℕ) → k < most_classes → l < most_classes → jdm n cls (edge g) k l ≤ T k l

-- "Grid, 40,000 bytes", for up to 200 vertices
abbrev pub MatrixByClauses : Type 0
MatrixByClauses =
    (n : ℕ) (cls : ℕ → ℕ) (T : ℕ → ℕ → ℕ) (g : List ℕ) → length g ≡ 40000 → n ≤ 200 → (adjacency_ok n cls T g ≡ true) ↔ MatrixClauses n cls T g
