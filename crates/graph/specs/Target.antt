-- A target matrix over classes, and the graphs on the way to it.
-- Assumes nothing.
use Rattle.std.specs.Prelude.{◌≡◌, Bool, cond, ℕ, ◌-◌, ◌*◌, ◌%◌, ◌≤◌, ◌<◌, eqb, ltb}
use Rattle.finite.specs.Range.{sum_to}
use Rattle.graph.specs.Graph.{Graph, Simple, degree, size, jdm}

-- the most that cell (k, l) can hold where class j has D j vertices
abbrev pub cell_most : (ℕ → ℕ) → ℕ → ℕ → ℕ
cell_most D k l = cond (eqb k l) (D k * (D k - 1)) (D k * D l)

-- What is to be built: n vertices, each in a class below C; a vertex of class k is to have degree deg k;
-- T is the matrix to reach. Its rows come out and its cells fit.
pub record Target (n C : ℕ) (cls deg : ℕ → ℕ) (T : ℕ → ℕ → ℕ) : Type 0 where
  pub classed : (v : ℕ) → v < n → cls v < C
  pub symmetric : (k l : ℕ) → k < C → l < C → T k l ≡ T l k
  pub even : (k : ℕ) → k < C → T k k % 2 ≡ 0
  pub rows : (k : ℕ) → k < C → sum_to C (T k) ≡ deg k * size n cls k
  pub fits : (k l : ℕ) → k < C → l < C → T k l ≤ cell_most (size n cls) k l

-- A graph on the way: simple, no cell above its target, no vertex above its degree.
pub record Partial (n C : ℕ) (cls deg : ℕ → ℕ) (T : ℕ → ℕ → ℕ) (E : Graph) : Type 0 where
  pub simple : Simple n E
  pub within : (k l : ℕ) → k < C → l < C → jdm n cls E k l ≤ T k l
  pub room : (v : ℕ) → v < n → degree n E v ≤ deg (cls v)

-- cell (k, l) is below its target (document 01: it is short); and the test of it
abbrev pub Short : ℕ → (ℕ → ℕ) → (ℕ → ℕ → ℕ) → Graph → ℕ → ℕ → Type 0
Short n cls T E k l = jdm n cls E k l < T k l

abbrev pub is_short : ℕ → (ℕ → ℕ) → (ℕ → ℕ → ℕ) → Graph → ℕ → ℕ → Bool
is_short n cls T E k l = ltb (jdm n cls E k l) (T k l)

-- the vertices v and w may be joined: two different ones, unlinked, with their cell short
pub record Open (n : ℕ) (cls : ℕ → ℕ) (T : ℕ → ℕ → ℕ) (E : Graph) (v w : ℕ) : Type 0 where
  pub first : v < n
  pub second : w < n
  pub distinct : v ≡ w → ⊥
  pub unlinked : E v w ≡ 0
  pub short : Short n cls T E (cls v) (cls w)
