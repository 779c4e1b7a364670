-- The adjacency matrix (document 01: the grid): its layout in bytes, and when it is as it should be.
-- Assumes nothing.
use Rattle.std.specs.Prelude.{Bool, ◌&&◌, List, ℕ, ◌+◌, ◌-◌, ◌*◌, eqb, leb, get_or, set, take, drop}
use Rattle.finite.specs.Range.{all_to}
use Rattle.graph.specs.Graph.{Graph, degree, jdm}
use Rattle.graph.specs.Tests.{most_classes, class_degree}
use Rattle.slices.specs.Slices.{all_zero}
use Rattle.layout.specs.Layout.{most_vertices}

-- the matrix has 200 rows of 200 bytes, 40,000 in all
abbrev pub side : ℕ
side = most_vertices

abbrev pub adjacency_size : ℕ
adjacency_size = side * side

-- byte v × 200 + w is 1 where v and w are linked, else 0
abbrev pub edge : List ℕ → Graph
edge g v w = get_or g (v * side + w) 0

-- the matrix with x at (v, w) and at (w, v)
abbrev pub set_edge : List ℕ → ℕ → ℕ → ℕ → List ℕ
set_edge g v w x = set (set g (v * side + w) x) (w * side + v) x

-- among the first n vertices: symmetric, 0 or 1, with a zero diagonal
abbrev pub row_mirrored : List ℕ → ℕ → Bool
row_mirrored g v = eqb (edge g v v) 0 && all_to v (λ w. leb (edge g v w) 1 && eqb (edge g v w) (edge g w v))

abbrev pub mirrored : ℕ → List ℕ → Bool
mirrored n g = all_to n (row_mirrored g)

-- zero outside the vertices: each of the first n rows behind its first n bytes, and every row from n on
abbrev pub zero_outside : ℕ → List ℕ → Bool
zero_outside n g = all_to n (λ v. all_zero (take (side - n) (drop (v * side + n) g))) && all_zero (drop (n * side) g)

-- no vertex is above its degree
abbrev pub degrees_within : ℕ → (ℕ → ℕ) → List ℕ → Bool
degrees_within n cls g = all_to n (λ v. leb (degree n (edge g) v) (class_degree (cls v)))

-- no cell is above the matrix T: the edges are counted as equation (1) does, but at the classes laid out
abbrev pub cells_within : ℕ → (ℕ → ℕ) → (ℕ → ℕ → ℕ) → List ℕ → Bool
cells_within n cls T g = all_to most_classes (λ k. all_to most_classes (λ l. leb (jdm n cls (edge g) k l) (T k l)))

-- the matrix of a laid state: n vertices, their classes cls, the table T
abbrev pub adjacency_ok : ℕ → (ℕ → ℕ) → (ℕ → ℕ → ℕ) → List ℕ → Bool
adjacency_ok n cls T g = mirrored n g && zero_outside n g && degrees_within n cls g && cells_within n cls T g
