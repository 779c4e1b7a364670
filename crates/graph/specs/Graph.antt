-- Simple graphs of any size, and the joint degree matrix of document 001.
-- The vertices are the numbers below n. A vertex has a class; today that is its degree, and no law may rely on that.
-- Assumes nothing.
use Rattle.std.specs.Prelude.{◌≡◌, cond, ℕ, ◌+◌, ◌*◌, ◌≤◌, ◌<◌, eqb}
use Rattle.finite.specs.Range.{δ, sum_to}

-- E v w is 1 where v and w are linked, else 0
abbrev pub Graph : Type 0
Graph = ℕ → ℕ → ℕ

-- a simple graph on the vertices below n
pub record Simple (n : ℕ) (E : Graph) : Type 0 where
  pub binary : (v w : ℕ) → v < n → w < n → E v w ≤ 1
  pub symmetric : (v w : ℕ) → v < n → w < n → E v w ≡ E w v
  pub loopless : (v : ℕ) → v < n → E v v ≡ 0

-- how many edges vertex v has
abbrev pub degree : ℕ → Graph → ℕ → ℕ
degree n E v = sum_to n (E v)

-- how many edges there are: each is counted at its higher end
unfoldable pub edges : ℕ → Graph → ℕ
edges n E = sum_to n (λ v. sum_to v (E v))

-- how many vertices class k has: D(k), document 001's |V_k|
abbrev pub size : ℕ → (ℕ → ℕ) → ℕ → ℕ
size n cls k = sum_to n (λ v. δ (cls v) k)

-- Equation (1) of document 001: JDM(k, l) is the sum, over v in V_k and over w in V_l, of 1 where {v, w} is an edge.
-- For k = l the edge {v, w} comes twice, as (v, w) and as (w, v).
unfoldable pub jdm : ℕ → (ℕ → ℕ) → Graph → ℕ → ℕ → ℕ
jdm n cls E k l = sum_to n (λ v. δ (cls v) k * sum_to n (λ w. δ (cls w) l * E v w))

-- how often equation (1) counts an edge in its cell (k, l): twice on the diagonal
abbrev pub times_counted : ℕ → ℕ → ℕ
times_counted k l = cond (eqb k l) 2 1

-- equation (1) at the graph's own degrees
abbrev pub own_jdm : ℕ → Graph → ℕ → ℕ → ℕ
own_jdm n E = jdm n (degree n E) E

-- how many vertices have no edge (document 02, P1: the idle boards)
abbrev pub isolated : ℕ → Graph → ℕ
isolated n E = size n (degree n E) 0

-- A degree table: a joint degree matrix, and beside it the number of isolated vertices, of which no cell can tell.
pub record DegreeTable : Type 0 where
  pub cells : ℕ → ℕ → ℕ
  pub isolated : ℕ

-- that of no vertices
abbrev pub empty_table : DegreeTable
empty_table = record { cells = λ k l. 0; isolated = 0 }

-- that of a graph
abbrev pub own_table : ℕ → Graph → DegreeTable
own_table n E = record { cells = own_jdm n E; isolated = isolated n E }

-- where the edge x – y stands: 1 at (x, y) and at (y, x)
abbrev pub at_edge : ℕ → ℕ → Graph
at_edge x y v w = δ v x * δ w y + δ v y * δ w x

-- E' is E with the edge x – y added; read the other way round, E is E' with that edge removed. The one notion of update.
abbrev pub AddsEdge : ℕ → Graph → ℕ → ℕ → Graph → Type 0
AddsEdge n E x y E' = (v w : ℕ) → v < n → w < n → E' v w ≡ E v w + at_edge x y v w

-- the same graph on the vertices below n
abbrev pub SameOn : ℕ → Graph → Graph → Type 0
SameOn n E E' = (v w : ℕ) → v < n → w < n → E' v w ≡ E v w
