-- A list of edges as bytes (document 01: the link list): 2 bytes an edge, v then w, v < w, ascending by v then w; and the total of the vertices
-- that it may name (document 02, P1: the board total).
-- Assumes nothing.
use Rattle.std.specs.Prelude.{Bool, ◌&&◌, ◌||◌, not, cond, List, [], ◌∷◌, ℕ, ◌+◌, ◌-◌, ◌*◌, ◌/◌, ◌%◌, eqb, ltb, leb, length, get_or}
use Rattle.finite.specs.Range.{sum_to, lowest, cat_to}
use Rattle.graph.specs.Graph.{Graph, at_edge}
use Rattle.answer.specs.Refusals.{Verdict, Go, Stop, refuse, unless}
use Rattle.answer.specs.declared.Cause.TheVariants.{BadEdgeList}
use Rattle.layout.specs.Layout.{most_vertices}

-- how many whole edges the bytes hold, and the two ends of edge i
abbrev pub listed : List ℕ → ℕ
listed e = length e / 2

abbrev pub end_v : List ℕ → ℕ → ℕ
end_v e i = get_or e (2 * i) 0

abbrev pub end_w : List ℕ → ℕ → ℕ
end_w e i = get_or e (2 * i + 1) 0

-- edge i is above the edge before it, by v and then w; the first edge is
abbrev pub rises : List ℕ → ℕ → Bool
rises e i =
    eqb i 0 || ltb (end_v e (i - 1)) (end_v e i) || (eqb (end_v e (i - 1)) (end_v e i) && ltb (end_w e (i - 1)) (end_w e i))

-- v < w, w below the total, and above the edge before it
abbrev pub good_edge : List ℕ → ℕ → ℕ → Bool
good_edge e total i = ltb (end_v e i) (end_w e i) && ltb (end_w e i) total && rises e i

-- the first edge that is not good; the number of edges where all are
abbrev pub first_bad_edge : List ℕ → ℕ → ℕ
first_bad_edge e total = lowest 0 (listed e) (λ i. not (good_edge e total i))

-- the graph that has these edges and no others
abbrev pub graph_of : List ℕ → Graph
graph_of e v w = sum_to (listed e) (λ i. at_edge (end_v e i) (end_w e i) v w)

-- the checks 19 of a list and its total, in their order: for the total, for an odd length, and for the edges
abbrev pub list_verdict : List ℕ → ℕ → Verdict
list_verdict e total =
    unless (leb total most_vertices) (Stop (refuse BadEdgeList 0 0))
    (unless (eqb (length e % 2) 0) (Stop (refuse BadEdgeList (listed e) 0))
    (unless (eqb (first_bad_edge e total) (listed e)) (Stop (refuse BadEdgeList (first_bad_edge e total) 0)) Go))

-- the bytes of the edge v – w, where v < w and the matrix's row of v has it
abbrev pub edge_bytes : (ℕ → ℕ) → ℕ → ℕ → List ℕ
edge_bytes row v w = cond (ltb v w && eqb (row w) 1) (v ∷ w ∷ []) []

-- the edges of v to higher vertices below n
abbrev pub row_bytes : ℕ → (ℕ → ℕ) → ℕ → List ℕ
row_bytes n row v = cat_to n (edge_bytes row v)

-- the list of the edges of a graph on n vertices
abbrev pub list_of : ℕ → Graph → List ℕ
list_of n E = cat_to n (λ v. row_bytes n (E v) v)
