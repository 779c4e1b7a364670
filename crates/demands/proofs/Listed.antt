-- Listing a laid state and surveying the list with its N gives the table of its graph (specs/Listed.antt).
-- Assumes nothing.
use mathlib.Core.Path.{◌≡◌, refl, ap, ◌∙◌}
use Prim.Native.Nat.{ℕ, ◌≤◌, ◌<◌}
use native.Mathlib.Omega.{arith}
use lib.Dec.{ltb}
use lib.ListN.{length}
use borrow.Author.Tests.{eq-eqb, le-ltb, le-leb}
use Rattle.finite.specs.Range.{δ}
use Rattle.finite.proofs.Lowest.{lowest-none}
use Rattle.finite.proofs.Sum.{sum_to-cong}
use Rattle.graph.specs.Graph.{Graph, degree, own_table, SameOn}
use Rattle.graph.specs.Tests.{most_degree}
use Rattle.graph.proofs.Counts.{same_table}
use Rattle.graph.proofs.Edge.{degree-same, jdm-same}
use Rattle.graph.proofs.Matrix.{jdm-classes}
use Rattle.adjacency.specs.Adjacency.{edge}
use Rattle.state.specs.State.{State}
use Rattle.state.specs.Laid.{vertex_count}
use Rattle.state.proofs.Facts.{Laid, valid-facts}
use Rattle.edge_list.specs.List.{list_bytes}
use Rattle.edge_lists.specs.EdgeList.{graph_of}
use Rattle.edge_lists.proofs.Listed.{list-passed, list-graph}
use Rattle.table_records.specs.Records.{records_of}
use Rattle.degree_counts.specs.Above.{first_above}
use Rattle.jdm_of_edges.specs.Survey.{survey_records}
use Rattle.demands.specs.Listed.{ListSurveyed}

-- the same graph on n vertices has the same table
table_same : (n : ℕ) (E E' : Graph) → SameOn n E E' → own_table n E' ≡ own_table n E
table_same n E E' same =
    let d = degree-same n E E' same in
    same_table (λ k l. jdm-classes n (degree n E') (degree n E) E' d k l ∙ jdm-same n E E' same (degree n E) k l)
    (sum_to-cong n (λ v. δ (degree n E' v) 0) (λ v. δ (degree n E v) 0) (λ v p. rw (d v p)))

module _ (s : State) (laid : Laid s) where
  -- the list has the edges of the matrix
  pub same : SameOn (vertex_count s) (edge s.adjacency) (graph_of (list_bytes (vertex_count s) s.adjacency))
  same = list-graph (vertex_count s) (edge s.adjacency) laid.partial.simple

  records : survey_records (list_bytes (vertex_count s) s.adjacency) (vertex_count s) ≡ records_of (own_table (vertex_count s) (edge s.adjacency))
  records = ap records_of (table_same (vertex_count s) (edge s.adjacency) (graph_of (list_bytes (vertex_count s) s.adjacency)) same)

  -- no vertex of the list has a degree above 40
  low : (v : ℕ) → v < vertex_count s → degree (vertex_count s) (graph_of (list_bytes (vertex_count s) s.adjacency)) v ≤ most_degree
  low v l =
      omega (
        arith,
        degree-same (vertex_count s) (edge s.adjacency) (graph_of (list_bytes (vertex_count s) s.adjacency)) same v l,
        laid.partial.room v l,
        laid.target.classed v l,
      )

  none : first_above (list_bytes (vertex_count s) s.adjacency) (vertex_count s) ≡ vertex_count s
  none =
      lowest-none 0 (vertex_count s) (λ v. ltb most_degree (degree (vertex_count s) (graph_of (list_bytes (vertex_count s) s.adjacency)) v)) (omega arith)
      (λ v z l. le-ltb most_degree (degree (vertex_count s) (graph_of (list_bytes (vertex_count s) s.adjacency)) v) (low v l))

pub list-surveyed : ListSurveyed
list-surveyed s v = (
  records s laid,
  λ m h.
      rw (
        list-passed (vertex_count s) (edge s.adjacency) laid.vertices-le,
        none s laid,
        eq-eqb (vertex_count s) (vertex_count s) refl,
        le-leb (length (survey_records (list_bytes (vertex_count s) s.adjacency) (vertex_count s))) m h,
      ),
)
  where
    laid : Laid s
    laid = (valid-facts s v.lengths v.is_valid).laid v.phased
