-- Listing the edges of a matrix: its rows, how many bytes a laid state's list has, and that a matrix of zeros has none to list.
-- Assumes nothing.
use mathlib.Core.Path.{◌≡◌, sym, ap, ◌∙◌}
use mathlib.Core.List.{List, []}
use Prim.Native.Nat.{ℕ, ◌*◌, ◌/◌, ◌≤◌, ◌<◌}
use native.Mathlib.Omega.{arith}
use lib.ListN.{length, get_or, take, drop}
use Rattle.finite.specs.Range.{sum_to}
use Rattle.answer.specs.Refusals.{Go}
use Rattle.graph.specs.Graph.{edges}
use Rattle.graph.specs.Tests.{most_degree, vertices}
use Rattle.slices.proofs.Part.{length_part, get_or-part}
use Rattle.layout.specs.Inner.Arrays.{count_in, table_in}
use Rattle.journal.specs.Journal.{phase_laid}
use Rattle.adjacency.specs.Adjacency.{adjacency_size, side, edge}
use Rattle.adjacency.proofs.Empty.{no_edge}
use Rattle.state.specs.State.{State}
use Rattle.state.specs.Checks.{phase_verdict}
use Rattle.state.specs.Laid.{vertex_count}
use Rattle.state.specs.Inner.Opened.{Opened}
use Rattle.state.proofs.Checks.{phase-facts}
use Rattle.state.proofs.Facts.{Laid}
use Rattle.state.proofs.Opened.{opened_vertices, opened_few, opened_edges}
use Rattle.edge_lists.specs.EdgeList.{row_bytes}
use Rattle.edge_lists.proofs.Listing.{row_cong, list-none, list_length, edges_few}
use Rattle.edge_list.specs.List.{list_bytes}

-- the first n bytes of row v, as a part of the matrix
module _ (g : List ℕ) (n v : ℕ) (whole : length g ≡ adjacency_size) (few : n ≤ side) (h : v < n) where
  abbrev pub row : List ℕ
  row = take n (drop (v * side) g)

  pub row_length : length row ≡ n
  row_length = omega (arith, length_part n (v * side) g)

  -- its bytes in a list are those of the graph's row
  pub row-bytes : row_bytes (length row) (λ w. get_or row w 0) v ≡ row_bytes n (edge g v) v
  row-bytes =
      ap (λ (m : ℕ). row_bytes m (λ w. get_or row w 0) v) row_length
      ∙ row_cong n v (λ w. get_or row w 0) (edge g v) (λ w p q. get_or-part n (v * side) g w q)

-- a laid state, opened: n is N, and the edges counted by the degrees tell how many bytes the list has
module _ (s : State) (passed : phase_verdict phase_laid s ≡ Go) {cells counts degrees : List ℕ} (o : Opened s cells counts degrees) {n : ℕ}
    (en : n ≡ vertices (table_in cells (count_in counts 0))) where
  laid : Laid s
  laid = let f = phase-facts phase_laid s passed in f.0.laid f.1

  pub laid-vertices : n ≡ vertex_count s
  laid-vertices = opened_vertices s o laid en

  pub laid-few : n ≤ side
  laid-few = rw laid-vertices laid.vertices-le

  pub degrees_few : (v : ℕ) → v < n → get_or degrees v 0 ≤ most_degree
  degrees_few = opened_few s o laid en

  module _ {e : ℕ} (ee : e ≡ sum_to n (λ v. get_or degrees v 0) / 2) where
    counted : e ≡ edges (vertex_count s) (edge s.adjacency)
    counted = opened_edges s o laid en ee ∙ ap (λ (m : ℕ). edges m (edge s.adjacency)) laid-vertices

    pub list-bytes : length (list_bytes (vertex_count s) s.adjacency) ≡ 2 * e
    list-bytes = list_length _ (edge s.adjacency) laid.partial.simple ∙ ap (λ (x : ℕ). 2 * x) (sym counted)

    pub counted-few : e ≤ adjacency_size
    counted-few = omega (arith, counted, edges_few _ (edge s.adjacency) laid.vertices-le laid.partial.simple)

-- a matrix of zeros has no edges to list
pub zeros-none : (n : ℕ) (g : List ℕ) → ((p : ℕ) → get_or g p 0 ≡ 0) → list_bytes n g ≡ []
zeros-none n g zero = list-none n (edge g) (no_edge g zero)
