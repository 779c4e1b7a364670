-- What an open state's arrays say: N, how few edges a vertex has, and how many edges there are.
-- Assumes nothing.
use mathlib.Core.Path.{◌≡◌, ap, ◌∙◌}
use mathlib.Core.List.{List}
use Prim.Native.Nat.{ℕ, ◌*◌, ◌/◌, ◌≤◌, ◌<◌}
use native.Mathlib.Nat.{div-add-mod'}
use native.Mathlib.Decide.{dec_lt}
use native.Mathlib.Omega.{arith}
use lib.ListN.{get_or}
use Rattle.finite.specs.Range.{sum_to}
use Rattle.finite.proofs.Sum.{sum_to-cong}
use Rattle.graph.specs.Graph.{edges, DegreeTable}
use Rattle.graph.specs.Numbering.{total}
use Rattle.graph.specs.Tests.{most_degree, most_classes, least_class, class_degree, row_sum, vertices}
use Rattle.graph.proofs.Passes.{passes-passed}
use Rattle.table.specs.Inner.Cells.{matrix_of}
use Rattle.layout.specs.Layout.{most_vertices, wanted}
use Rattle.layout.specs.Inner.Arrays.{count_in, table_in}
use Rattle.layout.proofs.Counted.{counted-total, counted-degree}
use Rattle.journal.specs.Journal.{jdm_of}
use Rattle.adjacency.specs.Adjacency.{edge}
use Rattle.adjacency.proofs.Degrees.{degrees_are, degrees_edges}
use Rattle.state.specs.State.{State}
use Rattle.state.specs.Laid.{vertex_count}
use Rattle.state.specs.Inner.Opened.{Opened}
use Rattle.state.proofs.Facts.{Laid}

module _ (s : State) {cells counts degrees : List ℕ} (o : Opened s cells counts degrees) (laid : Laid s) {n : ℕ}
    (en : n ≡ vertices (table_in cells (count_in counts 0))) where
  -- N, as the code counts it
  pub opened_vertices : n ≡ vertex_count s
  opened_vertices = en ∙ ap vertices o.said

  pub opened_few : (v : ℕ) → v < n → get_or degrees v 0 ≤ most_degree
  opened_few v l =
      let l' : v < vertex_count s = omega (arith, opened_vertices) in
      omega (
        arith,
        degrees_are (vertex_count s) laid.vertices-le s.adjacency o.degrees_right v l',
        laid.partial.room v l',
        laid.target.classed v l',
      )

  pub opened_edges : {e : ℕ} → e ≡ sum_to n (λ v. get_or degrees v 0) / 2 → e ≡ edges n (edge s.adjacency)
  opened_edges ee =
      rw opened_vertices
      (ee
      ∙ ap (λ (m : ℕ). sum_to m (λ v. get_or degrees v 0) / 2) opened_vertices
      ∙ degrees_edges (vertex_count s) laid.vertices-le s.adjacency o.degrees_right laid.partial.simple)

-- the vertices of each class
module _ (s : State) {cells counts degrees : List ℕ} (o : Opened s cells counts degrees) (laid : Laid s) where
  pub opened_total : total most_classes (count_in counts) ≤ most_vertices
  opened_total = rw (counted-total cells counts o.counted, ap vertices o.said) laid.vertices-le

  -- row k of the table is the class's degree for each of its vertices ..
  opened-row : (k : ℕ) → k < most_classes → count_in counts k * class_degree k ≡ row_sum (matrix_of cells) k
  opened-row k l = go (dec_lt k least_class)
    where
      same : matrix_of cells ≡ jdm_of s.journal
      same = ap (λ (u : DegreeTable). u.cells) o.said

      go : Dec (k < least_class) → count_in counts k * class_degree k ≡ row_sum (matrix_of cells) k
      go (yes p) = let z : k ≡ 0 = omega arith in rw (z, same) (omega (arith, laid.target.rows 0 (omega arith)))
      go (no p) =
          let a : least_class ≤ k = omega arith in
          let c = counted-degree cells counts o.counted k a in
          let r = ((passes-passed (jdm_of s.journal)).0 laid.passed).rows k a l in
          rw (c, same) (omega (arith, div-add-mod' (row_sum (jdm_of s.journal) k) k, r))

  -- .. so that the classes tell the edges wanted
  pub opened_wanted : {e : ℕ} → e ≡ sum_to most_classes (λ k. count_in counts k * class_degree k) / 2 → e ≡ wanted (matrix_of cells)
  opened_wanted ee =
      ee ∙ ap (λ (m : ℕ). m / 2) (sum_to-cong most_classes (λ k. count_in counts k * class_degree k) (row_sum (matrix_of cells)) opened-row)
