-- The text of a state shows its graph (specs/StateText.antt `StateShown`).
-- Assumes nothing.
use mathlib.Core.Path.{◌≡◌, ap, ◌∙◌}
use mathlib.Core.Bool.{◌&&◌}
use mathlib.Core.List.{List, ◌++◌}
use Prim.Native.Nat.{ℕ, ◌*◌, ◌/◌}
use native.Mathlib.Omega.{arith}
use lib.Dec.{eqb, ltb}
use lib.ListN.{length}
use Rattle.finite.specs.Range.{bit, sum_to, cat_to}
use Rattle.finite.proofs.Fold.{cat_to-cong}
use Rattle.graph.specs.Graph.{edges}
use Rattle.adjacency.specs.Adjacency.{edge}
use Rattle.state.specs.Laid.{vertex_count}
use Rattle.edge_lists.specs.EdgeList.{graph_of, edge_bytes, row_bytes}
use Rattle.edge_lists.proofs.Listing.{list_length}
use Rattle.edge_lists.proofs.Listed.{list-graph}
use Rattle.edge_lists.proofs.Pairs.{cat_sized, one_sized}
use Rattle.edge_list.specs.List.{list_bytes}
use Rattle.graph6.proofs.Text.{text_cong}
use Rattle.text.specs.Text.{newline, head_line, edge_lines}
use Rattle.text.proofs.Lines.{lines_cat, lines_one}
use Rattle.options.specs.declared.Form.TheVariants.{Lines, Graph6}
use Rattle.state_text.specs.StateText.{edge_text, StateShown}

-- the lines of a graph's edge list, v by v and w by w
module _ (n : ℕ) (g : List ℕ) where
  there : ℕ → ℕ → ℕ
  there v w = bit (ltb v w && eqb (edge g v w) 1)

  edge-sized : (v w : ℕ) → length (edge_bytes (edge g v) v w) ≡ 2 * there v w
  unfolding there
  edge-sized v w = one_sized (ltb v w && eqb (edge g v w) 1) v w

  row_sized : (v : ℕ) → length (row_bytes n (edge g v) v) ≡ 2 * sum_to n (there v)
  row_sized v = cat_sized (edge_bytes (edge g v) v) (there v) (edge-sized v) n

  lines-row : (v : ℕ) → edge_lines (row_bytes n (edge g v) v) ≡ cat_to n (edge_text g v)
  lines-row v =
      lines_cat (edge_bytes (edge g v) v) (λ m. sum_to m (there v)) (cat_sized (edge_bytes (edge g v) v) (there v) (edge-sized v)) n
      ∙ cat_to-cong (λ w. edge_lines (edge_bytes (edge g v) v w)) (edge_text g v) n (λ w l. lines_one (ltb v w && eqb (edge g v w) 1) v w)

  lines-list : edge_lines (list_bytes n g) ≡ cat_to n (λ v. cat_to n (edge_text g v))
  lines-list =
      lines_cat (λ v. row_bytes n (edge g v) v) (λ m. sum_to m (λ v. sum_to n (there v)))
      (cat_sized (λ v. row_bytes n (edge g v) v) (λ v. sum_to n (there v)) row_sized) n
      ∙ cat_to-cong (λ v. edge_lines (row_bytes n (edge g v) v)) (λ v. cat_to n (edge_text g v)) n (λ v l. lines-row v)

pub state_shown : StateShown
state_shown Lines switches s simple =
    let n = vertex_count s in
    let g = s.adjacency in
    let d = length (list_bytes n g) / 2 in
    let q : d ≡ edges n (edge g) = omega (arith, list_length n (edge g) simple) in
    ap (λ (m : ℕ). head_line n m switches ++ edge_lines (list_bytes n g)) q
    ∙ ap (λ (t : List ℕ). head_line n (edges n (edge g)) switches ++ t) (lines-list n g)
state_shown Graph6 switches s simple =
    let n = vertex_count s in
    let g = s.adjacency in
    ap (λ (t : List ℕ). t ++ newline) (text_cong n (edge g) (graph_of (list_bytes n g)) (list-graph n (edge g) simple))
