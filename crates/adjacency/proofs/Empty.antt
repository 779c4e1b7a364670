-- The matrix of bytes that are all 0: it passes the check whatever the table is, and has no edges.
-- Assumes nothing.
use mathlib.Core.Path.{◌≡◌, sym, ◌∙◌}
use mathlib.Core.Bool.{true}
use mathlib.Core.List.{List}
use Prim.Native.Nat.{ℕ, ◌+◌, ◌*◌, ◌≤◌}
use native.Mathlib.Omega.{arith}
use lib.ListN.{length, get_or}
use Rattle.finite.specs.Range.{sum_to}
use Rattle.finite.proofs.Sum.{sum_to-zero}
use Rattle.graph.specs.Graph.{edges}
use Rattle.graph.proofs.Functions.{empty}
use Rattle.graph.proofs.Matrix.{jdm-cong, jdm-empty}
use Rattle.adjacency.specs.Adjacency.{side, adjacency_size, edge, adjacency_ok}
use Rattle.adjacency.proofs.Facts.{facts_adjacency}

module _ (g : List ℕ) (zero : (i : ℕ) → get_or g i 0 ≡ 0) where
  pub no_edge : (v w : ℕ) → edge g v w ≡ 0
  no_edge v w = zero (v * side + w)

  pub no_edges : (n : ℕ) → edges n (edge g) ≡ 0
  unfolding edges
  no_edges n = sum_to-zero n (λ v. sum_to v (edge g v)) (λ v l. sum_to-zero v (edge g v) (λ w m. no_edge v w))

  pub empty-ok : (n : ℕ) (cls : ℕ → ℕ) (T : ℕ → ℕ → ℕ) → length g ≡ adjacency_size → n ≤ side → adjacency_ok n cls T g ≡ true
  empty-ok n cls T long small =
      facts_adjacency n cls T g long small
      (record {
        simple = record {
          binary = λ v w l m. omega (arith, no_edge v w);
          symmetric = λ v w l m. no_edge v w ∙ sym (no_edge w v);
          loopless = λ v l. no_edge v v;
        };
        outside = λ v w l m o. no_edge v w;
        room = λ v l. omega (arith, sum_to-zero n (edge g v) (λ w m. no_edge v w));
        within = λ k l p q. omega (arith, jdm-cong n cls (edge g) empty (λ v w i j. no_edge v w) k l, jdm-empty n cls k l);
      })
