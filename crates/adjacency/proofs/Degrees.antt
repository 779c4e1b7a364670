-- The array of the degrees that the vertices have so far: what it holds, and how many edges it tells of.
-- Assumes nothing.
use mathlib.Core.Path.{◌≡◌, ◌∙◌}
use mathlib.Core.List.{List}
use Prim.Native.Nat.{ℕ, ◌/◌, ◌≤◌, ◌<◌}
use native.Mathlib.Omega.{arith}
use lib.ListN.{length, get_or, replicate, length-replicate}
use lib.Dec.{leb}
use Rattle.finite.specs.Range.{sum_to, all_to}
use Rattle.finite.proofs.All.{all_to-cong}
use Rattle.finite.proofs.Sum.{sum_to-cong}
use Rattle.finite.proofs.Fold.{fill_to-at, fill_to-length}
use Rattle.graph.specs.Graph.{Simple, degree, edges}
use Rattle.graph.specs.Tests.{class_degree}
use Rattle.graph.proofs.Update.{handshake}
use Rattle.layout.specs.Layout.{most_vertices}
use Rattle.adjacency.specs.Adjacency.{edge, degrees_within}
use Rattle.adjacency.specs.Inner.Degrees.{degrees_of}

module _ (n : ℕ) (few : n ≤ most_vertices) where
  pub degrees_length : (g : List ℕ) → length (degrees_of n g) ≡ most_vertices
  degrees_length g = fill_to-length (degree n (edge g)) (replicate most_vertices 0) n ∙ length-replicate {A = ℕ} most_vertices 0

  pub degrees_at : (g : List ℕ) (v : ℕ) → v < n → get_or (degrees_of n g) v 0 ≡ degree n (edge g) v
  degrees_at g v = fill_to-at (degree n (edge g)) (replicate most_vertices 0) n v (rw length-replicate few)

  -- an array that holds the degrees
  pub degrees_are : (g : List ℕ) {degrees : List ℕ} → degrees ≡ degrees_of n g → (v : ℕ) → v < n → get_or degrees v 0 ≡ degree n (edge g) v
  degrees_are g is v l = rw is (degrees_at g v l)

  -- half their sum is the number of edges
  pub degrees_edges : (g : List ℕ) {degrees : List ℕ} → degrees ≡ degrees_of n g → Simple n (edge g)
      → sum_to n (λ v. get_or degrees v 0) / 2 ≡ edges n (edge g)
  degrees_edges g {degrees} is simple =
      omega (arith, sum_to-cong n (λ v. get_or degrees v 0) (degree n (edge g)) (λ v l. degrees_are g is v l), handshake n (edge g) simple)

  -- whether no vertex is above its degree, as the array tells
  pub degrees_bound : (g : List ℕ) {degrees : List ℕ} → degrees ≡ degrees_of n g → (cls : ℕ → ℕ)
      → all_to n (λ v. leb (get_or degrees v 0) (class_degree (cls v))) ≡ degrees_within n cls g
  degrees_bound g {degrees} is cls =
      all_to-cong (λ v. leb (get_or degrees v 0) (class_degree (cls v))) (λ v. leb (degree n (edge g) v) (class_degree (cls v))) n
      (λ v l. rw (degrees_are g is v l))
