-- The matrix of a graph is one list of bytes (specs/WithinReach.antt).
-- Assumes nothing.
use mathlib.Core.Path.{◌≡◌, sym, ap, ◌∙◌}
use mathlib.Core.Bool.{◌&&◌, cond}
use mathlib.Core.List.{List}
use mathlib.Core.Logic.{◌⊎◌, inl, inr, ⊎_elim}
use Prim.Native.Nat.{ℕ, ◌+◌, ◌*◌, ◌/◌, ◌%◌, ◌≤◌, ◌<◌}
use native.Mathlib.Decide.{dec_lt}
use native.Mathlib.Omega.{arith}
use lib.Dec.{ltb}
use lib.ListN.{length, get_or, length-replicate}
use lib.Seq.{ext_get_or}
use borrow.Author.Tests.{lt-ltb, le-ltb}
use Rattle.finite.proofs.All.{and-false}
use Rattle.finite.proofs.Blocks.{singles_length, singles_at}
use Rattle.graph.specs.Graph.{Graph, SameOn}
use Rattle.slices.proofs.Zero.{get_or-zeros}
use Rattle.adjacency.specs.Adjacency.{side, adjacency_size, edge}
use Rattle.adjacency.specs.Clauses.{ZeroOutside}
use Rattle.state.specs.State.{empty_matrix}
use Rattle.demands.specs.WithinReach.{bytes_of}

-- the matrix of a graph
module _ (n : ℕ) (H : Graph) where
  byte : ℕ → ℕ → ℕ
  byte v w = cond (ltb v n && ltb w n) (H v w) 0

  pub matrix_length : length (bytes_of n H) ≡ adjacency_size
  unfolding byte
  matrix_length = singles_length (λ i. byte (i / side) (i % side)) adjacency_size

  matrix-at : (v w : ℕ) → v < side → w < side → edge (bytes_of n H) v w ≡ byte v w
  unfolding byte
  matrix-at v w vs ws =
      let a : (v * side + w) / side ≡ v = omega arith in
      let b : (v * side + w) % side ≡ w = omega arith in
      rw (singles_at (λ i. byte (i / side) (i % side)) adjacency_size (v * side + w) (omega arith), a, b)

  pub matrix_outside : ZeroOutside n (bytes_of n H)
  unfolding byte
  matrix_outside v w vs ws o = matrix-at v w vs ws ∙ ⊎_elim (λ h. rw (le-ltb v n h)) (λ h. rw (le-ltb w n h, and-false (ltb v n))) o

  pub matrix_edges : n ≤ side → SameOn n H (edge (bytes_of n H))
  unfolding byte
  matrix_edges few v w l m = matrix-at v w (omega arith) (omega arith) ∙ rw (lt-ltb v n l, lt-ltb w n m)

-- the empty matrix
pub empty-length : length empty_matrix ≡ adjacency_size
empty-length = length-replicate {A = ℕ} adjacency_size 0

pub empty-edge : (v w : ℕ) → edge empty_matrix v w ≡ 0
empty-edge v w = get_or-zeros adjacency_size (v * side + w)
