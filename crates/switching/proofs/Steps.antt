-- Switching a, step by step, with `degrees` beside the matrix: what each step asks for, and what it leaves.
-- Assumes nothing.
use mathlib.Core.Path.{◌≡◌, sym, ◌∙◌}
use mathlib.Core.Bool.{false}
use mathlib.Core.List.{List}
use Prim.Native.Nat.{ℕ, ◌≤◌, ◌<◌}
use native.Mathlib.Omega.{arith}
use Rattle.graph.specs.Graph.{degree, AddsEdge}
use Rattle.graph.specs.Switch.{unsaturated}
use Rattle.graph.specs.Tests.{most_degree, class_degree}
use Rattle.graph.proofs.Update.{degree-adds}
use Rattle.adjacency.specs.Adjacency.{edge, set_edge}
use Rattle.adjacency.specs.Inner.Degrees.{degrees_of}
use Rattle.adjacency.proofs.Set.{set-length}
use Rattle.join_bytes.specs.Join.{substitute_at, transfer_at, neighbor_switch}
use Rattle.join_bytes.specs.Inner.Joinable.{Joinable}
use Rattle.join_bytes.proofs.Bytes.{switch_removes, switch_adds}
use Rattle.join_bytes.proofs.Joinable.{chosen}
use Rattle.switching.specs.Inner.Work.{with_edge, without_edge, Unlinkable, Linkable}
use Rattle.switching.proofs.Degrees.{few_edges, with-edge, some_edge, without-edge}

module _ {n : ℕ} {cls : ℕ → ℕ} {g : List ℕ} {a o : ℕ} (j : Joinable n cls g a o) (full : unsaturated n cls class_degree (edge g) a ≡ false)
    {degrees : List ℕ} (is : degrees ≡ degrees_of n g) where
  abbrev b : ℕ
  b = substitute_at n cls g a o

  abbrev t : ℕ
  t = transfer_at n cls g a o

  removes : AddsEdge n (edge (set_edge g a t 0)) a t (edge g)
  removes = switch_removes n cls j.table g a o j.sized j.few j.target j.partial j.pair full

  pub unlinkable : Unlinkable g degrees a (transfer_at n cls g a o)
  unlinkable = (
    j.sized,
    omega (arith, j.few, j.pair.first),
    omega (arith, j.few, (chosen j full).t_vertex),
    λ e. (chosen j full).t_not_a (sym e),
    some_edge j.few g is j.pair.first (chosen j full).t_vertex (set_edge g a t 0) (λ e. (chosen j full).t_not_a (sym e)) removes,
  )

  unlinked : without_edge degrees a t ≡ degrees_of n (set_edge g a t 0)
  unlinked = without-edge j.few g is j.pair.first (chosen j full).t_vertex (set_edge g a t 0) (λ e. (chosen j full).t_not_a (sym e)) removes

  -- without a – t every vertex has as many edges as before at most
  fewer : (v : ℕ) → v < n → degree n (edge (set_edge g a t 0)) v ≤ most_degree
  fewer v l =
      omega (
        arith,
        degree-adds n (edge (set_edge g a t 0)) (edge g) a t removes j.pair.first (chosen j full).t_vertex v l,
        j.partial.room v l,
        j.target.classed v l,
      )

  pub linkable_b : Linkable (set_edge g a (transfer_at n cls g a o) 0) (without_edge degrees a (transfer_at n cls g a o)) (substitute_at n cls g a o)
      (transfer_at n cls g a o)
  linkable_b = (
    set-length g a t 0 ∙ j.sized,
    omega (arith, j.few, (chosen j full).b_vertex),
    omega (arith, j.few, (chosen j full).t_vertex),
    λ e. (chosen j full).t_not_b (sym e),
    few_edges j.few (set_edge g a t 0) unlinked (chosen j full).b_vertex (chosen j full).t_vertex (fewer b (chosen j full).b_vertex)
        (fewer t (chosen j full).t_vertex),
  )

  pub switch_kept : with_edge (without_edge degrees a (transfer_at n cls g a o)) (substitute_at n cls g a o) (transfer_at n cls g a o)
      ≡ degrees_of n (neighbor_switch n cls g a o)
  switch_kept =
      with-edge j.few (set_edge g a t 0) unlinked (chosen j full).b_vertex (chosen j full).t_vertex (neighbor_switch n cls g a o)
      (λ e. (chosen j full).t_not_b (sym e)) (switch_adds n cls j.table g a o j.sized j.few j.target j.partial j.pair full)
