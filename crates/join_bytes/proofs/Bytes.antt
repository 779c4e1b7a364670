-- Joining on the bytes is joining on the graph: each step sets and clears the bytes of the edges that the relation names.
-- Assumes nothing.
use mathlib.Core.Path.{◌≡◌, refl, sym, ◌∙◌}
use mathlib.Core.Bool.{Bool, true, false, cond}
use mathlib.Core.List.{List}
use mathlib.Core.Logic.{◌⊎◌}
use Prim.Native.Nat.{ℕ, ◌≤◌, ◌<◌}
use native.Mathlib.Omega.{arith}
use lib.ListN.{length}
use Rattle.graph.specs.Graph.{AddsEdge}
use Rattle.graph.specs.Target.{Target, Partial, Open}
use Rattle.graph.specs.Switch.{unsaturated, Relieved, Joined}
use Rattle.graph.specs.Theorems.{Choices}
use Rattle.graph.specs.Tests.{most_classes, class_degree}
use Rattle.graph.proofs.Switch.{switch_works}
use Rattle.graph.proofs.Join.{Ready, relieved, turned}
use Rattle.layout.specs.Layout.{most_vertices}
use Rattle.adjacency.specs.Adjacency.{adjacency_size, side, edge, set_edge}
use Rattle.adjacency.proofs.Set.{set-length, set_other, set-adds, set-removes, set-outside}
use Rattle.join_bytes.specs.Join.{substitute_at, transfer_at, neighbor_switch, relieve_bytes, join_bytes}

pub relieve-length : (n : ℕ) (cls : ℕ → ℕ) (g : List ℕ) (a o : ℕ) → length (relieve_bytes n cls g a o) ≡ length g
relieve-length n cls g a o = go (unsaturated n cls class_degree (edge g) a)
  where
    go : (u : Bool) → length (cond u g (neighbor_switch n cls g a o)) ≡ length g
    go true = refl
    go false = rw (set-length, set-length) refl

pub join-length : (n : ℕ) (cls : ℕ → ℕ) (g : List ℕ) (v w : ℕ) → length (join_bytes n cls g v w) ≡ length g
join-length n cls g v w =
    set-length (relieve_bytes n cls (relieve_bytes n cls g v w) w v) v w 1
    ∙ relieve-length n cls (relieve_bytes n cls g v w) w v
    ∙ relieve-length n cls g v w

module _ (n : ℕ) (cls : ℕ → ℕ) (T : ℕ → ℕ → ℕ) where
  -- Room at a, o being the other named vertex.
  module _ (g : List ℕ) (a o : ℕ) (sized : length g ≡ adjacency_size) (few : n ≤ most_vertices) (target : Target n most_classes cls class_degree T)
      (partial : Partial n most_classes cls class_degree T (edge g)) (pair : Open n cls T (edge g) a o) where
    b : ℕ
    b = substitute_at n cls g a o

    t : ℕ
    t = transfer_at n cls g a o

    choices : unsaturated n cls class_degree (edge g) a ≡ false → Choices n most_classes cls class_degree T (edge g) a o b t
    unfolding b t
    choices e = (switch_works n most_classes cls class_degree T (edge g) a o target partial pair e).0

    module _ (c : Choices n most_classes cls class_degree T (edge g) a o b t) where
      removes : AddsEdge n (edge (set_edge g a t 0)) a t (edge g)
      removes =
          set-removes n g a t sized (omega (arith, pair.first)) (omega (arith, c.t_vertex)) few (λ e. c.t_not_a (sym e)) c.t_linked
          (partial.simple.symmetric t a c.t_vertex pair.first ∙ c.t_linked)

      -- the bytes of b and t are not those of a and t
      still : (x y : ℕ) → x < n → y < n → ((x ≡ a) × (y ≡ t) → ⊥) → ((x ≡ t) × (y ≡ a) → ⊥) → edge (set_edge g a t 0) x y ≡ edge g x y
      still x y xn yn p q =
          set_other g a t 0 sized (omega (arith, pair.first)) (omega (arith, c.t_vertex)) x y (omega arith) (omega arith) p q

      adds : AddsEdge n (edge (set_edge g a t 0)) b t (edge (set_edge (set_edge g a t 0) b t 1))
      adds =
          set-adds n (set_edge g a t 0) b t (set-length g a t 0 ∙ sized) (omega (arith, c.b_vertex)) (omega (arith, c.t_vertex)) few
          (λ e. c.t_not_b (sym e))
          (still b t c.b_vertex c.t_vertex (λ e. c.b_other e.0) (λ e. c.t_not_b (sym e.0)) ∙ c.t_unlinked)
          (still t b c.t_vertex c.b_vertex (λ e. c.t_not_a e.0) (λ e. c.b_other e.1)
          ∙ partial.simple.symmetric t b c.t_vertex c.b_vertex
          ∙ c.t_unlinked)

      apart : (x y : ℕ) → x < side → y < side → (n ≤ x) ⊎ (n ≤ y) → edge (set_edge (set_edge g a t 0) b t 1) x y ≡ edge g x y
      apart x y xs ys out =
          set-outside n (set_edge g a t 0) b t (set-length g a t 0 ∙ sized) (omega (arith, c.b_vertex)) (omega (arith, c.t_vertex)) few
          (λ e. c.t_not_b (sym e)) 1 c.b_vertex c.t_vertex x y xs ys out
          ∙ set-outside n g a t sized (omega (arith, pair.first)) (omega (arith, c.t_vertex)) few (λ e. c.t_not_a (sym e)) 0 pair.first
          c.t_vertex x y xs ys out

    -- the edges that the switch removes and adds
    pub switch_removes : unsaturated n cls class_degree (edge g) a ≡ false
        → AddsEdge n (edge (set_edge g a (transfer_at n cls g a o) 0)) a (transfer_at n cls g a o) (edge g)
    unfolding b t
    switch_removes e = removes (choices e)

    pub switch_adds : unsaturated n cls class_degree (edge g) a ≡ false
        → AddsEdge n (edge (set_edge g a (transfer_at n cls g a o) 0)) (substitute_at n cls g a o) (transfer_at n cls g a o) (edge (neighbor_switch n cls g a o))
    unfolding b t
    switch_adds e = adds (choices e)

    pub relieve-bytes : Relieved n cls class_degree (edge g) a o (edge (relieve_bytes n cls g a o))
    relieve-bytes =
        record {
          left = λ e v w l m. rw e;
          switched = λ e. rw e (record { between = edge (set_edge g a (transfer_at n cls g a o) 0); removed = switch_removes e; added = switch_adds e });
        }

    -- nothing changes outside the vertices
    pub relieve-outside : (x y : ℕ) → x < side → y < side → (n ≤ x) ⊎ (n ≤ y) → edge (relieve_bytes n cls g a o) x y ≡ edge g x y
    unfolding b t
    relieve-outside x y xs ys out = go (unsaturated n cls class_degree (edge g) a) refl
      where
        go : (u : Bool) → unsaturated n cls class_degree (edge g) a ≡ u
            → edge (cond u g (neighbor_switch n cls g a o)) x y ≡ edge g x y
        go true e = refl
        go false e = apart (choices e) x y xs ys out

  -- The whole join.
  module _ (g : List ℕ) (v w : ℕ) (sized : length g ≡ adjacency_size) (few : n ≤ most_vertices) (target : Target n most_classes cls class_degree T)
      (partial : Partial n most_classes cls class_degree T (edge g)) (pair : Open n cls T (edge g) v w) where
    once : List ℕ
    once = relieve_bytes n cls g v w

    twice : List ℕ
    twice = relieve_bytes n cls once w v

    pub ready_v : Ready n most_classes cls class_degree T (edge g) v w (edge (relieve_bytes n cls g v w))
    ready_v = relieved n most_classes cls class_degree T target (edge g) v w partial pair (edge (relieve_bytes n cls g v w)) (relieve-bytes g v w sized few target partial pair)

    pub pair-w : Open n cls T (edge (relieve_bytes n cls g v w)) w v
    pair-w = turned n most_classes cls class_degree T target (edge g) v w partial pair (edge (relieve_bytes n cls g v w)) ready_v

    pub sized_once : length (relieve_bytes n cls g v w) ≡ adjacency_size
    sized_once = relieve-length n cls g v w ∙ sized

    relieved_w : Relieved n cls class_degree (edge once) w v (edge twice)
    unfolding once twice
    relieved_w = relieve-bytes once w v sized_once few target ready_v.partial pair-w

    ready-w : Ready n most_classes cls class_degree T (edge once) w v (edge twice)
    unfolding once twice
    ready-w = relieved n most_classes cls class_degree T target (edge once) w v ready_v.partial pair-w (edge twice) relieved_w

    pair-v : Open n cls T (edge twice) v w
    unfolding once twice
    pair-v = turned n most_classes cls class_degree T target (edge once) w v ready_v.partial pair-w (edge twice) ready-w

    pub join-bytes : Joined n cls class_degree (edge g) v w (edge (join_bytes n cls g v w))
    unfolding once twice
    join-bytes =
        record {
          once = edge once;
          twice = edge twice;
          relieved_v = relieve-bytes g v w sized few target partial pair;
          relieved_w = relieved_w;
          linked =
              set-adds n twice v w (relieve-length n cls once w v ∙ sized_once) (omega (arith, pair.first)) (omega (arith, pair.second)) few
              pair.distinct pair-v.unlinked
              (ready-w.partial.simple.symmetric w v pair.second pair.first ∙ pair-v.unlinked);
        }

    -- nothing changes outside the vertices
    pub join-outside : (x y : ℕ) → x < side → y < side → (n ≤ x) ⊎ (n ≤ y) → edge (join_bytes n cls g v w) x y ≡ edge g x y
    unfolding once twice
    join-outside x y xs ys out =
        set-outside n twice v w (relieve-length n cls once w v ∙ sized_once) (omega (arith, pair.first)) (omega (arith, pair.second)) few
        pair.distinct 1 pair.first pair.second x y xs ys out
        ∙ relieve-outside once w v sized_once few target ready_v.partial pair-w x y xs ys out
        ∙ relieve-outside g v w sized few target partial pair x y xs ys out
