-- As many joins as edges are missing: before each of them a cell is short, and after them none is.
-- Assumes nothing.
use mathlib.Core.Path.{◌≡◌, refl, sym, ◌∙◌}
use mathlib.Core.Bool.{Bool, true, false}
use Prim.Native.Nat.{ℕ, ◌+◌, ◌-◌, ◌<◌}
use native.Mathlib.Omega.{arith}
use Rattle.finite.specs.Range.{sum_to}
use Rattle.finite.proofs.Sum.{sum_to-cong}
use Rattle.finite.proofs.Fold.{iterate-next, iterate-stop}
use Rattle.graph.specs.Graph.{jdm, edges}
use Rattle.graph.specs.Tests.{most_classes}
use Rattle.graph.proofs.Completion.{cells-twice}
use Rattle.layout.specs.Layout.{wanted}
use Rattle.adjacency.specs.Adjacency.{edge}
use Rattle.completion.specs.Complete.{Ran, most_edges, is_incomplete}
use Rattle.completion.specs.Inner.Cellwise.{Filling}
use Rattle.completion.proofs.Cellwise.{edges-within}
use Rattle.completion.proofs.Chosen.{Stepped, opened}
use Rattle.completion.proofs.Works.{stops}
use Rattle.shuffled_completion.specs.Choice.{next_x, pair_v, pair_w, position}
use Rattle.shuffled_completion.specs.Shuffle.{Shuffled, next_shuffled, incomplete_shuffled, run_shuffled}
use Rattle.shuffled_completion.proofs.Picked.{picked, position-below, passes-open}

module _ (n : ℕ) (cls : ℕ → ℕ) (T : ℕ → ℕ → ℕ) where
  -- where no cell is short, there are as many edges as are wanted
  stopped : (s : Ran) → Filling n cls T s.adjacency → is_incomplete n cls T s ≡ false → wanted T ≡ edges n (edge s.adjacency)
  stopped s f e =
      omega (
        arith,
        sum_to-cong most_classes (λ k. sum_to most_classes (T k)) (λ k. sum_to most_classes (jdm n cls (edge s.adjacency) k))
            (λ k p. sum_to-cong most_classes (T k) (jdm n cls (edge s.adjacency) k) (λ l q. sym (stops n cls T s f e k l p q))),
        cells-twice n most_classes cls (edge s.adjacency) f.partial.simple f.target.classed,
      )

  module _ (s : Shuffled) (f : Filling n cls T s.ran.adjacency) where
    -- the pair that is picked
    abbrev v : ℕ
    v = pair_v n cls T s.ran.adjacency (position n cls T s.ran.adjacency (next_x s.x))

    abbrev w : ℕ
    w = pair_w n cls T s.ran.adjacency (position n cls T s.ran.adjacency (next_x s.x)) v

    -- a join adds an edge
    after : incomplete_shuffled n cls T s ≡ true → Stepped n cls T s.ran.adjacency (next_shuffled n cls T s).ran.adjacency (cls v) (cls w)
    after e =
        let g = s.ran.adjacency in
        let p = picked n cls T g (position n cls T g (next_x s.x)) (position-below n cls T g f e (next_x s.x)) in
        opened n cls T g f v w (passes-open n cls T g v w p.second p.passes)

    pub next_more : incomplete_shuffled n cls T s ≡ true → edges n (edge (next_shuffled n cls T s).ran.adjacency) ≡ edges n (edge s.ran.adjacency) + 1
    next_more e = (after e).one_more

    -- a cell is short exactly while edges are missing
    pub still_short : edges n (edge s.ran.adjacency) < wanted T → incomplete_shuffled n cls T s ≡ true
    still_short h = go (incomplete_shuffled n cls T s) refl
      where
        go : (b : Bool) → incomplete_shuffled n cls T s ≡ b → b ≡ true
        go true e = refl
        go false e = absurd (omega (arith, stopped s.ran f e))

    pub not_short : edges n (edge s.ran.adjacency) ≡ wanted T → incomplete_shuffled n cls T s ≡ false
    not_short h = go (incomplete_shuffled n cls T s) refl
      where
        go : (b : Bool) → incomplete_shuffled n cls T s ≡ b → b ≡ false
        go false e = refl
        go true e = absurd (omega (arith, (after e).one_more, edges-within n cls T (next_shuffled n cls T s).ran.adjacency (after e).filling))

  -- s is on the way: what is left of the run goes on from it
  pub run-next : (i : ℕ) (s : Shuffled) {r : Shuffled} → i < most_edges → incomplete_shuffled n cls T s ≡ true → run_shuffled (most_edges - i) n cls T s ≡ r
      → run_shuffled (most_edges - (i + 1)) n cls T (next_shuffled n cls T s) ≡ r
  run-next i s h e way = sym (iterate-next most_edges i (incomplete_shuffled n cls T) (next_shuffled n cls T) s h e) ∙ way

  pub run-stop : (i : ℕ) (s : Shuffled) {r : Shuffled} → incomplete_shuffled n cls T s ≡ false → run_shuffled (most_edges - i) n cls T s ≡ r → s ≡ r
  run-stop i s e way = sym (iterate-stop (most_edges - i) 0 (incomplete_shuffled n cls T) (next_shuffled n cls T) s e) ∙ way
