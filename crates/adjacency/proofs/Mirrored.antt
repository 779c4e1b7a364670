-- `mirrored`: among the vertices the matrix is that of a simple graph, so half of its cells are enough.
-- Assumes nothing.
use mathlib.Core.Path.{◌≡◌, sym, ap₂}
use mathlib.Core.Bool.{true, ◌&&◌, ◌||◌}
use mathlib.Core.List.{List}
use Prim.Native.Nat.{ℕ, ◌≤◌, ◌<◌}
use native.Mathlib.Decide.{dec_lt}
use native.Mathlib.Omega.{arith}
use lib.Dec.{eqb, leb, ltb}
use borrow.Author.Tests.{eqb-true, eq-eqb, leb-true, le-leb}
use Rattle.finite.specs.Range.{all_to}
use Rattle.finite.proofs.All.{and_left, and_right, and_both, all_to-at, all_to-holds, all_to-upper}
use Rattle.graph.specs.Graph.{Simple, jdm}
use Rattle.graph.specs.Tests.{most_classes}
use Rattle.graph.proofs.Necessary.{necessary_always}
use Rattle.adjacency.specs.Adjacency.{edge, row_mirrored, mirrored, cells_within}

module _ (n : ℕ) (g : List ℕ) where
  pub mirrored-simple : mirrored n g ≡ true → Simple n (edge g)
  mirrored-simple h =
      record {
        binary = λ v w l m. binary v w l m (dec_lt w v) (dec_lt v w);
        symmetric = λ v w l m. symmetric v w l m (dec_lt w v) (dec_lt v w);
        loopless = loopless;
      }
    where
      row : (v : ℕ) → v < n → row_mirrored g v ≡ true
      row v l = all_to-at (row_mirrored g) n h v l

      loopless : (v : ℕ) → v < n → edge g v v ≡ 0
      loopless v l = eqb-true (edge g v v) 0 (and_left _ (all_to v (λ w. leb (edge g v w) 1 && eqb (edge g v w) (edge g w v))) (row v l))

      pair : (v w : ℕ) → v < n → w < v → leb (edge g v w) 1 && eqb (edge g v w) (edge g w v) ≡ true
      pair v w l m =
          all_to-at (λ w. leb (edge g v w) 1 && eqb (edge g v w) (edge g w v)) v (and_right (eqb (edge g v v) 0) _ (row v l)) w m

      small : (v w : ℕ) → v < n → w < v → edge g v w ≤ 1
      small v w l m = leb-true (edge g v w) 1 (and_left _ (eqb (edge g v w) (edge g w v)) (pair v w l m))

      same : (v w : ℕ) → v < n → w < v → edge g v w ≡ edge g w v
      same v w l m = eqb-true (edge g v w) (edge g w v) (and_right (leb (edge g v w) 1) _ (pair v w l m))

      equal : (v w : ℕ) → (w < v → ⊥) → (v < w → ⊥) → v ≡ w
      equal v w p q = omega arith

      symmetric : (v w : ℕ) → v < n → w < n → Dec (w < v) → Dec (v < w) → edge g v w ≡ edge g w v
      symmetric v w l m (yes p) q = same v w l p
      symmetric v w l m (no p) (yes q) = sym (same w v m q)
      symmetric v w l m (no p) (no q) = rw (equal v w p q)

      binary : (v w : ℕ) → v < n → w < n → Dec (w < v) → Dec (v < w) → edge g v w ≤ 1
      binary v w l m (yes p) q = small v w l p
      binary v w l m (no p) (yes q) = rw (← (same w v m q)) (small w v m q)
      binary v w l m (no p) (no q) = rw (equal v w p q, loopless w m) (omega arith)

  pub simple_mirrored : Simple n (edge g) → mirrored n g ≡ true
  simple_mirrored s =
      all_to-holds (row_mirrored g) n
      (λ v l. and_both _ _ (eq-eqb (edge g v v) 0 (s.loopless v l))
      (all_to-holds (λ w. leb (edge g v w) 1 && eqb (edge g v w) (edge g w v)) v
      (λ w m. and_both _ _ (le-leb (edge g v w) 1 (s.binary v w l (omega arith))) (eq-eqb (edge g v w) (edge g w v) (s.symmetric v w l (omega arith))))))

  -- against a symmetric table, the cells (k, l) with l from k on are enough
  pub cells_within-upper : mirrored n g ≡ true → (cls : ℕ → ℕ) → ((v : ℕ) → v < n → cls v < most_classes)
      → (T : ℕ → ℕ → ℕ) → ((k l : ℕ) → T k l ≡ T l k)
      → cells_within n cls T g ≡ all_to most_classes (λ k. all_to most_classes (λ l. ltb l k || leb (jdm n cls (edge g) k l) (T k l)))
  cells_within-upper h cls classed T s =
      all_to-upper most_classes (λ k l. leb (jdm n cls (edge g) k l) (T k l))
      (λ k l i j. ap₂ leb ((necessary_always n most_classes cls (edge g) (mirrored-simple h) classed).symmetric k l) (s k l))
