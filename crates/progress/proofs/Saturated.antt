-- Which vertices of a class are saturated: the search passes over these alone, and over a join they stay so.
-- Assumes nothing.
use mathlib.Core.Path.{◌≡◌}
use mathlib.Core.Bool.{false}
use mathlib.Core.List.{List}
use Prim.Native.Nat.{ℕ, ◌≤◌, ◌<◌}
use native.Mathlib.Decide.{dec_lt}
use native.Mathlib.Omega.{arith}
use lib.Dec.{ltb}
use lib.ListN.{get_or}
use borrow.Author.Tests.{le-ltb, ltb-false}
use Rattle.finite.specs.Range.{lowest}
use Rattle.finite.proofs.Lowest.{lowest-le, lowest-before}
use Rattle.graph.specs.Graph.{degree}
use Rattle.graph.specs.Switch.{unsaturated}
use Rattle.graph.specs.Target.{Open}
use Rattle.graph.specs.Tests.{most_classes, class_degree}
use Rattle.graph.proofs.Resume.{join-degree}
use Rattle.layout.specs.Layout.{most_vertices}
use Rattle.adjacency.specs.Adjacency.{edge}
use Rattle.adjacency.proofs.Degrees.{degrees_are}
use Rattle.join_bytes.specs.Join.{join_bytes}
use Rattle.adjacency.specs.Inner.Degrees.{degrees_of}
use Rattle.join_bytes.proofs.Bytes.{join-bytes}
use Rattle.completion.specs.Inner.Cellwise.{Filling}
use Rattle.classes.specs.Inner.Block.{ClassRange}
use Rattle.progress.specs.Inner.Work.{Saturated}

-- the search in the array of degrees passes over saturated vertices only
pub low_saturated : (n : ℕ) (cls : ℕ → ℕ) (g degrees : List ℕ) (k from to low r : ℕ) → n ≤ most_vertices → ClassRange n cls k from to
    → degrees ≡ degrees_of n g → low ≤ to → Saturated n cls g k low → r ≡ lowest low to (λ i. ltb (get_or degrees i 0) (class_degree k)) → Saturated n cls g k r
low_saturated n cls g degrees k from to low r few range eh lt sat er i ir ik = go (dec_lt i low)
  where
    go : Dec (i < low) → unsaturated n cls class_degree (edge g) i ≡ false
    go (yes p) = sat i p ik
    go (no p) =
        let passed = lowest-before low to (λ i. ltb (get_or degrees i 0) (class_degree k)) lt i (omega arith) (omega arith) in
        let i-to : i < to = omega (arith, lowest-le low to (λ i. ltb (get_or degrees i 0) (class_degree k)) lt) in
        rw ik (rw (degrees_are n few g eh i (omega (arith, range.within))) at passed)

-- over a join no vertex loses edges, so saturated vertices stay so
pub saturated_stays : (n : ℕ) (cls : ℕ → ℕ) (T : ℕ → ℕ → ℕ) (g : List ℕ) → Filling n cls T g → (v w : ℕ) → Open n cls T (edge g) v w
    → (k low : ℕ) → low ≤ n → Saturated n cls g k low → Saturated n cls (join_bytes n cls g v w) k low
saturated_stays n cls T g f v w pair k low ln sat i h e =
    le-ltb (degree n (edge (join_bytes n cls g v w)) i) (class_degree (cls i))
    (omega (
      arith,
      ltb-false (degree n (edge g) i) (class_degree (cls i)) (sat i h e),
      join-degree n most_classes cls class_degree T f.target (edge g) v w f.partial pair (edge (join_bytes n cls g v w))
          (join-bytes n cls T g v w f.sized f.few f.target f.partial pair)
          i
          (omega arith),
    ))
