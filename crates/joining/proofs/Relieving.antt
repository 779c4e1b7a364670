-- Making room at a vertex, and joining: the switches, what each step asks for, the degrees beside the matrix, and what holds for the next step.
-- Assumes nothing.
use mathlib.Core.Path.{◌≡◌, refl, ◌∙◌}
use mathlib.Core.Bool.{Bool, true, false, cond}
use mathlib.Core.List.{List}
use Prim.Native.Nat.{ℕ, ◌+◌, ◌<◌}
use native.Mathlib.Omega.{arith}
use borrow.Author.Tests.{ltb-false, le-ltb}
use Rattle.finite.proofs.Delta.{δ-other}
use Rattle.graph.specs.Graph.{degree, AddsEdge}
use Rattle.graph.specs.Switch.{unsaturated}
use Rattle.graph.specs.Tests.{most_classes, class_degree}
use Rattle.graph.proofs.Resume.{relief_degree}
use Rattle.adjacency.specs.Adjacency.{edge, set_edge}
use Rattle.adjacency.specs.Inner.Degrees.{degrees_of}
use Rattle.adjacency.proofs.Set.{set-adds}
use Rattle.answer.specs.declared.switches.Switch.{Switch}
use Rattle.classes.specs.Inner.Block.{class_from}
use Rattle.classes.proofs.Blocks.{start_most}
use Rattle.join_bytes.specs.Join.{transfer_at, switch_at, relieve_bytes, in_order, join_switches}
use Rattle.join_bytes.specs.Inner.Joinable.{Joinable}
use Rattle.join_bytes.proofs.Bytes.{relieve-bytes}
use Rattle.switching.specs.Inner.Work.{with_edge, Linkable, Placed}
use Rattle.switching.specs.declared.End.{End}
use Rattle.switching.proofs.Degrees.{few_edges, with-edge}
use Rattle.joining.specs.Inner.Work.{relief_of, both_reliefs, cut_off, freed}
use Rattle.std.specs.Prelude.{Option, Some, None}

-- x and y: what the reliefs of v and w took. Together they are the join's switches, and x tells what was cut off from v.
module _ {n : ℕ} {cls : ℕ → ℕ} {g : List ℕ} {v w : ℕ} (j : Joinable n cls g v w) {x : Option Switch} (ex : x ≡ relief_of n cls g v w) where
  pub reliefs_switches : {y : Option Switch} → y ≡ relief_of n cls (relieve_bytes n cls g v w) w v → both_reliefs x y ≡ join_switches n cls g v w
  reliefs_switches ey =
      rw (ex, ey)
      (go (unsaturated n cls class_degree (edge g) v) (unsaturated n cls class_degree (edge (relieve_bytes n cls g v w)) w)
      (switch_at n cls g v w) (switch_at n cls (relieve_bytes n cls g v w) w v))
    where
      go : (p q : Bool) (x y : Switch) → both_reliefs (cond p None (Some x)) (cond q None (Some y)) ≡ in_order p q x y
      go true true x y = refl
      go true false x y = refl
      go false true x y = refl
      go false false x y = refl

  pub relief_freed : cut_off n x ≡ freed n cls g v w
  relief_freed = rw ex (go (unsaturated n cls class_degree (edge g) v))
    where
      go : (p : Bool) → cut_off n (cond p None (Some (switch_at n cls g v w))) ≡ cond p n (transfer_at n cls g v w)
      go true = refl
      go false = refl

-- what adding the edge a – o asks for, and what it leaves
module _ {n : ℕ} {cls : ℕ → ℕ} {g degrees : List ℕ} {a o : ℕ} (j : Joinable n cls g a o) (is : degrees ≡ degrees_of n g) where
  pub linkable : degree n (edge g) a < class_degree (cls a) → degree n (edge g) o < class_degree (cls o) → Linkable g degrees a o
  linkable room-a room-o = (
    j.sized,
    omega (arith, j.few, j.pair.first),
    omega (arith, j.few, j.pair.second),
    j.pair.distinct,
    few_edges j.few g is j.pair.first j.pair.second (omega (arith, j.target.classed a j.pair.first))
        (omega (arith, j.target.classed o j.pair.second)),
  )

  adds : AddsEdge n (edge g) a o (edge (set_edge g a o 1))
  adds =
      set-adds n g a o j.sized (omega (arith, j.few, j.pair.first)) (omega (arith, j.few, j.pair.second)) j.few j.pair.distinct
      j.pair.unlinked
      (j.partial.simple.symmetric o a j.pair.second j.pair.first ∙ j.pair.unlinked)

  pub link_kept : with_edge degrees a o ≡ degrees_of n (set_edge g a o 1)
  link_kept = with-edge j.few g is j.pair.first j.pair.second (set_edge g a o 1) j.pair.distinct adds

-- after room was made at v no vertex but v has lost an edge: w's substitutes are where they were
pub placed_next : {n : ℕ} {starts g : List ℕ} (v w : End) → Joinable n (class_from starts) g v.at w.at → Placed n starts g w v.at
    → Placed n starts (relieve_bytes n (class_from starts) g v.at w.at) w v.at
placed_next {n} {starts} {g} v w j p =
    record {
      numbered = p.numbered;
      class = p.class;
      after = p.after;
      before = p.before;
      saturated = λ i l e d.
          le-ltb (degree n (edge g') i) (class_degree (cls i))
          (omega (
            arith,
            ltb-false (degree n (edge g) i) (class_degree (cls i)) (p.saturated i l e d),
            relief_degree n most_classes cls class_degree j.table j.target (edge g) v.at w.at j.partial j.pair (edge g')
                (relieve-bytes n cls j.table g v.at w.at j.sized j.few j.target j.partial j.pair) i
                (omega (arith, p.before, start_most p.numbered (w.class + 1) (omega (arith, p.class, j.target.classed w.at j.pair.second)))),
            δ-other i v.at d,
          ));
    }
  where
    cls : ℕ → ℕ
    cls = class_from starts

    g' : List ℕ
    g' = relieve_bytes n (class_from starts) g v.at w.at
