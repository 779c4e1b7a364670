-- A pair that may be joined: b and t of its switch, and that it may still be joined once room was made at either end.
-- Assumes nothing.
use mathlib.Core.Path.{◌≡◌}
use mathlib.Core.Bool.{false}
use mathlib.Core.List.{List}
use Prim.Native.Nat.{ℕ, ◌<◌}
use Rattle.answer.specs.Inner.Moved.{SwitchBelow}
use Rattle.graph.specs.Graph.{degree}
use Rattle.graph.specs.Switch.{unsaturated}
use Rattle.graph.specs.Tests.{most_classes, class_degree}
use Rattle.graph.specs.Theorems.{Choices}
use Rattle.graph.proofs.Switch.{switch_works}
use Rattle.graph.proofs.Join.{Ready}
use Rattle.adjacency.specs.Adjacency.{edge}
use Rattle.join_bytes.specs.Join.{substitute_at, transfer_at, relieve_bytes, switch_at}
use Rattle.join_bytes.specs.Inner.Joinable.{Joinable}
use Rattle.join_bytes.proofs.Bytes.{ready_v, pair-w, sized_once}

module _ {n : ℕ} {cls : ℕ → ℕ} {g : List ℕ} {a o : ℕ} (j : Joinable n cls g a o) where
  -- a is saturated, so it is switched
  pub chosen : unsaturated n cls class_degree (edge g) a ≡ false
      → Choices n most_classes cls class_degree j.table (edge g) a o (substitute_at n cls g a o) (transfer_at n cls g a o)
  chosen full = (switch_works n most_classes cls class_degree j.table (edge g) a o j.target j.partial j.pair full).0

  pub switch_below : unsaturated n cls class_degree (edge g) a ≡ false → SwitchBelow n (switch_at n cls g a o)
  switch_below full = (j.pair.first, (chosen full).b_vertex, (chosen full).t_vertex)

  ready : Ready n most_classes cls class_degree j.table (edge g) a o (edge (relieve_bytes n cls g a o))
  ready = ready_v n cls j.table g a o j.sized j.few j.target j.partial j.pair

  -- then room may be made at o
  pub joinable_next : Joinable n cls (relieve_bytes n cls g a o) o a
  joinable_next =
      record {
        table = j.table;
        sized = sized_once n cls j.table g a o j.sized j.few j.target j.partial j.pair;
        few = j.few;
        target = j.target;
        partial = ready.partial;
        pair = pair-w n cls j.table g a o j.sized j.few j.target j.partial j.pair;
      }

-- both reliefs, one after the other: the pair may be linked then, and both have room
module _ {n : ℕ} {cls : ℕ → ℕ} {g : List ℕ} {v w : ℕ} (j : Joinable n cls g v w) where
  pub joinable_last : Joinable n cls (relieve_bytes n cls (relieve_bytes n cls g v w) w v) v w
  joinable_last = joinable_next (joinable_next j)

  pub room_v : degree n (edge (relieve_bytes n cls (relieve_bytes n cls g v w) w v)) v < class_degree (cls v)
  room_v = (ready (joinable_next j)).o_able (ready j).room

  pub room_w : degree n (edge (relieve_bytes n cls (relieve_bytes n cls g v w) w v)) w < class_degree (cls w)
  room_w = (ready (joinable_next j)).room
