-- `edge_list::put_list` meets its contract: the rows up to v are written.
use mathlib.Core.Path.{◌≡◌}
use Prim.Native.Nat.{◌≤◌}
use lib.ListN.{length}
use lib.Seq.{sets}
use Rattle.finite.specs.Range.{cat_to}
use Rattle.adjacency.specs.Adjacency.{edge}
use Rattle.edge_lists.specs.EdgeList.{row_bytes}
use Rattle.edge_list.proofs.put_list.Given as goal

abbrev pub invariant-loop-v : goal.invariant-loop-v
invariant-loop-v l = (l.v ≤ l.n) × (l.a ≡ length (cat_to l.v (λ x. row_bytes l.n (edge l.adjacency x) x)))
    × (l.output ≡ sets l.initial.output 0 (cat_to l.v (λ x. row_bytes l.n (edge l.adjacency x) x)))
