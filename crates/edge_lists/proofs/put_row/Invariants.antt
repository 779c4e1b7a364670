-- `edge_lists::put_row` meets its contract: the edges up to w are written.
use mathlib.Core.Path.{◌≡◌}
use Prim.Native.Nat.{◌+◌}
use lib.ListN.{length, get_or}
use lib.Seq.{sets}
use Rattle.finite.specs.Range.{cat_to}
use Rattle.edge_lists.specs.EdgeList.{edge_bytes}
use Rattle.edge_lists.proofs.put_row.Given as goal

abbrev pub invariant-loop-w : goal.invariant-loop-w
invariant-loop-w l = (l.a ≡ l.at + length (cat_to l.w (edge_bytes (λ x. get_or l.row x 0) l.v)))
    × (l.output ≡ sets l.initial.output l.at (cat_to l.w (edge_bytes (λ x. get_or l.row x 0) l.v)))
