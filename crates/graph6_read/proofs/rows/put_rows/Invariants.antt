-- `graph6_read::rows::put_rows` meets its contract: the rows up to v are written.
use mathlib.Core.Path.{◌≡◌}
use Prim.Native.Nat.{◌≤◌}
use lib.ListN.{length}
use lib.Seq.{sets}
use Rattle.finite.specs.Range.{cat_to}
use Rattle.layout.specs.Layout.{most_vertices}
use Rattle.edge_lists.specs.EdgeList.{row_bytes}
use Rattle.graph6_read.specs.Inner.Bits.{rows_of}
use Rattle.graph6_read.proofs.rows.put_rows.Given as goal

abbrev pub invariant-loop-v : goal.invariant-loop-v
invariant-loop-v l = (l.v ≤ l.n) × (l.a ≡ length (cat_to l.v (λ x. row_bytes l.n (rows_of l.bits x) x)))
    × (l.output ≡ sets l.initial.output 0 (cat_to l.v (λ x. row_bytes l.n (rows_of l.bits x) x))) × (length l.row ≡ most_vertices)
