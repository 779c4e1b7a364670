-- `graph6_read::rows::gather_row` meets its contract: the bits of the columns before w are gathered.
use mathlib.Core.Path.{◌≡◌}
use lib.ListN.{length}
use Rattle.layout.specs.Layout.{most_vertices}
use Rattle.graph6_read.specs.Inner.Bits.{HasRow}
use Rattle.graph6_read.proofs.rows.gather_row.Given as goal

abbrev pub invariant-loop-w : goal.invariant-loop-w
invariant-loop-w l = HasRow l.bits l.w l.v l.row × (length l.row ≡ most_vertices)
