-- `text::put_edges` meets its contract: after i turns the lines of the first i edges are written.
use mathlib.Core.Path.{◌≡◌}
use Prim.Native.Nat.{◌+◌}
use lib.ListN.{length}
use lib.Seq.{sets}
use Rattle.finite.specs.Range.{cat_to}
use Rattle.text.specs.Text.{edge_line_at}
use Rattle.text.proofs.put_edges.Given as goal

abbrev pub invariant-loop-v : goal.invariant-loop-v
invariant-loop-v l = (length l.out ≡ length l.initial.out)
    × (l.a ≡ l.at + length (cat_to l.v-index (edge_line_at l.edges)))
    × (l.out ≡ sets l.initial.out l.at (cat_to l.v-index (edge_line_at l.edges)))
