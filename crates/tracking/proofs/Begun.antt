-- Everything is counted where the cells are, and then all rows.
-- Assumes nothing.
use mathlib.Core.Path.{◌≡◌, ◌∙◌}
use mathlib.Core.List.{List}
use Prim.Native.Nat.{ℕ}
use native.Mathlib.Omega.{arith}
use lib.ListN.{replicate, length-replicate}
use Rattle.slices.proofs.Zero.{get_or-zeros}
use Rattle.table.specs.Inner.Cells.{cells_size}
use Rattle.adjacency.specs.Adjacency.{side}
use Rattle.open_pairs.specs.Inner.Refresh.{refresh_range}
use Rattle.open_pairs.proofs.Refreshed.{range_else, range_length, range_right}
use Rattle.progress.specs.Inner.Work.{Arranged}
use Rattle.tracking.specs.Inner.Track.{Counted, ClassArray, Tracked}

pub tracked_first : {n : ℕ} {cells starts classes g have full pairs : List ℕ} → Arranged n starts → ClassArray n starts classes → Counted cells_size n cells starts g have full
    → pairs ≡ refresh_range n classes g full 0 n (replicate side 0) → Tracked n cells starts classes g have full pairs
tracked_first {n} {cells} {starts} {classes} {g} {have} {full} arranged classed counted e =
    record {
      arranged = arranged;
      classed = classed;
      counted = counted;
      sized = rw e (range_length n classes g full 0 n (replicate side 0) ∙ length-replicate {A = ℕ} side 0);
      rows = λ v vn.
          rw e
          (range_right n classes g full v 0 n (replicate side 0)
          (omega (arith, length-replicate {A = ℕ} side 0, arranged.few)) (λ outside. absurd (outside (omega arith) vn)));
      behind = λ v h. rw e (range_else n classes g full v 0 n (replicate side 0) h ∙ get_or-zeros side v);
    }
