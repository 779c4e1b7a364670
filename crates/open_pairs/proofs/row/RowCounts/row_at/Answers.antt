-- `open_pairs::row::RowCounts::row_at` meets its contract.
use mathlib.Core.Path.{◌≡◌}
use Prim.Native.Nat.{◌+◌, ◌-◌, ◌*◌, ◌≤◌, ◌<◌}
use native.Mathlib.Omega.{arith}
use lib.ListN.{length, get_or, take, drop}
use Rattle.slices.proofs.PartSum.{part_length, part_at, part-sum}
use Rattle.finite.proofs.Sum.{sum_to-cong}
use Rattle.open_pairs.specs.Inner.Rows.{rows_in_sum, sum_count}
use Rattle.open_pairs.proofs.Sums.{open_blocks, row_found}
use Rattle.open_pairs.proofs.row.RowCounts.row_at.Goals as goal

pub seek-block-requires : goal.seek-block-requires
seek-block-requires c =
    let p = c.self.invariant in
    rw (p.sums_sized, open_blocks p sum_count (omega arith), c.self.view_is) c.requires

pub seek-row-requires : goal.seek-row-requires
seek-row-requires c =
    let p = c.self.invariant in
    let b = c.seek-block.result.at in
    let from = rows_in_sum * b in
    let n = from + rows_in_sum - from in
    let e : n ≡ rows_in_sum = omega arith in
    let h : from + n ≤ length c.self.inside.pairs = omega (arith, p.sized) in
    rw (part-sum c.self.inside.pairs from n h, e) (rw (p.summed b (omega arith)) at c.seek-block.ensures.2)

pub returns : goal.returns
returns c =
    let p = c.self.invariant in
    let pairs = c.self.inside.pairs in
    let b = c.seek-block.result.at in
    let j = c.seek-row.result.at in
    let from = rows_in_sum * b in
    let n = from + rows_in_sum - from in
    let h : from + n ≤ length pairs = omega (arith, p.sized) in
    let part = take n (drop from pairs) in
    let l : j < n = omega (arith, c.seek-row.ensures.0, part_length pairs from n h) in
    let cut = sum_to-cong j (λ i. get_or part i 0) (λ i. get_or pairs (from + i) 0) (λ i m. part_at pairs from n h i (omega arith)) in (
      omega (arith, p.sums_sized, c.seek-block.ensures.0),
      rw c.self.view_is at (row_found p b j c.seek-block.result.rest c.seek-row.result.rest c.args.position (omega (arith, p.sums_sized, c.seek-block.ensures.0)) c.seek-block.ensures.1 (rw cut at c.seek-row.ensures.1)),
      rw (part_at pairs from n h j l, c.self.view_is) at c.seek-row.ensures.2,
    )
