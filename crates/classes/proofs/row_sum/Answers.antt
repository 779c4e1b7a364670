-- `classes::row_sum` meets its contract.
use mathlib.Core.Path.{◌≡◌, ap, ◌∙◌}
use Prim.Native.Nat.{ℕ, ◌+◌, ◌-◌, ◌*◌, ◌≤◌}
use native.Mathlib.Nat.{add_assoc}
use native.Mathlib.Omega.{arith}
use lib.ListN.{length, get_or}
use Rattle.finite.proofs.Sum.{sum_to-cong}
use Rattle.adjacency.specs.Adjacency.{side, edge}
use Rattle.slices.proofs.PartSum.{part_length, part_at, part-sum}
use Rattle.classes.proofs.row_sum.Goals as goal

pub ones-requires : goal.ones-requires
ones-requires c =
    let x = c.args in
    let g = x.adjacency.now in
    let from = x.v * side + x.left in
    let n = x.right - x.left in
    let e : (x.v * side + x.right) - from ≡ n = omega arith in
    let f : from + n ≤ length g = omega arith in
    rw (e, part_length g from n f) (
      omega arith,
      λ i l. rw (part_at g from n f i l, add_assoc (x.v * side) x.left i) (c.requires.4 (x.left + i) (omega arith)),
    )

pub returns : goal.returns
returns c =
    let x = c.args in
    let g = x.adjacency.now in
    let from = x.v * side + x.left in
    let n = x.right - x.left in
    let e : (x.v * side + x.right) - from ≡ n = omega arith in
    let f : from + n ≤ length g = omega arith in
    let p = rw e at c.ones.ensures in (
      p.0 ∙ part-sum g from n f ∙ sum_to-cong n (λ i. get_or g (from + i) 0) (λ i. edge g x.v (x.left + i))
          (λ i l. ap (λ (m : ℕ). get_or g m 0) (add_assoc (x.v * side) x.left i)),
      omega (arith, p.1, part_length g from n f),
    )
