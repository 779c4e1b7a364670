-- `layout::edges_wanted` meets its contract: after k turns sum is that of the first k classes.
use mathlib.Core.Path.{◌≡◌}
use mathlib.Core.List.{List}
use Prim.Native.Nat.{ℕ, ◌≤◌, ◌<◌, ◌*◌}
use native.Mathlib.Nat.{mul-le-mul}
use native.Mathlib.Omega.{arith}
use Rattle.finite.proofs.Sum.{sum_to-none, sum_to-more, sum_to-term}
use Rattle.graph.specs.Numbering.{total}
use Rattle.graph.specs.Tests.{most_classes, class_degree}
use Rattle.layout.specs.Layout.{most_vertices}
use Rattle.layout.specs.Inner.Arrays.{count_in}
use Rattle.layout.proofs.edges_wanted.Goals as goal

-- what a class adds is little
product : (counts : List ℕ) → total most_classes (count_in counts) ≤ most_vertices → (k d : ℕ) → k < most_classes → d ≡ class_degree k
    → count_in counts k * d ≤ most_vertices * most_classes
product counts few k d l e =
    let a : count_in counts k ≤ most_vertices = omega (arith, sum_to-term most_classes (count_in counts) k l, few) in
    let b : d ≤ most_classes = omega (arith, e) in
    mul-le-mul a b

pub loop-k-init : goal.loop-k-init
loop-k-init c = simp sum_to-none (omega arith)

pub overflow_mul-sum : goal.overflow_mul-sum
overflow_mul-sum c = omega (arith, product c.args.counts.now c.requires c.loop-k.k _ (omega arith) c.class_degree.ensures)

pub overflow_add-sum : goal.overflow_add-sum
overflow_add-sum c = omega (arith, product c.args.counts.now c.requires c.loop-k.k _ (omega arith) c.class_degree.ensures)

pub loop-k-preserved : goal.loop-k-preserved
loop-k-preserved c =
    let counts = c.args.counts.now in
    let few = product counts c.requires c.loop-k.k _ (omega arith) c.class_degree.ensures in
    let more = sum_to-more (λ k. count_in counts k * class_degree k) c.loop-k.k in (
      omega arith,
      rw (more, c.loop-k.invariant.1, c.class_degree.ensures),
      omega (arith, few),
    )
