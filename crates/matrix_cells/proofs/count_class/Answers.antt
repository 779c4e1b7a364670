-- `matrix_cells::count_class` meets its contract: the vertices below w are counted, for each class from k on.
use mathlib.Core.Path.{sym, ap, ◌∙◌}
use Prim.Native.Nat.{ℕ, ◌<◌, ◌+◌, ◌*◌}
use native.Mathlib.Omega.{arith}
use lib.ListN.{length, get_or, length-set}
use Rattle.finite.specs.Range.{δ}
use Rattle.finite.proofs.Sum.{sum_to-more}
use Rattle.layout.specs.Inner.Arrays.{class_in}
use Rattle.adjacency.specs.Adjacency.{side}
use Rattle.matrix_cells.proofs.Sums.{more_at, more_at_most, class_none}
use Rattle.matrix_cells.proofs.count_class.Goals as goal

pub loop-w-init : goal.loop-w-init
loop-w-init c =
    let cls = class_in c.args.classes.now in
    let row : ℕ → ℕ = λ w. get_or c.args.sums.now (c.args.k * side + w) 0 in (
      omega arith,
      c.requires.5,
      λ l h. c.requires.6 l ∙ sym (class_none c.args.start l cls row (λ w i. omega (arith, c.requires.4 w i))),
      λ l. omega (arith, c.requires.6 l),
    )

pub loop-w-preserved : goal.loop-w-preserved
loop-w-preserved c =
    let cls = class_in c.args.classes.now in
    let row : ℕ → ℕ = λ j. get_or c.args.sums.now (c.args.k * side + j) 0 in
    let q : cls c.loop-w.w < length c.loop-w.have = omega (arith, c.requires.2 c.loop-w.w (omega arith)) in
    let a = more_at c.loop-w.have (cls c.loop-w.w) (row c.loop-w.w) q in
    let m = more_at_most c.loop-w.have (cls c.loop-w.w) (row c.loop-w.w) (255 * c.loop-w.w) q c.loop-w.invariant.3 in
    rw (c.from.ensures, c.from-l.ensures) (
      omega arith,
      length-set c.loop-w.have (cls c.loop-w.w) (get_or c.loop-w.have (cls c.loop-w.w) 0 + row c.loop-w.w) ∙ c.loop-w.invariant.1,
      λ j h. rw sum_to-more (a j ∙ ap (λ (x : ℕ). x + δ (cls c.loop-w.w) j * row c.loop-w.w) (c.loop-w.invariant.2 j h)),
      λ j. omega (arith, m j),
    )
