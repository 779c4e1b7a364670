-- `finite::first_passing` meets its contract: each number before i was tested, and failed.
use mathlib.Core.Path.{sym, ◌∙◌}
use native.Mathlib.Omega.{arith}
use Rattle.finite.proofs.Lowest.{lowest-only, lowest-none}
use Rattle.finite.proofs.first_passing.Goals as goal

pub returns-then-passes : goal.returns-then-passes
returns-then-passes g c p h =
    let a = c.args.from in
    let b = c.args.to in
    let i = c.loop-i.i in
    let k =
    lowest-only a b p (omega arith) i c.loop-i.invariant.0 (omega arith)
    (sym (h i _ c.loop-i.invariant.0 (omega arith) c.passes.ensures) ∙ c.if-passes.true)
    (λ j l m. sym (h j _ l (omega arith) (c.loop-i.invariant.1 j l m))) in
    (sym k, rw k (omega arith))

pub returns : goal.returns
returns g c p h = lowest-none c.args.from c.args.to p c.requires.ordered (λ j l m. sym (h j _ l m (c.loop-i.invariant.1 j l (omega arith))))
