-- `matrix_check::count_degrees` meets its contract: after v turns the degrees of the first v vertices are filled in.
use mathlib.Core.Path.{sym, ◌∙◌}
use native.Mathlib.Omega.{arith}
use Rattle.finite.proofs.Fold.{fill_to-none, fill_to-more}
use Rattle.matrix_check.proofs.count_degrees.Goals as goal

pub loop-v-init : goal.loop-v-init
loop-v-init c = (omega arith, c.requires.3 ∙ sym (fill_to-none _ _))

pub loop-v-preserved : goal.loop-v-preserved
loop-v-preserved c = (omega arith, rw (c.degree_of.ensures, fill_to-more, c.loop-v.invariant.1))
