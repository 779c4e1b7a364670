-- The drawings hold: past the checks 1 and 2 (trying/proofs/Cases.antt) they are computed.
-- Assumes nothing.
use mathlib.Core.Path.{◌≡◌, refl, ◌∙◌}
use mathlib.Core.Bool.{true}
use Rattle.finite.specs.Range.{δ, sum_to, all_to, low_from, lowest, cat_to, iterate}
use Rattle.graph.specs.Graph.{jdm, edges}
use Rattle.trying.proofs.Cases.{all_rest, all-rest}
use Rattle.ordering.specs.Drawings.{drawings, DrawingsHold}

drawings-computed : all_rest drawings ≡ true
unfolding δ sum_to all_to low_from lowest cat_to iterate jdm edges
drawings-computed = refl

pub drawings-hold : DrawingsHold
drawings-hold = all-rest drawings ∙ drawings-computed
