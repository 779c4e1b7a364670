-- The cases hold: past the checks 1 and 2 (trying/proofs/Cases.antt) they are computed.
-- Assumes nothing.
use mathlib.Core.Path.{◌≡◌, refl, ◌∙◌}
use mathlib.Core.Bool.{true}
use Rattle.finite.specs.Range.{δ, sum_to, all_to, low_from, lowest, cat_to, iterate}
use Rattle.graph.specs.Graph.{jdm, edges}
use Rattle.trying.proofs.Cases.{all_rest, all-rest}
use Rattle.worked.specs.Cases.{starred, StarredHold, moved, MovedHold, picked, PickedHold}

starred-computed : all_rest starred ≡ true
unfolding δ sum_to all_to low_from lowest cat_to iterate jdm edges
starred-computed = refl

moved-computed : all_rest moved ≡ true
unfolding δ sum_to all_to low_from lowest cat_to iterate jdm edges
moved-computed = refl

picked-computed : all_rest picked ≡ true
unfolding δ sum_to all_to low_from lowest cat_to iterate jdm edges
picked-computed = refl

pub starred-hold : StarredHold
starred-hold = all-rest starred ∙ starred-computed

pub moved-hold : MovedHold
moved-hold = all-rest moved ∙ moved-computed

pub picked-hold : PickedHold
picked-hold = all-rest picked ∙ picked-computed
