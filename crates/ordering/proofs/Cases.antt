-- The cases hold: past the checks 1 and 2 (trying/proofs/Cases.antt) they are computed.
-- Assumes nothing.
use mathlib.Core.Path.{◌≡◌, refl, ◌∙◌}
use mathlib.Core.Bool.{true}
use Rattle.finite.specs.Range.{δ, sum_to, all_to, low_from, lowest, cat_to, iterate}
use Rattle.graph.specs.Graph.{jdm, edges}
use Rattle.trying.proofs.Cases.{all_rest, all-rest}
use Rattle.ordering.specs.Cases.{ordered, OrderedHold, with_isolated, WithIsolatedHold, with_empty, WithEmptyHold}

ordered-computed : all_rest ordered ≡ true
unfolding δ sum_to all_to low_from lowest cat_to iterate jdm edges
ordered-computed = refl

with_isolated-computed : all_rest with_isolated ≡ true
unfolding δ sum_to all_to low_from lowest cat_to iterate jdm edges
with_isolated-computed = refl

with_empty-computed : all_rest with_empty ≡ true
unfolding δ sum_to all_to low_from lowest cat_to iterate jdm edges
with_empty-computed = refl

pub ordered-hold : OrderedHold
ordered-hold = all-rest ordered ∙ ordered-computed

pub with_isolated-hold : WithIsolatedHold
with_isolated-hold = all-rest with_isolated ∙ with_isolated-computed

pub with_empty-hold : WithEmptyHold
with_empty-hold = all-rest with_empty ∙ with_empty-computed
