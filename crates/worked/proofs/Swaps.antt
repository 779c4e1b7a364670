-- The swaps hold: past the checks 1 and 2 (trying/proofs/Cases.antt) they are computed.
-- Assumes nothing.
use mathlib.Core.Path.{◌≡◌, refl, ◌∙◌}
use mathlib.Core.Bool.{true}
use Rattle.finite.specs.Range.{δ, sum_to, all_to, low_from, lowest, cat_to, iterate}
use Rattle.graph.specs.Graph.{jdm, edges}
use Rattle.trying.proofs.Cases.{logs_rest, logs-rest}
use Rattle.worked.specs.Swaps.{swaps, SwapsHold}

swaps-computed : logs_rest swaps ≡ true
unfolding δ sum_to all_to low_from lowest cat_to iterate jdm edges
swaps-computed = refl

pub swaps-hold : SwapsHold
swaps-hold = logs-rest swaps ∙ swaps-computed
