-- The measure of `swap_log::undoable`: the number of records.
use Rattle.swap_log.proofs.+undoable.Given as goal

abbrev pub decreases-undoable : goal.decreases-undoable
decreases-undoable l = l.m
