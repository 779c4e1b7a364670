-- `input_blocks::take_all` meets its contract: the blocks so far went into the journal.
use mathlib.Core.Path.{refl, ◌∙◌}
use native.Mathlib.Omega.{arith}
use borrow.Author.Rules.{rules}
use Rattle.finite.proofs.Fold.{fold_to-none}
use Rattle.state.specs.State.{state_of}
use Rattle.input_blocks.proofs.Taking.{went_next, first_refusal, all-went}
use Rattle.input_blocks.proofs.take_all.Goals as goal

pub loop-number-init : goal.loop-number-init
loop-number-init c = (omega arith, refl, fold_to-none _ _)

pub returns-in_err-take_one : goal.returns-in_err-take_one
returns-in_err-take_one c =
    let a = c.args in
    let both = first_refusal (state_of a.journal.now a.adjacency.now) a.input.now c.loop-number.number (state_of c.loop-number.journal a.adjacency.now) c.loop-number.invariant.2 _ c.block_in.ensures _ _
    (c.take_one.ensures.value, c.take_one.ensures.journal_after) (omega arith) _ c.in_err-take_one.was in
    record { value = search rules ∙ both.0; journal_after = both.1 }

pub loop-number-preserved : goal.loop-number-preserved
loop-number-preserved c =
    let a = c.args in (
      omega arith,
      search rules,
      went_next (state_of a.journal.now a.adjacency.now) a.input.now c.loop-number.number (state_of c.loop-number.journal a.adjacency.now) c.loop-number.invariant.2 _ c.block_in.ensures _ _
          (c.take_one.ensures.value, c.take_one.ensures.journal_after) c.in_ok-take_one.was,
    )

pub returns : goal.returns
returns c =
    let a = c.args in
    let both = all-went (state_of a.journal.now a.adjacency.now) a.input.now c.loop-number.number (state_of c.loop-number.journal a.adjacency.now) (omega arith) c.loop-number.invariant.2 in
    record { value = both.0; journal_after = both.1 }
