-- `options::word_number` meets its contract: so far there were digits alone, and their number is below 2^32.
use Rattle.std.proofs.Common.{◌≡◌, refl, sym, ◌∙◌, ◌+◌, ◌-◌, ◌*◌, ◌≤◌, None, get_or, rules}
use native.Mathlib.Omega.{arith}
use Rattle.finite.proofs.All.{all_to-none, all_to-more, and_both}
use Rattle.finite.proofs.Fold.{fold_to-none}
use Rattle.options.specs.Options.{number_end}
use Rattle.options.proofs.Digits.{value_next, none_other, none_large}
use Rattle.options.proofs.word_number.Goals as goal

pub loop-b-init : goal.loop-b-init
loop-b-init c = (sym (fold_to-none _ _), omega arith, all_to-none _)

pub returns-then-not-is_digit : goal.returns-then-not-is_digit
returns-then-not-is_digit c = none_other c.args.word.now c.loop-b.b-index (omega arith) (sym c.is_digit.ensures ∙ c.if-not-is_digit.true)

pub returns-in_err-checked_mul : goal.returns-in_err-checked_mul
returns-in_err-checked_mul c =
    let word = c.args.word.now in
    let i = c.loop-b.b-index in
    let next = value_next word i c.loop-b.value (get_or word i 0) c.loop-b.invariant.0 refl in
    let large : number_end ≤ c.loop-b.value * 10 = omega (arith, c.in_err-checked_mul.ensures) in
    let none : c.from_residual.result ≡ None = search rules in
    none ∙ none_large word (i + 1) (omega arith) (omega (arith, next, large))

pub returns-in_err-value : goal.returns-in_err-value
returns-in_err-value c =
    let word = c.args.word.now in
    let i = c.loop-b.b-index in
    let next = value_next word i c.loop-b.value (get_or word i 0) c.loop-b.invariant.0 refl in
    let large : number_end ≤ c.loop-b.value * 10 + (get_or word i 0 - 48) = grind (arith, c.in_ok-checked_mul.ensures, c.in_err-value.ensures, c.from.ensures) in
    let none : c.from_residual-in_err-value.result ≡ None = search rules in
    none ∙ none_large word (i + 1) (omega arith) (omega (arith, next, large))

pub loop-b-preserved : goal.loop-b-preserved
loop-b-preserved c =
    let word = c.args.word.now in
    let i = c.loop-b.b-index in
    let next = value_next word i c.loop-b.value (get_or word i 0) c.loop-b.invariant.0 refl in
    let read : c.in_ok-value.value ≡ c.loop-b.value * 10 + (get_or word i 0 - 48) = grind (arith, c.in_ok-checked_mul.ensures, c.in_ok-value.ensures, c.from.ensures) in (
      read ∙ next,
      grind (arith, c.in_ok-checked_mul.ensures, c.in_ok-value.ensures, read),
      all_to-more _ i ∙ and_both _ _ c.loop-b.invariant.2 (sym c.is_digit.ensures ∙ c.if-not-is_digit.false),
    )
