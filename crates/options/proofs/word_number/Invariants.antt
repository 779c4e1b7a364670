-- `options::word_number` meets its contract: so far there were digits alone, and their number is below 2^32.
use mathlib.Core.Path.{◌≡◌}
use mathlib.Core.Bool.{true}
use Prim.Native.Nat.{◌<◌}
use Rattle.finite.specs.Range.{all_to}
use Rattle.options.specs.Options.{number_end}
use Rattle.options.proofs.Digits.{digit_at, value_to}
use Rattle.options.proofs.word_number.Given as goal

abbrev pub invariant-loop-b : goal.invariant-loop-b
invariant-loop-b l = (l.value ≡ value_to l.word l.b-index) × (l.value < number_end) × (all_to l.b-index (digit_at l.word) ≡ true)
