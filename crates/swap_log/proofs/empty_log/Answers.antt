-- `swap_log::empty_log` meets its contract.
use mathlib.Core.Path.{sym, ap, ◌∙◌}
use Prim.Native.Nat.{ℕ}
use lib.ListN.{replicate}
use Rattle.swap_log.proofs.Valid.{none_is_empty}
use Rattle.swap_log.proofs.empty_log.Goals as goal

pub returns-then-swap_count-eq0 : goal.returns-then-swap_count-eq0
returns-then-swap_count-eq0 c = none_is_empty c.args.log.now c.requires.0 c.requires.1 (sym c.swap_count.ensures.0 ∙ c.if-swap_count-eq0.true)

pub returns : goal.returns
returns c = c.clear_bytes.ensures ∙ ap (λ (n : ℕ). replicate n 0) c.requires.0
