-- The vertices of a join's switches are bytes, as what stands for one that was not needed.
-- Assumes nothing.
use mathlib.Core.Path.{◌≡◌}
use mathlib.Core.List.{List}
use Prim.Native.Nat.{ℕ}
use native.Mathlib.Omega.{arith}
use Rattle.answer.specs.Inner.Moved.{SwitchBelow, Each}
use Rattle.answer.specs.Switches.{no_switches, first_switch, second_switch}
use Rattle.answer.specs.declared.switches.Switch.{Switch}
use Rattle.answer.specs.declared.switches.Switches.{Switches}
use Rattle.answer.specs.declared.switches.Switches.TheVariants.{None, One, Two}
use Rattle.join_records.specs.Inner.Bytes.{InBytes}
use Rattle.join_bytes.specs.Join.{join_switches}
use Rattle.join_bytes.specs.Inner.Joinable.{Joinable}
use Rattle.join_bytes.proofs.Untouched.{switches_below}

module _ {n : ℕ} {cls : ℕ → ℕ} {g : List ℕ} {v w : ℕ} (j : Joinable n cls g v w) where
  pub switches_bytes : {s : Switches} → s ≡ join_switches n cls g v w → InBytes (first_switch s) × InBytes (second_switch s)
  switches_bytes e = rw e (go (join_switches n cls g v w) (switches_below j))
    where
      made : {x : Switch} → SwitchBelow n x → InBytes x
      made l = record { a = omega (arith, l.0, j.few); b = omega (arith, l.1, j.few); t = omega (arith, l.2, j.few) }

      none : InBytes no_switches
      none = record { a = omega arith; b = omega arith; t = omega arith }

      go : (s : Switches) → Each (SwitchBelow n) s → InBytes (first_switch s) × InBytes (second_switch s)
      go None l = (none, none)
      go (One x) l = (made l, none)
      go (Two x y) l = (made l.0, made l.1)
