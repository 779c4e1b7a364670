-- `graph6_read::bits::unpack` meets its contract: the bits of the bytes before p are written.
use mathlib.Core.Path.{◌≡◌}
use Prim.Native.Nat.{◌-◌}
use lib.ListN.{get_or}
use lib.Seq.{sets}
use Rattle.finite.specs.Range.{cat_to}
use Rattle.graph6.specs.Format.{offset, bits_of}
use Rattle.graph6_read.proofs.bits.unpack.Given as goal

abbrev pub invariant-loop-p : goal.invariant-loop-p
invariant-loop-p l = l.bits ≡ sets l.initial.bits 0 (cat_to l.p (λ i. bits_of (get_or l.body i 0 - offset)))
