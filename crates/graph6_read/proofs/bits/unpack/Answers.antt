-- `graph6_read::bits::unpack` meets its contract: the bits of the bytes before p are written.
use mathlib.Core.Path.{refl}
use mathlib.Core.List.{List}
use Prim.Native.Nat.{ℕ, ◌-◌}
use native.Mathlib.Nat.{zero-add}
use lib.ListN.{get_or}
use Rattle.finite.proofs.Fold.{cat_to-none, cat_to-more, sets-append}
use Rattle.graph6.specs.Format.{offset, bits_of}
use Rattle.finite.proofs.Blocks.{sixes_length}
use Rattle.graph6_read.proofs.bits.unpack.Goals as goal

pub loop-p-init : goal.loop-p-init
loop-p-init c = rw cat_to-none refl

pub loop-p-preserved : goal.loop-p-preserved
loop-p-preserved c =
    let F : ℕ → List ℕ = λ i. bits_of (get_or c.args.body.now i 0 - offset) in
    rw (cat_to-more F c.loop-p.p, sets-append, zero-add, sixes_length F (λ i. refl) c.loop-p.p, ← c.loop-p.invariant) (rw c.six_of.ensures at c.put_bits.ensures)
