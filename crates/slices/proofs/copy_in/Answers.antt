-- `slices::copy_in` meets its contract: after i turns the first i bytes are pasted.
use mathlib.Core.Path.{◌≡◌, sym}
use lib.ListN.{length, length-set}
use lib.Seq.{paste-suc, sets-eq, take-length}
use native.Mathlib.Numerals.{add-one}
use native.Mathlib.Omega.{arith}
use Rattle.slices.proofs.copy_in.Goals as goal

pub loop-i-preserved : goal.loop-i-preserved
loop-i-preserved c =
    let a = c.args in (
      omega arith,
      rw length-set c.loop-i.invariant.1,
      rw (c.loop-i.invariant.2, add-one) (paste-suc a.dst.now a.at a.src.now c.loop-i.i 0 (omega arith) (omega arith)),
    )

pub returns : goal.returns
returns c =
    let a = c.args in
    let e : c.loop-i.i ≡ length a.src.now = omega arith in
    rw (c.loop-i.invariant.2, e, take-length) (sym (sets-eq a.src.now a.dst.now a.at c.requires))
