-- How the input is cut into blocks (specs/Blocks.antt `InputCut`).
-- Assumes nothing.
use mathlib.Core.Path.{◌≡◌, refl, sym, ap, ◌∙◌}
use mathlib.Core.List.{List, ◌++◌}
use Prim.Native.Nat.{ℕ, zero, suc, ◌+◌, ◌*◌}
use native.Mathlib.Numerals.{add-one}
use native.Mathlib.Omega.{arith}
use lib.ListN.{take}
use lib.Seq.{take-add, take_all}
use Rattle.finite.specs.Range.{cat_to}
use Rattle.finite.proofs.Fold.{cat_to-none, cat_to-more}
use Rattle.slices.proofs.Part.{length_part}
use Rattle.table.specs.Block.{block_most}
use Rattle.input_blocks.specs.Blocks.{blocks_in, block_in, InputCut}

-- the first m blocks are the input's first bytes
first_blocks : (input : List ℕ) (m : ℕ) → cat_to m (block_in input) ≡ take (block_most * m) input
first_blocks input zero = cat_to-none (block_in input)
first_blocks input (suc m) =
    let e : block_most * m + block_most ≡ block_most * (m + 1) = omega arith in
    rw (← (add-one m))
    (cat_to-more (block_in input) m
    ∙ ap (λ (x : List ℕ). x ++ block_in input m) (first_blocks input m)
    ∙ sym (take-add (block_most * m) block_most input)
    ∙ ap (λ (n : ℕ). take n input) e)

pub input_cut : InputCut
input_cut =
    record {
      none = refl;
      full = λ input m e. omega (arith, e);
      not_empty = λ input i l. omega (arith, length_part block_most (block_most * i) input);
      together = λ input. first_blocks input (blocks_in input) ∙ take_all (block_most * blocks_in input) input (omega arith);
    }
