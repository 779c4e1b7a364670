-- A part of a list: its length, the sum of its elements, and the part from a place to the end.
-- Assumes nothing.
use mathlib.Core.Path.{◌≡◌}
use mathlib.Core.List.{List}
use Prim.Native.Nat.{ℕ, ◌+◌, ◌*◌, ◌-◌, ◌≤◌, ◌<◌}
use native.Mathlib.Omega.{arith}
use lib.ListN.{length, get_or, take, drop, length-take, length-drop}
use lib.Seq.{length-take-le, get_or-take, get_or-drop, take_all}
use Rattle.finite.specs.Range.{sum_to}
use Rattle.finite.proofs.Sum.{sum_to-cong, sum_to-mono, sum_to-const}

module _ (g : List ℕ) (from n : ℕ) (fits : from + n ≤ length g) where
  pub part_length : length (take n (drop from g)) ≡ n
  part_length = simp (length-take, length-drop) (omega arith)

  pub part_at : (i : ℕ) → i < n → get_or (take n (drop from g)) i 0 ≡ get_or g (from + i) 0
  part_at i h = rw (get_or-take, get_or-drop)

  pub part-sum : sum_to (length (take n (drop from g))) (λ i. get_or (take n (drop from g)) i 0) ≡ sum_to n (λ i. get_or g (from + i) 0)
  part-sum = rw part_length (sum_to-cong n (λ i. get_or (take n (drop from g)) i 0) (λ i. get_or g (from + i) 0) part_at)

  -- bytes are at most 255 each
  pub part-most : ((p : ℕ) → get_or g p 0 < 256) → sum_to n (λ i. get_or g (from + i) 0) ≤ 255 * n
  part-most byte =
      omega (arith, sum_to-mono n (λ i. get_or g (from + i) 0) (λ i. 255) (λ i h. omega (arith, byte (from + i))), sum_to-const 255 n)

-- the part from the start to a place
module _ (g : List ℕ) (n : ℕ) (fits : n ≤ length g) where
  pub first_length : length (take n g) ≡ n
  first_length = length-take-le n g fits

  pub first_sum : sum_to (length (take n g)) (λ i. get_or (take n g) i 0) ≡ sum_to n (λ i. get_or g i 0)
  first_sum = rw first_length (sum_to-cong n (λ i. get_or (take n g) i 0) (λ i. get_or g i 0) (λ i h. get_or-take n g i 0 h))

-- the part from a place to the end
pub rest : (g : List ℕ) (from : ℕ) → take (length g - from) (drop from g) ≡ drop from g
rest g from = take_all (length g - from) (drop from g) (rw length-drop (omega arith))
