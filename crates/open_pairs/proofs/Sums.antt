-- The sums over eight rows: how many open pairs there are before a multiple of eight, and one count changed.
-- Assumes nothing.
use mathlib.Core.Path.{◌≡◌, sym, ◌∙◌}
use mathlib.Core.List.{List, [], ◌∷◌}
use Prim.Native.Nat.{ℕ, zero, suc, ◌+◌, ◌-◌, ◌*◌, ◌/◌, ◌≤◌, ◌<◌}
use native.Mathlib.Numerals.{add-one}
use native.Mathlib.Decide.{ℕ_discrete}
use native.Mathlib.Omega.{arith}
use lib.ListN.{length, get_or, set, replicate, length-set, length-replicate}
use Rattle.std.specs.Prelude.{fold, sum}
use lib.Seq.{get_or-set_same, get_or-set_other}
use Rattle.slices.proofs.Zero.{get_or-zeros}
use Rattle.finite.specs.Range.{sum_to}
use Rattle.finite.proofs.Sum.{sum_to-none, sum_to-more, sum_to-cong, sum_to-mono, sum_to-const, sum_to-zero, sum_to-term, sum_to-split, sum_to-change}
use Rattle.adjacency.specs.Adjacency.{side}
use Rattle.open_pairs.specs.Inner.Rows.{rows_in_sum, sum_count, open_to, Summed}

module _ {pairs sums : List ℕ} (s : Summed pairs sums) where
  -- eight rows have at most 1,600 open pairs
  pub sum-most : (b : ℕ) → b < sum_count → get_or sums b 0 ≤ rows_in_sum * side
  sum-most b h =
      let f : ℕ → ℕ = λ i. get_or pairs (rows_in_sum * b + i) 0 in
      omega (arith, s.summed b h, sum_to-mono rows_in_sum f (λ i. side) (λ i l. s.few (rows_in_sum * b + i)), sum_to-const side rows_in_sum)

  -- the rows before those of the next sum
  pub open_block : (b : ℕ) → b < sum_count → open_to pairs (rows_in_sum * (b + 1)) ≡ open_to pairs (rows_in_sum * b) + get_or sums b 0
  open_block b h =
      let e : rows_in_sum * (b + 1) ≡ rows_in_sum * b + rows_in_sum = omega arith in
      rw (e, s.summed b h) (sum_to-split (rows_in_sum * b) rows_in_sum (λ i. get_or pairs i 0))

  -- the sums before the m-th, together
  pub open_blocks : (m : ℕ) → m ≤ sum_count → sum_to m (λ i. get_or sums i 0) ≡ open_to pairs (rows_in_sum * m)
  open_blocks zero h = sum_to-none (λ i. get_or sums i 0) ∙ sym (sum_to-none (λ i. get_or pairs i 0))
  open_blocks (suc m) h = rw (← (add-one m), sum_to-more, open_blocks m (omega arith)) (sym (open_block m h))

  -- the rows before the j-th of the b-th sum, where r are before the j-th in its sum, and q more are at the position
  pub row_found : (b j r q position : ℕ) → b < sum_count → sum_to b (λ i. get_or sums i 0) + r ≡ position
      → sum_to j (λ i. get_or pairs (rows_in_sum * b + i) 0) + q ≡ r → open_to pairs (rows_in_sum * b + j) + q ≡ position
  row_found b j r q position l e f = omega (arith, open_blocks b (omega arith), sum_to-split (rows_in_sum * b) j (λ i. get_or pairs i 0))

  module _ (v : ℕ) (h : v < side) where
    -- row v is the j-th of its sum
    j : ℕ
    j = v - rows_in_sum * (v / rows_in_sum)

    placed : rows_in_sum * (v / rows_in_sum) + j ≡ v
    unfolding j
    placed = omega arith

    inside : j < rows_in_sum
    unfolding j
    inside = omega arith

    pub count_in-sum : get_or pairs v 0 ≤ get_or sums (v / rows_in_sum) 0
    count_in-sum =
        rw (s.summed (v / rows_in_sum) (omega arith)) (rw placed at (sum_to-term rows_in_sum (λ i. get_or pairs (rows_in_sum * (v / rows_in_sum) + i) 0) j inside))

    -- row v has m open pairs now
    module _ (m : ℕ) (l : m ≤ side) where
      few : (w : ℕ) → Dec (w ≡ v) → get_or (set pairs v m) w 0 ≤ side
      few w (yes e) = rw (e, get_or-set_same pairs v m 0 (rw s.sized h)) l
      few w (no e) = rw (get_or-set_other pairs v w m 0 e) (s.few w)

      at : (b : ℕ) → b < sum_count → Dec (b ≡ v / rows_in_sum)
          → get_or (set sums (v / rows_in_sum) (get_or sums (v / rows_in_sum) 0 - get_or pairs v 0 + m)) b 0
          ≡ sum_to rows_in_sum (λ i. get_or (set pairs v m) (rows_in_sum * b + i) 0)
      at b k (yes e) =
          let q = v / rows_in_sum in
          let f : ℕ → ℕ = λ i. get_or (set pairs v m) (rows_in_sum * q + i) 0 in
          let g : ℕ → ℕ = λ i. get_or pairs (rows_in_sum * q + i) 0 in
          rw (e, get_or-set_same sums q (get_or sums q 0 - get_or pairs v 0 + m) 0 (rw s.sums_sized (omega arith)))
          (omega (
            arith,
            count_in-sum,
            s.summed q (omega arith),
            get_or-set_same pairs v m 0 (rw s.sized h),
            rw placed at (sum_to-change rows_in_sum j f g inside (λ i n. get_or-set_other pairs v (rows_in_sum * q + i) m 0 (omega (arith, placed)))),
          ))
      at b k (no e) =
          get_or-set_other sums (v / rows_in_sum) b (get_or sums (v / rows_in_sum) 0 - get_or pairs v 0 + m) 0 e
          ∙ s.summed b k
          ∙ sum_to-cong rows_in_sum (λ i. get_or pairs (rows_in_sum * b + i) 0) (λ i. get_or (set pairs v m) (rows_in_sum * b + i) 0)
          (λ i n. sym (get_or-set_other pairs v (rows_in_sum * b + i) m 0 (omega arith)))

      pub summed_set : Summed (set pairs v m) (set sums (v / rows_in_sum) (get_or sums (v / rows_in_sum) 0 - get_or pairs v 0 + m))
      summed_set = record {
        sized = rw length-set s.sized;
        sums_sized = rw length-set s.sums_sized;
        few = λ w. few w (ℕ_discrete w v);
        summed = λ b k. at b k (ℕ_discrete b (v / rows_in_sum));
      }

-- a list's sum is that over its places
sum_from : (a : ℕ) (xs : List ℕ) → fold (λ m x. m + x) a xs ≡ a + sum_to (length xs) (λ i. get_or xs i 0)
sum_from a [] = rw sum_to-none (omega arith)
sum_from a (x ∷ xs) =
    let n = length xs in
    let f : ℕ → ℕ = λ i. get_or (x ∷ xs) i 0 in
    let e : suc n ≡ 1 + n = omega arith in
    let later = sum_to-cong n (λ i. f (1 + i)) (λ i. get_or xs i 0) (λ i l. let d : 1 + i ≡ suc i = omega arith in rw d) in
    sum_from (a + x) xs ∙ rw e (omega (arith, sum_to-split 1 n f, sum_to-more f 0, sum_to-none f, later))

-- the open pairs are the sum of the sums
pub sums_total : {pairs sums : List ℕ} → Summed pairs sums → (sum sums ≡ open_to pairs side) × (open_to pairs side ≤ side * side)
sums_total {pairs} {sums} s = (
  omega (arith, rw s.sums_sized at (sum_from 0 sums), open_blocks s sum_count (omega arith)),
  omega (arith, sum_to-mono side (λ i. get_or pairs i 0) (λ i. side) (λ i l. s.few i), sum_to-const side side),
)

-- no row has an open pair
pub none_summed : Summed (replicate side 0) (replicate sum_count 0)
none_summed =
    record {
      sized = length-replicate {A = ℕ} side 0;
      sums_sized = length-replicate {A = ℕ} sum_count 0;
      few = λ v. omega (arith, get_or-zeros side v);
      summed = λ b h.
          get_or-zeros sum_count b
          ∙ sym (sum_to-zero rows_in_sum (λ i. get_or (replicate side 0) (rows_in_sum * b + i) 0) (λ i l. get_or-zeros side (rows_in_sum * b + i)));
    }
