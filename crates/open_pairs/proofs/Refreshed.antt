-- Rows counted anew are right, and the others stay as they are.
-- Assumes nothing.
use mathlib.Core.Path.{◌≡◌, refl, ◌∙◌}
use mathlib.Core.List.{List}
use mathlib.Core.Logic.{◌≢◌}
use Prim.Native.Nat.{ℕ, zero, suc, ◌+◌, ◌-◌, ◌≤◌, ◌<◌, min}
use native.Mathlib.Decide.{ℕ_discrete, dec_lt}
use native.Mathlib.Omega.{arith}
use lib.ListN.{length, get_or, length-set}
use lib.Seq.{get_or-set_same, get_or-set_other}
use Rattle.finite.specs.Range.{fold_to}
use Rattle.answer.specs.Inner.Moved.{RowApart, Each}
use Rattle.answer.specs.declared.switches.Switch.{Switch}
use Rattle.answer.specs.declared.switches.Switches.{Switches}
use Rattle.answer.specs.declared.switches.Switches.TheVariants.{None, One, Two}
use Rattle.open_pairs.specs.Inner.Rows.{free_to}
use Rattle.open_pairs.specs.Inner.Refresh.{refresh_row, refresh_range, refresh_switch, refresh_switches}

module _ (n : ℕ) (classes g full : List ℕ) where
  -- row z is counted as it is
  abbrev pub Right : ℕ → List ℕ → Type 0
  Right z pairs = get_or pairs z 0 ≡ free_to g full (get_or classes z 0) z n

  -- each of these keeps the length
  row_length : (v : ℕ) (pairs : List ℕ) → length (refresh_row n classes g full v pairs) ≡ length pairs
  row_length v pairs = length-set pairs v (free_to g full (get_or classes v 0) v n)

  rows-length : (from m : ℕ) (pairs : List ℕ) → length (fold_to m (λ i. refresh_row n classes g full (from + i)) pairs) ≡ length pairs
  unfolding fold_to
  rows-length from zero pairs = refl
  rows-length from (suc m) pairs = row_length (from + m) (fold_to m (λ i. refresh_row n classes g full (from + i)) pairs) ∙ rows-length from m pairs

  switch-length : (s : Switch) (pairs : List ℕ) → length (refresh_switch n classes g full s pairs) ≡ length pairs
  switch-length s pairs =
      row_length (min s.b s.t) (refresh_row n classes g full (min s.a s.t) pairs) ∙ row_length (min s.a s.t) pairs

  pub range_length : (from to : ℕ) (pairs : List ℕ) → length (refresh_range n classes g full from to pairs) ≡ length pairs
  range_length from to pairs = rows-length from (to - from) pairs

  pub switches_length : (s : Switches) (pairs : List ℕ) → length (refresh_switches n classes g full s pairs) ≡ length pairs
  switches_length None pairs = refl
  switches_length (One x) pairs = switch-length x pairs
  switches_length (Two x y) pairs = switch-length y (refresh_switch n classes g full x pairs) ∙ switch-length x pairs

  module _ (z : ℕ) where
    -- a row that is not counted anew
    pub row_else : (v : ℕ) (pairs : List ℕ) → z ≢ v → get_or (refresh_row n classes g full v pairs) z 0 ≡ get_or pairs z 0
    row_else v pairs h = get_or-set_other pairs v z (free_to g full (get_or classes v 0) v n) 0 h

    rows-else : (from m : ℕ) (pairs : List ℕ) → ((i : ℕ) → i < m → z ≢ from + i)
        → get_or (fold_to m (λ i. refresh_row n classes g full (from + i)) pairs) z 0 ≡ get_or pairs z 0
    unfolding fold_to
    rows-else from zero pairs h = refl
    rows-else from (suc m) pairs h =
        row_else (from + m) (fold_to m (λ i. refresh_row n classes g full (from + i)) pairs) (h m (omega arith))
        ∙ rows-else from m pairs (λ i l. h i (omega arith))

    pub range_else : (from to : ℕ) (pairs : List ℕ) → to ≤ z → get_or (refresh_range n classes g full from to pairs) z 0 ≡ get_or pairs z 0
    range_else from to pairs h = rows-else from (to - from) pairs (λ i l e. omega arith)

    switch-else : (s : Switch) (pairs : List ℕ) → RowApart z s → get_or (refresh_switch n classes g full s pairs) z 0 ≡ get_or pairs z 0
    switch-else s pairs h =
        row_else (min s.b s.t) (refresh_row n classes g full (min s.a s.t) pairs) h.1 ∙ row_else (min s.a s.t) pairs h.0

    pub switches_else : (s : Switches) (pairs : List ℕ) → Each (RowApart z) s → get_or (refresh_switches n classes g full s pairs) z 0 ≡ get_or pairs z 0
    switches_else None pairs h = refl
    switches_else (One x) pairs h = switch-else x pairs h
    switches_else (Two x y) pairs h = switch-else y (refresh_switch n classes g full x pairs) h.1 ∙ switch-else x pairs h.0

    -- row z is right afterwards if it was so, or is counted anew
    pub row_right : (v : ℕ) (pairs : List ℕ) → z < length pairs → (z ≢ v → Right z pairs) → Right z (refresh_row n classes g full v pairs)
    row_right v pairs l h = go (ℕ_discrete z v)
      where
        go : Dec (z ≡ v) → Right z (refresh_row n classes g full v pairs)
        go (yes e) = rw e (get_or-set_same pairs v (free_to g full (get_or classes v 0) v n) 0 (omega arith))
        go (no d) = row_else v pairs d ∙ h d

    rows_right : (from m : ℕ) (pairs : List ℕ) → z < length pairs → (((i : ℕ) → i < m → z ≢ from + i) → Right z pairs)
        → Right z (fold_to m (λ i. refresh_row n classes g full (from + i)) pairs)
    unfolding fold_to
    rows_right from zero pairs l h = h (λ i p. absurd (omega arith))
    rows_right from (suc m) pairs l h =
        row_right (from + m) (fold_to m (λ i. refresh_row n classes g full (from + i)) pairs) (omega (arith, rows-length from m pairs))
        (λ last. rows_right from m pairs l (λ before. h (λ i p e. each i p e last before)))
      where
        each : (i : ℕ) → i < suc m → z ≡ from + i → z ≢ from + m → ((i : ℕ) → i < m → z ≢ from + i) → ⊥
        each i p e last before = go (dec_lt i m)
          where
            go : Dec (i < m) → ⊥
            go (yes q) = before i q e
            go (no q) = last (omega arith)

    pub range_right : (from to : ℕ) (pairs : List ℕ) → z < length pairs → ((from ≤ z → z < to → ⊥) → Right z pairs)
        → Right z (refresh_range n classes g full from to pairs)
    range_right from to pairs l h = rows_right from (to - from) pairs l (λ apart. h (λ a b. apart (z - from) (omega arith) (omega arith)))

    switch-right : (s : Switch) (pairs : List ℕ) → z < length pairs → (RowApart z s → Right z pairs) → Right z (refresh_switch n classes g full s pairs)
    switch-right s pairs l h =
        row_right (min s.b s.t) (refresh_row n classes g full (min s.a s.t) pairs) (omega (arith, row_length (min s.a s.t) pairs))
        (λ b. row_right (min s.a s.t) pairs l (λ a. h (a, b)))

    pub switches_right : (s : Switches) (pairs : List ℕ) → z < length pairs → (Each (RowApart z) s → Right z pairs)
        → Right z (refresh_switches n classes g full s pairs)
    switches_right None pairs l h = h (omega arith)
    switches_right (One x) pairs l h = switch-right x pairs l h
    switches_right (Two x y) pairs l h =
        switch-right y (refresh_switch n classes g full x pairs) (omega (arith, switch-length x pairs))
        (λ second. switch-right x pairs l (λ first. h (first, second)))
