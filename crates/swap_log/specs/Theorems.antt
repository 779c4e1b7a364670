-- What is proved of the log beside a matrix of n vertices of classes cls (proofs/Records.antt, proofs/Valid.antt).
-- Assumes nothing.
use Rattle.std.specs.Prelude.{◌≡◌, true, List, ℕ, ◌+◌, ◌<◌, length}
use Rattle.swapping.specs.declared.Swap.{Swap}
use Rattle.swapping.specs.Swap.{can_swap, swap_bytes, undoing}
use Rattle.swapping.specs.Theorems.{Matrix}
use Rattle.swap_log.specs.Log.{most_swaps, log_size, swap_count, undo_all, log_ok, replay, logged, last_swap, unlogged}

-- a valid log beside a matrix
pub record ValidLog (n : ℕ) (cls : ℕ → ℕ) (g l : List ℕ) : Type 0 where
  pub matrix : Matrix n g
  pub sized : length l ≡ log_size
  pub is_valid : log_ok n cls g l ≡ true

-- "the grid it began with", as the log tells it: all records taken back
abbrev pub began : ℕ → (ℕ → ℕ) → List ℕ → List ℕ → List ℕ
began n cls g l = (undo_all n cls l (swap_count l) g).adjacency

-- The log after a swap: valid beside the matrix after it, with the same beginning. Taken back, both are as before, byte for byte.
pub record LogsSwap (n : ℕ) (cls : ℕ → ℕ) (g l : List ℕ) (x : Swap) : Type 0 where
  pub after : ValidLog n cls (swap_bytes g x) (logged l x)
  pub counted : swap_count (logged l x) ≡ swap_count l + 1
  pub last : last_swap (logged l x) ≡ x
  pub same_beginning : began n cls (swap_bytes g x) (logged l x) ≡ began n cls g l
  pub taken_back : unlogged (logged l x) ≡ l

-- The log after the last record was taken back: what that record names meets the rule, and the rest is valid beside the matrix after it.
pub record TakesBack (n : ℕ) (cls : ℕ → ℕ) (g l : List ℕ) : Type 0 where
  pub allowed : can_swap n cls g (undoing (last_swap l)) ≡ true
  pub after : ValidLog n cls (swap_bytes g (undoing (last_swap l))) (unlogged l)
  pub counted : swap_count (unlogged l) + 1 ≡ swap_count l
  pub same_beginning : began n cls (swap_bytes g (undoing (last_swap l))) (unlogged l) ≡ began n cls g l

pub record LogWorks : Type 0 where
  pub swapped : (n : ℕ) (cls : ℕ → ℕ) (g l : List ℕ) (x : Swap) → ValidLog n cls g l → can_swap n cls g x ≡ true → swap_count l < most_swaps → LogsSwap n cls g l x
  pub undone : (n : ℕ) (cls : ℕ → ℕ) (g l : List ℕ) → ValidLog n cls g l → 0 < swap_count l → TakesBack n cls g l
  -- the records, made again on the matrix that the log began with, give the matrix
  pub replayed : (n : ℕ) (cls : ℕ → ℕ) (g l : List ℕ) → ValidLog n cls g l → replay l (swap_count l) (began n cls g l) ≡ g
