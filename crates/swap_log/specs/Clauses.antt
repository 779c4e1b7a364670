-- When a log is valid, clause by clause (document 02, P8): "A log of wrong length is 1; one of another shape, or whose records can't be legally undone, last
-- first, is 2." `log_ok` tests exactly this (proofs/Clauses.antt `log_by_clauses`).
-- Assumes nothing.
use Rattle.std.specs.Prelude.{◌≡◌, true, List, ◌↔◌, ℕ, zero, suc, ◌+◌, ◌*◌, ◌≤◌, ◌<◌, length, get_or}
use Rattle.adjacency.specs.Adjacency.{edge}
use Rattle.swapping.specs.Swap.{swap_bytes, undoing}
use Rattle.swapping.specs.Theorems.{CanSwap}
use Rattle.swap_log.specs.Log.{swap_at, log_ok}

-- the last of m records is the swap a, b, c, d: a, d, c, b meets the rule on the matrix, and on what it leaves the records before it do
abbrev pub Undoable : ℕ → (ℕ → ℕ) → List ℕ → ℕ → List ℕ → Type 0
Undoable n cls l zero g = Unit {0}
Undoable n cls l (suc m) g = CanSwap n cls (edge g) (undoing (swap_at l m)) × Undoable n cls l m (swap_bytes g (undoing (swap_at l m)))

pub record LogClauses (n : ℕ) (cls : ℕ → ℕ) (g l : List ℕ) : Type 0 where
  -- "a 16-bit count, low byte first"
  pub low_byte : get_or l 0 0 < 256
  -- "up to 1,024 records"
  pub few : get_or l 0 0 + 256 * get_or l 1 0 ≤ 1024
  -- "zero after"
  pub zero-after : (p : ℕ) → 2 + 4 * (get_or l 0 0 + 256 * get_or l 1 0) ≤ p → p < 4098 → get_or l p 0 ≡ 0
  -- "legally undone, last first"
  pub undoable : Undoable n cls l (get_or l 0 0 + 256 * get_or l 1 0) g

-- for a log of 4,098 bytes
abbrev pub LogByClauses : Type 0
LogByClauses =
    (n : ℕ) (cls : ℕ → ℕ) (g l : List ℕ) → length l ≡ 4098 → (log_ok n cls g l ≡ true) ↔ LogClauses n cls g l
