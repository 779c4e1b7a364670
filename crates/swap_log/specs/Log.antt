-- The log of swaps (document 02, P8): "A lent log of 4,098 bytes holds a 16-bit count, low byte first, and up to 1,024 records a, b, c, d, zero after."
-- Assumes nothing.
use Rattle.std.specs.Prelude.{Bool, true, ◌&&◌, List, [], ◌∷◌, ℕ, zero, suc, ◌+◌, ◌-◌, ◌*◌, ◌/◌, ◌%◌, ltb, leb, get_or, set, drop, replicate}
use Rattle.std.proofs.lemmas.List.Edits.{sets}
use Rattle.finite.specs.Range.{fold_to}
use Rattle.slices.specs.Slices.{all_zero}
use Rattle.swapping.specs.declared.Swap.{Swap}
use Rattle.swapping.specs.Swap.{swap_of, can_swap, swap_bytes, undoing}

-- up to 1,024 records of 4 bytes, behind a count of 2: 4,098 bytes
abbrev pub most_swaps : ℕ
most_swaps = 1024

abbrev pub swap_size : ℕ
swap_size = 4

abbrev pub count_size : ℕ
count_size = 2

abbrev pub log_size : ℕ
log_size = count_size + swap_size * most_swaps

-- how many records there are, low byte first
abbrev pub swap_count : List ℕ → ℕ
swap_count l = get_or l 0 0 + 256 * get_or l 1 0

-- where record i begins, and the record
abbrev pub swap_place : ℕ → ℕ
swap_place i = count_size + swap_size * i

abbrev pub swap_at : List ℕ → ℕ → Swap
swap_at l i = swap_of (get_or l (swap_place i) 0) (get_or l (swap_place i + 1) 0) (get_or l (swap_place i + 2) 0) (get_or l (swap_place i + 3) 0)

-- the log of no swaps
abbrev pub empty_log : List ℕ
empty_log = replicate log_size 0

-- a matrix in which records were taken back, and whether each step met the rule on the matrix as it then stood
pub record Undone : Type 0 where
  pub adjacency : List ℕ
  pub legal : Bool

-- The first m records taken back, the last first, on the matrix g with n vertices of classes cls.
unfoldable pub undo_all : ℕ → (ℕ → ℕ) → List ℕ → ℕ → List ℕ → Undone
undo_all n cls l zero g = record { adjacency = g; legal = true }
undo_all n cls l (suc m) g =
    let x = undoing (swap_at l m) in
    let rest = undo_all n cls l m (swap_bytes g x) in
    record { adjacency = rest.adjacency; legal = can_swap n cls g x && rest.legal }

-- "zero after"
abbrev pub zero_after : List ℕ → Bool
zero_after l = all_zero (drop (swap_place (swap_count l)) l)

-- The log beside the matrix g: two bytes and a count of at most 1,024, zero after, and records that can be "legally undone, last first".
abbrev pub log_ok : ℕ → (ℕ → ℕ) → List ℕ → List ℕ → Bool
log_ok n cls g l =
    ltb (get_or l 0 0) 256 && leb (swap_count l) most_swaps && zero_after l && (undo_all n cls l (swap_count l) g).legal

-- the first m records made again, the first first
abbrev pub replay : List ℕ → ℕ → List ℕ → List ℕ
replay l m g = fold_to m (λ i h. swap_bytes h (swap_at l i)) g

-- the log with a count of m, and x as its record i
abbrev pub written : List ℕ → ℕ → ℕ → Swap → List ℕ
written l m i x = sets (set (set l 0 (m % 256)) 1 (m / 256)) (swap_place i) (x.a ∷ x.b ∷ x.c ∷ x.d ∷ [])

-- one record more
abbrev pub logged : List ℕ → Swap → List ℕ
logged l x = written l (swap_count l + 1) (swap_count l) x

-- the last record, and the log without it: its bytes become zero
abbrev pub last_swap : List ℕ → Swap
last_swap l = swap_at l (swap_count l - 1)

abbrev pub unlogged : List ℕ → List ℕ
unlogged l = written l (swap_count l - 1) (swap_count l - 1) (swap_of 0 0 0 0)
