-- Tests on lists of bytes, and where a part of a slice begins.
-- Assumes nothing.
use Rattle.std.specs.Prelude.{Bool, ◌&&◌, List, ℕ, ◌+◌, eqb, length, get_or}
use Rattle.finite.specs.Range.{all_to}

-- every byte is 0
abbrev pub all_zero : List ℕ → Bool
all_zero s = all_to (length s) (λ i. eqb (get_or s i 0) 0)

-- equal length and bytes
abbrev pub equal_bytes : List ℕ → List ℕ → Bool
equal_bytes a b = eqb (length a) (length b) && all_to (length a) (λ i. eqb (get_or a i 0) (get_or b i 0))

-- where a part of a slice begins that leaves out the slice's first n bytes: in the same allocation, n bytes on
abbrev pub further : ℕ × ℕ → ℕ → ℕ × ℕ
further start n = (start.0, n + start.1)
