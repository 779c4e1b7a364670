-- Vertices numbered by rising class, where class k has D k of them.
-- Assumes nothing.
use Rattle.std.specs.Prelude.{ℕ, ◌+◌, ltb}
use Rattle.finite.specs.Range.{sum_to, lowest}

-- how many vertices there are in the classes below C
abbrev pub total : ℕ → (ℕ → ℕ) → ℕ
total C D = sum_to C D

-- the class of vertex v: the lowest k such that v is below the vertices of the classes up to k
abbrev pub class_of : ℕ → (ℕ → ℕ) → ℕ → ℕ
class_of C D v = lowest 0 C (λ k. ltb v (sum_to (k + 1) D))
