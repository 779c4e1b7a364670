-- Arrays filled by a rule, as code fills them.
-- Assumes nothing.
use Rattle.std.specs.Prelude.{List, ℕ, zero, suc, set}

-- the list t with f i at each place i below n
unfoldable pub fill_to : ℕ → (ℕ → ℕ) → List ℕ → List ℕ
fill_to zero f t = t
fill_to (suc n) f t = set (fill_to n f t) n (f n)
