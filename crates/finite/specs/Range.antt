-- Sums, tests and searches over a finite range of numbers. Definitions only; their laws stand in proofs/.
-- Assumes nothing.
use Rattle.std.specs.Prelude.{◌≡◌, Option, MatchOption, ◌<◌, List, [], ◌++◌, Bool, true, false, ◌&&◌, cond, ℕ, zero, suc, ◌+◌, ◌-◌, eqb}

-- 1 where the test passes, else 0
abbrev pub bit : Bool → ℕ
bit true = 1
bit false = 0

-- 1 where the two numbers are equal, else 0 (Kronecker's delta)
unfoldable pub δ : ℕ → ℕ → ℕ
δ a b = bit (eqb a b)

-- f 0 + .. + f (n - 1)
unfoldable pub sum_to : ℕ → (ℕ → ℕ) → ℕ
sum_to zero f = 0
sum_to (suc n) f = sum_to n f + f n

-- p holds at each number below n
unfoldable pub all_to : ℕ → (ℕ → Bool) → Bool
all_to zero p = true
all_to (suc n) p = all_to n p && p n

-- the lowest of a, .., a + k - 1 at which p holds, and a + k where there is none
unfoldable pub low_from : ℕ → ℕ → (ℕ → Bool) → ℕ
low_from zero a p = a
low_from (suc k) a p = let r = low_from k (suc a) p in cond (p a) a r

-- the lowest of a, .., b - 1 at which p holds, and b where there is none (a where b is below a)
unfoldable pub lowest : ℕ → ℕ → (ℕ → Bool) → ℕ
unfolding low_from
lowest a b p = low_from (b - a) a p

-- f (n - 1) after .. after f 0
unfoldable pub fold_to : {A : Type 0} → ℕ → (ℕ → A → A) → A → A
fold_to zero f s = s
fold_to (suc n) f s = f n (fold_to n f s)

-- the lists f 0, .., f (n - 1), one after the other
unfoldable pub cat_to : ℕ → (ℕ → List ℕ) → List ℕ
cat_to zero f = []
cat_to (suc n) f = cat_to n f ++ f n

-- what a search that ends at b has found, where the lowest number that passes is k, or b where none does: k, or nothing
abbrev pub IsFound : ℕ → ℕ → Option ℕ → Type 0
IsFound b k found = MatchOption found (k ≡ b) (λ i. (i ≡ k) × (k < b))

-- at most `fuel` steps of f, while p holds
unfoldable pub iterate : {A : Type 0} → ℕ → (A → Bool) → (A → A) → A → A
iterate zero p f s = s
iterate (suc fuel) p f s = let r = iterate fuel p f (f s) in cond (p s) r s
