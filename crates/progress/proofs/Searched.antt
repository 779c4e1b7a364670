-- How a search of from, .., to - 1 ends that has passed over all of them.
-- Assumes nothing.
use mathlib.Core.Path.{◌≡◌}
use mathlib.Core.Bool.{Bool}
use Prim.Native.Nat.{ℕ, ◌≤◌, ◌<◌, max}
use native.Mathlib.Decide.{dec_lt}
use native.Mathlib.Omega.{arith}
use Rattle.finite.specs.Range.{lowest}
use Rattle.finite.proofs.Lowest.{lowest-end}

-- i: how far it has come
pub searched_all : (from to i : ℕ) (p : ℕ → Bool) → lowest from to p ≡ lowest i to p → to ≤ i → (from ≤ to → i ≤ to) → max from to ≡ lowest from to p
searched_all from to i p e l m = go (dec_lt to from)
  where
    go : Dec (to < from) → max from to ≡ lowest from to p
    go (yes h) = omega (arith, lowest-end from to p (omega arith))
    go (no h) = omega (arith, e, lowest-end i to p l, m (omega arith))
