-- The chunks of two bytes of a list are its edges.
-- Assumes nothing.
use mathlib.Core.Path.{◌≡◌, refl}
use mathlib.Core.List.{List, [], ◌∷◌}
use Prim.Native.Nat.{ℕ, zero, suc, ◌+◌, ◌*◌, ◌≤◌, ◌<◌}
use native.Mathlib.Omega.{arith}
use lib.ListN.{length, get_or}
use Rattle.std.specs.Simd.{first_chunks}
use Rattle.edge_lists.specs.EdgeList.{end_v, end_w}

pub chunk_at : (k i : ℕ) (e : List ℕ) → 2 * k ≤ length e → i < k → get_or (first_chunks 2 k e) i [] ≡ end_v e i ∷ end_w e i ∷ []
chunk_at zero i e h l = absurd (omega arith)
chunk_at (suc k) i [] h l = absurd (omega arith)
chunk_at (suc k) i (x ∷ []) h l = absurd (omega arith)
chunk_at (suc k) zero (x ∷ y ∷ e) h l = refl
chunk_at (suc k) (suc i) (x ∷ y ∷ e) h l =
    let v : 2 * suc i ≡ suc (suc (2 * i)) = omega arith in
    let w : suc (suc (2 * i)) + 1 ≡ suc (suc (2 * i + 1)) = omega arith in
    rw (v, w) (chunk_at k i e (omega arith) (omega arith))
