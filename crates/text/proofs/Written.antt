-- What is written piece by piece, each from the place behind the one before it, is the pieces one after the other.
-- Assumes nothing.
use mathlib.Core.Path.{◌≡◌, sym, ◌∙◌}
use mathlib.Core.List.{List, ◌++◌}
use Prim.Native.Nat.{ℕ, ◌+◌, ◌≤◌}
use native.Mathlib.Omega.{arith}
use lib.ListN.{length, length-append}
use lib.Seq.{sets, length-sets}
use Rattle.finite.proofs.Fold.{sets-append}

-- the list l with a written from place `at` on is m, and p is the place behind it
abbrev pub Written : List ℕ → ℕ → List ℕ → ℕ → List ℕ → Type 0
Written l at a p m = (p ≡ at + length a) × (m ≡ sets l at a)

module _ (l : List ℕ) (at : ℕ) (a b : List ℕ) where
  -- two pieces that fit: the first fits ..
  pub fits-first : at + length (a ++ b) ≤ length l → at + length a ≤ length l
  fits-first h = omega (arith, h, length-append a b)

  module _ (p : ℕ) (m : List ℕ) (w : Written l at a p m) where
    -- .. and the second, behind it
    pub fits_next : at + length (a ++ b) ≤ length l → p + length b ≤ length m
    fits_next h = rw (w.0, w.1) (rw (length-sets l at a) (omega (arith, h, length-append a b)))

    pub written_next : (q : ℕ) (k : List ℕ) → Written m p b q k → Written l at (a ++ b) q k
    written_next q k v =
        (rw (length-append a b) (omega (arith, v.0, w.0)), v.1 ∙ rw (w.0, w.1) (sym (sets-append l at a b)))

-- a line of four pieces
pub written_4 : (l : List ℕ) (at : ℕ) (x y z e : List ℕ) (p : ℕ) (m : List ℕ) → Written l at x p m → (q : ℕ) (k : List ℕ) → Written m p y q k
    → (r : ℕ) (j : List ℕ) → Written k q z r j → (s : ℕ) (i : List ℕ) → Written j r e s i → Written l at (x ++ y ++ z ++ e) s i
written_4 l at x y z e p m w q k v r j u s i t =
    written_next l at (x ++ y ++ z) e r j (written_next l at (x ++ y) z q k (written_next l at x y p m w q k v) r j u) s i t
