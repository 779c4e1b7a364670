-- A short cell has an open pair: two different unlinked vertices of its classes.
-- Assumes nothing.
use mathlib.Core.Path.{◌≡◌, sym, ◌∙◌}
use mathlib.Core.Logic.{◌≢◌}
use Prim.Native.Nat.{ℕ, ◌+◌, ◌<◌}
use native.Mathlib.Decide.{ℕ_discrete, dec_lt}
use native.Mathlib.Omega.{arith}
use Rattle.finite.specs.Range.{δ}
use Rattle.finite.proofs.Delta.{δ-same}
use Rattle.graph.specs.Graph.{Graph, size, jdm}
use Rattle.graph.specs.Target.{Target, Partial, Open}
use Rattle.graph.specs.Theorems.{ShortHasOpenPair}
use Rattle.graph.proofs.Matrix.{jdm-add, jdm-less, jdm-ones, jdm-diagonal, cell_most-other, cell_most-same}

module _ (n C : ℕ) (cls deg : ℕ → ℕ) (T : ℕ → ℕ → ℕ) (E : Graph) (target : Target n C cls deg T) (part : Partial n C cls deg T E) where
  -- what the pair is
  abbrev Pair : ℕ → ℕ → Type 0
  Pair k l = (v w : ℕ) × (cls v ≡ k) × (cls w ≡ l) × (k ≡ l → v < w) × Open n cls T E v w

  open_at : (v w k l : ℕ) → v < n → w < n → v ≢ w → E v w ≡ 0 → cls v ≡ k → cls w ≡ l → jdm n cls E k l < T k l → Open n cls T E v w
  open_at v w k l p q d u a b s = record { first = p; second = q; distinct = d; unlinked = u; short = rw (a, b) s }

  between : (k l : ℕ) → k ≢ l → k < C → l < C → jdm n cls E k l < T k l → Pair k l
  between k l d p q s =
      let r = jdm-less n cls E (λ v w. 1) k l
      (omega (arith, jdm-ones n cls k l, cell_most-other (size n cls) k l d, target.fits k l p q)) in
      let u : E r.0 r.1 ≡ 0 = omega (arith, r.6) in (
        r.0,
        r.1,
        r.4,
        r.5,
        (λ e. absurd (d e)),
        open_at r.0 r.1 k l r.2 r.3 (λ e. d (sym r.4 ∙ rw e r.5)) u r.4 r.5 s,
      )

  -- within a class a vertex counts as linked to itself, so that the pair's vertices differ
  within : (k : ℕ) → k < C → jdm n cls E k k < T k k → Pair k k
  within k p s =
      let r = jdm-less n cls (λ v w. E v w + δ w v) (λ v w. 1) k k
      (omega (
        arith,
        jdm-add n cls E (λ v w. δ w v) k k,
        jdm-diagonal n cls k,
        jdm-ones n cls k k,
        cell_most-same (size n cls) k,
        target.fits k k p p,
      )) in
      order r.0 r.1 r.2 r.3 r.4 r.5 r.6
    where
      order : (v w : ℕ) → v < n → w < n → cls v ≡ k → cls w ≡ k → E v w + δ w v < 1 → Pair k k
      order v w a b c d h = go (dec_lt v w)
        where
          distinct : v ≢ w
          distinct e = absurd (omega (arith, δ-same w v (sym e)))

          go : Dec (v < w) → Pair k k
          go (yes l) = (v, w, c, d, (λ e. l), open_at v w k k a b distinct (omega arith) c d s)
          go (no l) = (
            w,
            v,
            d,
            c,
            (λ e. omega (arith, distinct)),
            open_at w v k k b a (λ e. distinct (sym e)) (omega (arith, part.simple.symmetric v w a b)) d c s,
          )

pub short_has_open_pair : ShortHasOpenPair
short_has_open_pair n C cls deg T E target part k l p q s = go (ℕ_discrete k l)
  where
    go : Dec (k ≡ l) → Pair n C cls deg T E target part k l
    go (yes e) = rw (← e) (within n C cls deg T E target part k p (rw (← e) at s))
    go (no e) = between n C cls deg T E target part k l e p q s
