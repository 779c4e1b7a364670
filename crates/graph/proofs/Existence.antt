-- Every target is reached by some graph: from the empty one, as long as a cell is short an open pair of it is joined.
-- Assumes nothing.
use mathlib.Core.Path.{◌≡◌, refl}
use Prim.Native.Nat.{ℕ, zero, suc, ◌+◌, ◌≤◌, ◌<◌, zero-le}
use native.Mathlib.Decide.{dec_lt}
use native.Mathlib.Omega.{arith}
use Rattle.finite.specs.Range.{sum_to}
use Rattle.finite.proofs.Delta.{δ-self}
use Rattle.finite.proofs.Sum.{sum_to-zero, sum_to-mono₂, sum_to-strict₂, sum_to-less₂, sum_to-tight₂}
use Rattle.graph.specs.Graph.{Graph, jdm, at_edge}
use Rattle.graph.proofs.Functions.{empty, join}
use Rattle.graph.specs.Target.{Target, Partial, Open}
use Rattle.graph.specs.Theorems.{TargetReached}
use Rattle.graph.proofs.Matrix.{jdm-empty}
use Rattle.graph.proofs.OpenPair.{short_has_open_pair}
use Rattle.graph.proofs.Join.{join-works, joined-exists}

-- an open pair can be joined
pub joinable : (n C : ℕ) (cls deg : ℕ → ℕ) (T : ℕ → ℕ → ℕ) (E : Graph) (v w : ℕ) →
    Target n C cls deg T → Partial n C cls deg T E → Open n cls T E v w →
    (E' : Graph) × Partial n C cls deg T E' × ((k l : ℕ) → jdm n cls E' k l ≡ jdm n cls E k l + at_edge (cls v) (cls w) k l)
joinable n C cls deg T E v w target partial pair =
    let E' = join n cls deg E v w in
    let a = join-works n C cls deg T E v w target partial pair E' (joined-exists n C cls deg T target E v w partial pair) in
    (E', a.partial, a.cells)

-- the sum of the cells of a matrix
abbrev cells : ℕ → (ℕ → ℕ → ℕ) → ℕ
cells C M = sum_to C (λ k. sum_to C (M k))

module _ (n C : ℕ) (cls deg : ℕ → ℕ) (T : ℕ → ℕ → ℕ) (target : Target n C cls deg T) where
  abbrev Reached : Type 0
  Reached = (E : Graph) × Partial n C cls deg T E × ((k l : ℕ) → k < C → l < C → jdm n cls E k l ≡ T k l)

  empty-partial : Partial n C cls deg T empty
  empty-partial =
      record {
        simple = record { binary = λ v w p q. zero-le; symmetric = λ v w p q. refl; loopless = λ v p. refl };
        within = λ k l p q. rw (jdm-empty n cls k l) zero-le;
        room = λ v p. rw (sum_to-zero n (empty v) (λ w q. refl)) zero-le;
      }

  -- no cell is above its target, so with all of the sum every cell is there
  full : (E : Graph) → Partial n C cls deg T E → cells C T ≤ cells C (jdm n cls E) → Reached
  full E part h =
      (E, part, sum_to-tight₂ C C (jdm n cls E) T part.within (omega (arith, sum_to-mono₂ C C (jdm n cls E) T part.within)))

  -- one edge more in a short cell
  step : (E : Graph) → Partial n C cls deg T E → cells C (jdm n cls E) < cells C T
      → (E' : Graph) × Partial n C cls deg T E' × (cells C (jdm n cls E) < cells C (jdm n cls E'))
  step E part h =
      let s = sum_to-less₂ C C (jdm n cls E) T h in
      let o = short_has_open_pair n C cls deg T E target part s.0 s.1 s.2 s.3 s.4 in
      let j = joinable n C cls deg T E o.0 o.1 target part o.5 in (
        j.0,
        j.1,
        sum_to-strict₂ C C (jdm n cls E) (jdm n cls j.0) (λ k l p q. omega (arith, j.2 k l)) s.0 s.1 s.2 s.3
            (more o.0 o.1 s.0 s.1 o.2 o.3 j.0 j.2),
      )
    where
      more : (v w k l : ℕ) → cls v ≡ k → cls w ≡ l → (E' : Graph)
          → ((k l : ℕ) → jdm n cls E' k l ≡ jdm n cls E k l + at_edge (cls v) (cls w) k l) → jdm n cls E k l < jdm n cls E' k l
      more v w k l p q E' f = rw (f k l, p, q, δ-self k, δ-self l) (omega arith)

  -- m bounds what is missing
  reach : (m : ℕ) (E : Graph) → Partial n C cls deg T E → cells C T ≤ cells C (jdm n cls E) + m → Reached
  reach zero E part h = full E part (omega arith)
  reach (suc m) E part h = go (dec_lt (cells C (jdm n cls E)) (cells C T)) (reach m)
    where
      go : Dec (cells C (jdm n cls E) < cells C T)
          → ((E : Graph) → Partial n C cls deg T E → cells C T ≤ cells C (jdm n cls E) + m → Reached) → Reached
      go (yes l) again = let s = step E part l in again s.0 s.1 (omega (arith, s.2))
      go (no l) again = full E part (omega arith)

  reached : Reached
  reached = reach (cells C T) empty empty-partial (omega arith)

pub target_reached : TargetReached
target_reached = reached
