-- Missing stubs: a short cell leaves its class with fewer edge ends than its vertices are to have, on the diagonal by two.
-- Assumes nothing.
use mathlib.Core.Path.{◌≡◌, sym, ap, ◌∙◌}
use Prim.Native.Nat.{ℕ, ◌+◌, ◌*◌, ◌≤◌, ◌<◌}
use native.Mathlib.Nat.{mul_comm, mul-one, mul-add}
use native.Mathlib.Decide.{ℕ_discrete}
use native.Mathlib.Omega.{arith}
use Rattle.finite.specs.Range.{δ, sum_to}
use Rattle.finite.proofs.Delta.{δ-same, δ-other, δ-sym, δ-less}
use Rattle.finite.proofs.Sum.{sum_to-cong, sum_to-add, sum_to-scale_right, sum_to-point, sum_to-gap, sum_to-less}
use Rattle.graph.specs.Graph.{Graph, degree, size, jdm}
use Rattle.graph.specs.Target.{Target, Partial}
use Rattle.graph.specs.Theorems.{Necessary}
use Rattle.graph.proofs.Necessary.{necessary_always}

module _ (n C : ℕ) (cls deg : ℕ → ℕ) (T : ℕ → ℕ → ℕ) (E : Graph) (target : Target n C cls deg T) (partial : Partial n C cls deg T E) where
  necessary : Necessary n C cls E
  necessary = necessary_always n C cls E partial.simple target.classed

  -- A short cell lacks what one edge more adds to it. Here evenness is used: on the diagonal both the cell and its target
  -- are even, so a short cell is short by 2.
  pub short_by : (k l : ℕ) → k < C → jdm n cls E k l < T k l → jdm n cls E k l + (1 + δ k l) ≤ T k l
  short_by k l kC short = go (ℕ_discrete k l)
    where
      go : Dec (k ≡ l) → jdm n cls E k l + (1 + δ k l) ≤ T k l
      go (yes e) =
          let diagonal : jdm n cls E k k < T k k = rw (← e) at short in
          rw (δ-same k l e, ← e) (omega (arith, necessary.even k, target.even k kC))
      go (no e) = rw (δ-other k l e) (omega arith)

  -- the stubs of class k, used and wanted, where cell (k, l) lacks c
  stubs : (k l c : ℕ) → k < C → l < C → jdm n cls E k l + c ≤ T k l
      → sum_to n (λ v. δ (cls v) k * degree n E v) + c ≤ sum_to n (λ v. δ (cls v) k * deg k)
  stubs k l c kC lC h =
      rw (← (necessary.rows k), sum_to-scale_right (deg k) n (λ v. δ (cls v) k), mul_comm (size n cls k) (deg k), ← (target.rows k kC))
      (sum_to-gap C (jdm n cls E k) (T k) (λ j jC. partial.within k j kC jC) l c lC h)

  -- Where the cell of classes k and cls o is short, some vertex of class k lacks an edge, and still does when o has one more.
  pub spare : (k o : ℕ) → k < C → o < n → jdm n cls E k (cls o) < T k (cls o)
      → (i : ℕ) × (i < n) × (cls i ≡ k) × (degree n E i + δ i o < deg k)
  spare k o kC on short =
      let r = sum_to-less n (λ v. δ (cls v) k * (degree n E v + δ v o)) (λ v. δ (cls v) k * deg k) less in
      let s = δ-less (cls r.0) k (degree n E r.0 + δ r.0 o) (deg k) r.2 in
      (r.0, r.1, s.0, s.1)
    where
      used : sum_to n (λ v. δ (cls v) k * (degree n E v + δ v o)) ≡ sum_to n (λ v. δ (cls v) k * degree n E v) + δ (cls o) k * 1
      used =
          sum_to-cong n (λ v. δ (cls v) k * (degree n E v + δ v o)) (λ v. δ (cls v) k * degree n E v + δ (cls v) k * (δ v o * 1))
          (λ v h. mul-add (δ (cls v) k) (degree n E v) (δ v o) ∙ ap (λ (d : ℕ). δ (cls v) k * degree n E v + δ (cls v) k * d) (sym (mul-one (δ v o))))
          ∙ sum_to-add n (λ v. δ (cls v) k * degree n E v) (λ v. δ (cls v) k * (δ v o * 1))
          ∙ ap (λ (d : ℕ). sum_to n (λ v. δ (cls v) k * degree n E v) + d) (sum_to-point n o 1 (λ v. δ (cls v) k) on)

      less : sum_to n (λ v. δ (cls v) k * (degree n E v + δ v o)) < sum_to n (λ v. δ (cls v) k * deg k)
      less =
          omega (
            arith,
            used,
            mul-one (δ (cls o) k),
            δ-sym k (cls o),
            stubs k (cls o) (1 + δ k (cls o)) kC (target.classed o on) (short_by k (cls o) kC short),
          )
