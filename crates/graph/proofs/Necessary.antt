-- What holds of the joint degree matrix of every simple graph, at every classification of its vertices.
-- Assumes nothing.
use mathlib.Core.Path.{◌≡◌, ap, ◌∙◌}
use Prim.Native.Nat.{ℕ, ◌+◌, ◌*◌, ◌%◌, ◌≤◌, ◌<◌}
use native.Mathlib.Nat.{mul-zero, mul_left_comm, mul-mod_right}
use native.Mathlib.Decide.{ℕ_discrete}
use native.Mathlib.Omega.{arith}
use Rattle.finite.specs.Range.{δ, sum_to}
use Rattle.finite.proofs.Delta.{δ-other, δ-self}
use Rattle.finite.proofs.Sum.{sum_to-cong, sum_to-scale, sum_to-swap, sum_to-only, sum_to-triangle}
use Rattle.graph.specs.Graph.{Graph, Simple, degree, size, jdm}
use Rattle.graph.specs.Target.{cell_most}
use Rattle.graph.specs.Theorems.{NecessaryAlways}
use Rattle.graph.proofs.Matrix.{jdm-pairs, jdm-cong, jdm-swap, jdm-add, jdm-mono, jdm-ones, jdm-diagonal, cell_most-other, cell_most-same}

module _ (n C : ℕ) (cls : ℕ → ℕ) (E : Graph) (simple : Simple n E) (classed : (v : ℕ) → v < n → cls v < C) where
  symmetric : (k l : ℕ) → jdm n cls E k l ≡ jdm n cls E l k
  symmetric k l = jdm-swap n cls E k l ∙ jdm-cong n cls (λ v w. E w v) E (λ v w p q. simple.symmetric w v q p) l k

  even : (k : ℕ) → jdm n cls E k k % 2 ≡ 0
  even k =
      rw (
        jdm-pairs n cls E k k,
        sum_to-triangle n at
            (λ v w p q. rw (simple.symmetric v w p q) (mul_left_comm (δ (cls v) k) (δ (cls w) k) (E w v)))
            (λ v p. rw (simple.loopless v p, mul-zero (δ (cls v) k)) (mul-zero (δ (cls v) k))),
      )
      (mul-mod_right 2 (sum_to n (λ v. sum_to v (at v))))
    where
      at : Graph
      at v w = δ (cls v) k * (δ (cls w) k * E v w)

  rows : (k : ℕ) → sum_to C (jdm n cls E k) ≡ sum_to n (λ v. δ (cls v) k * degree n E v)
  unfolding jdm
  rows k =
      sum_to-swap C n (λ l v. δ (cls v) k * to v l)
      ∙ sum_to-cong n (λ v. sum_to C (λ l. δ (cls v) k * to v l)) (λ v. δ (cls v) k * degree n E v)
      (λ v p. sum_to-scale (δ (cls v) k) C (to v) ∙ ap (λ (d : ℕ). δ (cls v) k * d) (all v))
    where
      -- how many neighbours of v are in class l
      to : ℕ → ℕ → ℕ
      to v l = sum_to n (λ w. δ (cls w) l * E v w)

      all : (v : ℕ) → sum_to C (to v) ≡ degree n E v
      all v =
          sum_to-swap C n (λ l w. δ (cls w) l * E v w)
          ∙ sum_to-cong n (λ w. sum_to C (λ l. δ (cls w) l * E v w)) (E v) (λ w q. sum_to-only C (cls w) (E v w) (classed w q))

  fits : (k l : ℕ) → jdm n cls E k l ≤ cell_most (size n cls) k l
  fits k l = go (ℕ_discrete k l)
    where
      -- a pair holds at most one edge, and a vertex with itself none
      pair : (v w : ℕ) → v < n → w < n → E v w + δ w v ≤ 1
      pair v w p q = at (ℕ_discrete w v)
        where
          at : Dec (w ≡ v) → E v w + δ w v ≤ 1
          at (yes e) = rw (e, simple.loopless v p, δ-self v) (omega arith)
          at (no e) = rw (δ-other w v e) (omega (arith, simple.binary v w p q))

      go : Dec (k ≡ l) → jdm n cls E k l ≤ cell_most (size n cls) k l
      go (yes e) =
          rw (← e)
          (omega (
            arith,
            jdm-mono n cls (λ v w. E v w + δ w v) (λ v w. 1) pair k k,
            jdm-add n cls E (λ v w. δ w v) k k,
            jdm-diagonal n cls k,
            jdm-ones n cls k k,
            cell_most-same (size n cls) k,
          ))
      go (no e) = rw (cell_most-other (size n cls) k l e, ← (jdm-ones n cls k l)) (jdm-mono n cls E (λ v w. 1) simple.binary k l)

pub necessary_always : NecessaryAlways
necessary_always n C cls E simple classed =
    record {
      symmetric = symmetric n C cls E simple classed;
      even = even n C cls E simple classed;
      rows = rows n C cls E simple classed;
      fits = fits n C cls E simple classed;
    }
