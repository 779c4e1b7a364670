-- Laws of equation (1), the joint degree matrix, as a function of the graph and of the classes.
-- Assumes nothing.
use mathlib.Core.Path.{◌≡◌, refl, sym, ◌∙◌}
use mathlib.Core.Logic.{◌≢◌}
use Prim.Native.Nat.{ℕ, zero, suc, ◌+◌, ◌-◌, ◌*◌, ◌≤◌, ◌<◌}
use native.Mathlib.Nat.{mul-zero, mul-one, mul_comm, mul-add, mul_left_comm, mul-le-mul_left, mul-suc, zero-mul}
use native.Mathlib.Decide.{ℕ_discrete}
use native.Mathlib.Omega.{arith}
use borrow.Author.Tests.{eq-eqb, ne_eqb}
use Rattle.finite.specs.Range.{δ, sum_to}
use Rattle.finite.proofs.Delta.{δ-other, δ-less, δ-square}
use Rattle.finite.proofs.Sum.{sum_to-cong, sum_to-cong₂, sum_to-add, sum_to-scale, sum_to-scale_right, sum_to-swap, sum_to-at, sum_to-zero, sum_to-mono, sum_to-less, sum_to-term}
use Rattle.graph.specs.Graph.{Graph, degree, size, jdm}
use Rattle.graph.proofs.Functions.{empty}
use Rattle.graph.specs.Target.{cell_most}

module _ (n : ℕ) (cls : ℕ → ℕ) where
  -- as one sum over pairs
  pub jdm-pairs : (E : Graph) (k l : ℕ) → jdm n cls E k l ≡ sum_to n (λ v. sum_to n (λ w. δ (cls v) k * (δ (cls w) l * E v w)))
  unfolding jdm
  jdm-pairs E k l =
      sum_to-cong n (λ v. δ (cls v) k * sum_to n (λ w. δ (cls w) l * E v w)) (λ v. sum_to n (λ w. δ (cls v) k * (δ (cls w) l * E v w)))
      (λ v h. sym (sum_to-scale (δ (cls v) k) n (λ w. δ (cls w) l * E v w)))

  pub jdm-cong : (E F : Graph) → ((v w : ℕ) → v < n → w < n → E v w ≡ F v w) → (k l : ℕ) → jdm n cls E k l ≡ jdm n cls F k l
  jdm-cong E F h k l =
      jdm-pairs E k l
      ∙ sum_to-cong₂ n n (λ v w. δ (cls v) k * (δ (cls w) l * E v w)) (λ v w. δ (cls v) k * (δ (cls w) l * F v w))
      (λ v w p q. rw (h v w p q))
      ∙ sym (jdm-pairs F k l)

  -- seen from the other end of each edge
  pub jdm-swap : (E : Graph) (k l : ℕ) → jdm n cls E k l ≡ jdm n cls (λ v w. E w v) l k
  jdm-swap E k l =
      jdm-pairs E k l
      ∙ sum_to-swap n n (λ v w. δ (cls v) k * (δ (cls w) l * E v w))
      ∙ sum_to-cong₂ n n (λ w v. δ (cls v) k * (δ (cls w) l * E v w)) (λ w v. δ (cls w) l * (δ (cls v) k * E v w))
      (λ w v p q. mul_left_comm (δ (cls v) k) (δ (cls w) l) (E v w))
      ∙ sym (jdm-pairs (λ v w. E w v) l k)

  pub jdm-add : (E F : Graph) (k l : ℕ) → jdm n cls (λ v w. E v w + F v w) k l ≡ jdm n cls E k l + jdm n cls F k l
  unfolding jdm
  jdm-add E F k l =
      sum_to-cong n (λ v. δ (cls v) k * sum_to n (λ w. δ (cls w) l * (E v w + F v w))) (λ v. at E v + at F v) (λ v h. row v)
      ∙ sum_to-add n (at E) (at F)
    where
      at : Graph → ℕ → ℕ
      at G v = δ (cls v) k * sum_to n (λ w. δ (cls w) l * G v w)

      row : (v : ℕ) → δ (cls v) k * sum_to n (λ w. δ (cls w) l * (E v w + F v w)) ≡ at E v + at F v
      row v =
          rw (
            sum_to-cong n (λ w. δ (cls w) l * (E v w + F v w)) (λ w. δ (cls w) l * E v w + δ (cls w) l * F v w) (λ w h. mul-add (δ (cls w) l) (E v w) (F v w)),
            sum_to-add n (λ w. δ (cls w) l * E v w) (λ w. δ (cls w) l * F v w),
          )
          (mul-add (δ (cls v) k) (sum_to n (λ w. δ (cls w) l * E v w)) (sum_to n (λ w. δ (cls w) l * F v w)))

  pub jdm-mono : (E F : Graph) → ((v w : ℕ) → v < n → w < n → E v w ≤ F v w) → (k l : ℕ) → jdm n cls E k l ≤ jdm n cls F k l
  unfolding jdm
  jdm-mono E F h k l =
      sum_to-mono n (λ v. δ (cls v) k * sum_to n (λ w. δ (cls w) l * E v w)) (λ v. δ (cls v) k * sum_to n (λ w. δ (cls w) l * F v w))
      (λ v p. mul-le-mul_left (δ (cls v) k)
      (sum_to-mono n (λ w. δ (cls w) l * E v w) (λ w. δ (cls w) l * F v w) (λ w q. mul-le-mul_left (δ (cls w) l) (h v w p q))))

  -- a smaller cell has a smaller entry, between vertices of its classes
  pub jdm-less : (E F : Graph) (k l : ℕ) → jdm n cls E k l < jdm n cls F k l
      → (v w : ℕ) × (v < n) × (w < n) × (cls v ≡ k) × (cls w ≡ l) × (E v w < F v w)
  unfolding jdm
  jdm-less E F k l h =
      let a = sum_to-less n (λ v. δ (cls v) k * row E v) (λ v. δ (cls v) k * row F v) h in
      let b = δ-less (cls a.0) k (row E a.0) (row F a.0) a.2 in
      let c = sum_to-less n (λ w. δ (cls w) l * E a.0 w) (λ w. δ (cls w) l * F a.0 w) b.1 in
      let d = δ-less (cls c.0) l (E a.0 c.0) (F a.0 c.0) c.2 in
      (a.0, c.0, a.1, c.1, b.0, d.0, d.1)
    where
      row : Graph → ℕ → ℕ
      row G v = sum_to n (λ w. δ (cls w) l * G v w)

  -- every pair linked, itself too: the cell counts the pairs
  pub jdm-ones : (k l : ℕ) → jdm n cls (λ v w. 1) k l ≡ size n cls k * size n cls l
  unfolding jdm
  jdm-ones k l =
      rw (sum_to-cong n (λ w. δ (cls w) l * 1) (λ w. δ (cls w) l) (λ w h. mul-one (δ (cls w) l)))
      (sum_to-scale_right (size n cls l) n (λ v. δ (cls v) k))

  -- each vertex linked to itself alone
  pub jdm-diagonal : (k : ℕ) → jdm n cls (λ v w. δ w v) k k ≡ size n cls k
  unfolding jdm
  jdm-diagonal k = sum_to-cong n (λ v. δ (cls v) k * sum_to n (λ w. δ (cls w) k * δ w v)) (λ v. δ (cls v) k) row
    where
      row : (v : ℕ) → v < n → δ (cls v) k * sum_to n (λ w. δ (cls w) k * δ w v) ≡ δ (cls v) k
      row v h =
          rw (
            sum_to-cong n (λ w. δ (cls w) k * δ w v) (λ w. δ w v * δ (cls w) k) (λ w q. mul_comm (δ (cls w) k) (δ w v)),
            sum_to-at n v (λ w. δ (cls w) k) h,
          )
          (δ-square (cls v) k)

  -- no vertex of class k
  pub jdm-none : (E : Graph) (k l : ℕ) → ((v : ℕ) → v < n → cls v ≢ k) → jdm n cls E k l ≡ 0
  unfolding jdm
  jdm-none E k l h =
      sum_to-zero n (λ v. δ (cls v) k * sum_to n (λ w. δ (cls w) l * E v w))
      (λ v p. rw (δ-other (cls v) k (h v p)) (zero-mul (sum_to n (λ w. δ (cls w) l * E v w))))

-- a vertex of degree 0 has no edges
pub jdm-isolated : (n : ℕ) (E : Graph) (l : ℕ) → jdm n (degree n E) E 0 l ≡ 0
unfolding jdm
jdm-isolated n E l = sum_to-zero n (λ v. δ (degree n E v) 0 * row v) (λ v p. go v (ℕ_discrete (degree n E v) 0))
  where
    row : ℕ → ℕ
    row v = sum_to n (λ w. δ (degree n E w) l * E v w)

    go : (v : ℕ) → Dec (degree n E v ≡ 0) → δ (degree n E v) 0 * row v ≡ 0
    go v (yes e) =
        rw (sum_to-zero n (λ w. δ (degree n E w) l * E v w)
        (λ w q. let z : E v w ≡ 0 = omega (arith, sum_to-term n (E v) w q) in rw z (mul-zero (δ (degree n E w) l))))
        (mul-zero (δ (degree n E v) 0))
    go v (no e) = rw (δ-other (degree n E v) 0 e) (zero-mul (row v))

pub jdm-empty : (n : ℕ) (cls : ℕ → ℕ) (k l : ℕ) → jdm n cls empty k l ≡ 0
jdm-empty n cls k l =
    jdm-pairs n cls empty k l
    ∙ sum_to-zero n (λ v. sum_to n (λ w. δ (cls v) k * (δ (cls w) l * 0)))
    (λ v p. sum_to-zero n (λ w. δ (cls v) k * (δ (cls w) l * 0)) (λ w q. rw (mul-zero (δ (cls w) l)) (mul-zero (δ (cls v) k))))

-- the matrix depends on the classes of the vertices alone
pub jdm-classes : (n : ℕ) (cls cls' : ℕ → ℕ) (E : Graph) → ((v : ℕ) → v < n → cls v ≡ cls' v)
    → (k l : ℕ) → jdm n cls E k l ≡ jdm n cls' E k l
jdm-classes n cls cls' E h k l =
    jdm-pairs n cls E k l
    ∙ sum_to-cong₂ n n (λ v w. δ (cls v) k * (δ (cls w) l * E v w)) (λ v w. δ (cls' v) k * (δ (cls' w) l * E v w))
    (λ v w p q. rw (h v p, h w q))
    ∙ sym (jdm-pairs n cls' E k l)

-- The most of a cell. On the diagonal without subtraction: the pairs of a vertex with itself are added.
pub cell_most-other : (D : ℕ → ℕ) (k l : ℕ) → k ≢ l → cell_most D k l ≡ D k * D l
cell_most-other D k l e = rw (ne_eqb k l e)

pub cell_most-same : (D : ℕ → ℕ) (k : ℕ) → cell_most D k k + D k ≡ D k * D k
cell_most-same D k = rw (eq-eqb k k refl) (go (D k))
  where
    go : (d : ℕ) → d * (d - 1) + d ≡ d * d
    go zero = refl
    go (suc d) = let e : suc d - 1 ≡ d = omega arith in rw e (sym (mul-suc (suc d) d))

-- it depends on the two sizes alone
pub cell_most-cong : (D D' : ℕ → ℕ) (k l : ℕ) → D k ≡ D' k → D l ≡ D' l → cell_most D k l ≡ cell_most D' k l
cell_most-cong D D' k l p q = rw (p, q)

pub cell_most-sym : (D : ℕ → ℕ) (k l : ℕ) → cell_most D k l ≡ cell_most D l k
cell_most-sym D k l = go (ℕ_discrete k l)
  where
    go : Dec (k ≡ l) → cell_most D k l ≡ cell_most D l k
    go (yes e) = rw e
    go (no e) = cell_most-other D k l e ∙ mul_comm (D k) (D l) ∙ sym (cell_most-other D l k (λ q. e (sym q)))
