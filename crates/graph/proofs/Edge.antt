-- Where one edge stands in the matrix, that the concrete functions add and remove it, and that a graph's figures rest on
-- its vertices alone.
-- Assumes nothing.
use mathlib.Core.Path.{◌≡◌, refl, sym, ap, ap₂, ◌∙◌}
use mathlib.Core.Logic.{◌≢◌}
use Prim.Native.Nat.{ℕ, ◌+◌, ◌-◌, ◌*◌, ◌≤◌, ◌<◌}
use native.Mathlib.Nat.{mul_comm, mul_assoc, mul-add, zero-mul, mul-zero}
use native.Mathlib.Decide.{ℕ_discrete}
use native.Mathlib.Omega.{arith}
use borrow.Author.Tests.{eq-eqb, ne_eqb}
use Rattle.finite.specs.Range.{δ, sum_to}
use Rattle.finite.proofs.Delta.{δ-self, δ-other, δ-sym}
use Rattle.finite.proofs.Sum.{sum_to-cong, sum_to-add, sum_to-at}
use Rattle.graph.specs.Graph.{Graph, Simple, degree, edges, jdm, times_counted, at_edge, AddsEdge, SameOn}
use Rattle.graph.proofs.Functions.{edge_added, edge_removed}
use Rattle.graph.specs.Target.{Partial}
use Rattle.graph.proofs.Matrix.{jdm-cong}

-- the place (v, w) is one of the edge x – y, either way round, or another
pub data Place (x y v w : ℕ) : Type 0 where
  forth : v ≡ x → w ≡ y → Place x y v w
  back : v ≡ y → w ≡ x → Place x y v w
  elsewhere : at_edge x y v w ≡ 0 → Place x y v w

pub place : (x y v w : ℕ) → Place x y v w
place x y v w = go (ℕ_discrete v x) (ℕ_discrete w y) (ℕ_discrete v y) (ℕ_discrete w x)
  where
    off-forth : Dec (v ≡ x) → ((v ≡ x) × (w ≡ y) → ⊥) → δ v x * δ w y ≡ 0
    off-forth (yes p) h = rw (δ-other w y (λ q. h (p, q))) (mul-zero (δ v x))
    off-forth (no p) h = rw (δ-other v x p) (zero-mul (δ w y))

    off-back : Dec (v ≡ y) → ((v ≡ y) × (w ≡ x) → ⊥) → δ v y * δ w x ≡ 0
    off-back (yes p) h = rw (δ-other w x (λ q. h (p, q))) (mul-zero (δ v y))
    off-back (no p) h = rw (δ-other v y p) (zero-mul (δ w x))

    off : Dec (v ≡ x) → Dec (v ≡ y) → ((v ≡ x) × (w ≡ y) → ⊥) → ((v ≡ y) × (w ≡ x) → ⊥) → Place x y v w
    off p q f g = elsewhere (omega (arith, off-forth p f, off-back q g))

    turned : Dec (v ≡ x) → Dec (v ≡ y) → Dec (w ≡ x) → ((v ≡ x) × (w ≡ y) → ⊥) → Place x y v w
    turned p (yes q) (yes r) f = back q r
    turned p (yes q) (no r) f = off p (yes q) f (λ s. r s.1)
    turned p (no q) r f = off p (no q) f (λ s. q s.0)

    go : Dec (v ≡ x) → Dec (w ≡ y) → Dec (v ≡ y) → Dec (w ≡ x) → Place x y v w
    go (yes p) (yes q) r s = forth p q
    go (yes p) (no q) r s = turned (yes p) r s (λ t. q t.1)
    go (no p) q r s = turned (no p) r s (λ t. p t.0)

pub at_edge-sym : (x y v w : ℕ) → at_edge x y v w ≡ at_edge x y w v
at_edge-sym x y v w = omega (arith, mul_comm (δ v x) (δ w y), mul_comm (δ v y) (δ w x))

pub at_edge-here : (x y : ℕ) → x ≢ y → at_edge x y x y ≡ 1
at_edge-here x y h = rw (δ-self x, δ-self y, δ-other x y h, zero-mul (δ y x))

pub at_edge-back : (x y : ℕ) → x ≢ y → at_edge x y y x ≡ 1
at_edge-back x y h = at_edge-sym x y y x ∙ at_edge-here x y h

-- as cells: an edge adds 1 to the cell of its ends' classes, or 2 on the diagonal, and of the cells from the diagonal on it changes no other
pub at_edge-cell : (k l : ℕ) → at_edge k l k l ≡ times_counted k l
at_edge-cell k l = go (ℕ_discrete k l)
  where
    go : Dec (k ≡ l) → at_edge k l k l ≡ times_counted k l
    go (yes e) = rw (e, eq-eqb l l refl, δ-self l)
    go (no e) = rw (ne_eqb k l e) (at_edge-here k l e)

pub at_edge-upper : (k l i j : ℕ) → k ≤ l → i ≤ j → (i ≡ k → j ≡ l → ⊥) → at_edge k l i j ≡ 0
at_edge-upper k l i j kl ij h = go (place k l i j)
  where
    go : Place k l i j → at_edge k l i j ≡ 0
    go (forth p q) = absurd (h p q)
    go (back p q) = absurd (h (omega arith) (omega arith))
    go (elsewhere e) = e

pub at_edge-loop : (x y v : ℕ) → x ≢ y → at_edge x y v v ≡ 0
at_edge-loop x y v h = go (place x y v v)
  where
    go : Place x y v v → at_edge x y v v ≡ 0
    go (forth p q) = absurd (h (sym p ∙ q))
    go (back p q) = absurd (h (sym q ∙ p))
    go (elsewhere e) = e

-- a sum over all pairs that looks only at v – w, either way round
pub at_edge-sum : (n : ℕ) (h : ℕ → ℕ → ℕ) (v w : ℕ) → v < n → w < n → sum_to n (λ x. sum_to n (λ y. h x y * at_edge x y v w)) ≡ h v w + h w v
at_edge-sum n h v w vn wn =
    sum_to-cong n (λ x. sum_to n (λ y. h x y * at_edge x y v w)) (λ x. δ x v * h x w + δ x w * h x v) row
    ∙ sum_to-add n (λ x. δ x v * h x w) (λ x. δ x w * h x v)
    ∙ ap₂ ◌+◌ (sum_to-at n v (λ x. h x w) vn) (sum_to-at n w (λ x. h x v) wn)
  where
    term : (x y : ℕ) → h x y * at_edge x y v w ≡ δ y w * (δ x v * h x y) + δ y v * (δ x w * h x y)
    term x y = rw (δ-sym v x, δ-sym w y, δ-sym v y, δ-sym w x) (swap (h x y) (δ x v) (δ y w) (δ y v) (δ x w))
      where
        swap : (b p q r s : ℕ) → b * (p * q + r * s) ≡ q * (p * b) + r * (s * b)
        swap b p q r s =
            mul-add b (p * q) (r * s)
            ∙ ap₂ ◌+◌ (mul_comm b (p * q) ∙ ap (λ (t : ℕ). t * b) (mul_comm p q) ∙ mul_assoc q p b) (mul_comm b (r * s) ∙ mul_assoc r s b)

    row : (x : ℕ) → x < n → sum_to n (λ y. h x y * at_edge x y v w) ≡ δ x v * h x w + δ x w * h x v
    row x l =
        sum_to-cong n (λ y. h x y * at_edge x y v w) (λ y. δ y w * (δ x v * h x y) + δ y v * (δ x w * h x y)) (λ y m. term x y)
        ∙ sum_to-add n (λ y. δ y w * (δ x v * h x y)) (λ y. δ y v * (δ x w * h x y))
        ∙ ap₂ ◌+◌ (sum_to-at n w (λ y. δ x v * h x y) wn) (sum_to-at n v (λ y. δ x w * h x y) vn)

-- the concrete functions give the relation
pub add_edge_adds : (n : ℕ) (E : Graph) (x y : ℕ) → AddsEdge n E x y (edge_added E x y)
add_edge_adds n E x y v w l m = refl

pub remove_edge_adds : (n : ℕ) (E : Graph) (x y : ℕ) → x < n → y < n → Simple n E → E x y ≡ 1 → x ≢ y → AddsEdge n (edge_removed E x y) x y E
remove_edge_adds n E x y xn yn s e h v w l m = go (place x y v w)
  where
    covered : 1 ≤ E v w → at_edge x y v w ≡ 1 → E v w ≡ (E v w - at_edge x y v w) + at_edge x y v w
    covered p q = rw q (omega arith)

    go : Place x y v w → E v w ≡ (E v w - at_edge x y v w) + at_edge x y v w
    go (forth p q) = covered (rw (p, q, e) (omega arith)) (rw (p, q) (at_edge-here x y h))
    go (back p q) = covered (rw (p, q, s.symmetric y x yn xn, e) (omega arith)) (rw (p, q) (at_edge-back x y h))
    go (elsewhere p) = rw p (omega arith)

-- the same graph on the vertices has the same figures
module _ (n : ℕ) (E E' : Graph) (same : SameOn n E E') where
  pub jdm-same : (cls : ℕ → ℕ) (k l : ℕ) → jdm n cls E' k l ≡ jdm n cls E k l
  jdm-same cls k l = jdm-cong n cls E' E same k l

  pub degree-same : (v : ℕ) → v < n → degree n E' v ≡ degree n E v
  degree-same v l = sum_to-cong n (E' v) (E v) (λ w. same v w l)

  pub edges-same : edges n E' ≡ edges n E
  unfolding edges
  edges-same =
      sum_to-cong n (λ v. sum_to v (E' v)) (λ v. sum_to v (E v))
      (λ v l. sum_to-cong v (E' v) (E v) (λ w m. same v w l (omega arith)))

  pub simple_same : Simple n E → Simple n E'
  simple_same s =
      record {
        binary = λ v w l m. rw (same v w l m) (s.binary v w l m);
        symmetric = λ v w l m. same v w l m ∙ s.symmetric v w l m ∙ sym (same w v m l);
        loopless = λ v l. same v v l l ∙ s.loopless v l;
      }

  pub partial_same : (C : ℕ) (cls deg : ℕ → ℕ) (T : ℕ → ℕ → ℕ) → Partial n C cls deg T E → Partial n C cls deg T E'
  partial_same C cls deg T p =
      record {
        simple = simple_same p.simple;
        within = λ k l hk hl. rw (jdm-same cls k l) (p.within k l hk hl);
        room = λ v l. rw (degree-same v l) (p.room v l);
      }
