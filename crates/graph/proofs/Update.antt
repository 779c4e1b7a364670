-- What one edge x – y more changes: the cells, the degrees, the number of edges (point 3 of specs/Theorems.antt).
-- Assumes nothing.
use mathlib.Core.Path.{◌≡◌, sym, ap, ap₂, ◌∙◌}
use mathlib.Core.Logic.{◌≢◌}
use Prim.Native.Nat.{ℕ, ◌+◌, ◌*◌, ◌≤◌, ◌<◌}
use native.Mathlib.Nat.{mul-one, mul_comm}
use native.Mathlib.Omega.{arith}
use Rattle.finite.specs.Range.{δ, sum_to}
use Rattle.finite.proofs.Delta.{δ-sym}
use Rattle.finite.proofs.Sum.{sum_to-cong, sum_to-add, sum_to-at, sum_to-point, sum_to-triangle}
use Rattle.graph.specs.Graph.{Graph, Simple, degree, edges, jdm, at_edge, AddsEdge}
use Rattle.graph.specs.Theorems.{Updated, AddingUpdates, RemovingUpdates}
use Rattle.graph.proofs.Matrix.{jdm-cong, jdm-add}
use Rattle.graph.proofs.Edge.{Place, forth, back, elsewhere, place, at_edge-sym, at_edge-here, at_edge-back, at_edge-loop}
-- the concrete functions and equal graphs
pub use Rattle.graph.proofs.Edge.{add_edge_adds, remove_edge_adds, jdm-same, degree-same, edges-same, simple_same, partial_same}

-- each edge is counted at both its ends
pub handshake : (n : ℕ) (E : Graph) → Simple n E → sum_to n (degree n E) ≡ 2 * edges n E
unfolding edges
handshake n E s = sum_to-triangle n E s.symmetric s.loopless

-- the matrix of a single place
jdm-point : (n : ℕ) (cls : ℕ → ℕ) (x y : ℕ) → x < n → y < n → (k l : ℕ) → jdm n cls (λ v w. δ v x * δ w y) k l ≡ δ k (cls x) * δ l (cls y)
unfolding jdm
jdm-point n cls x y xn yn k l =
    sum_to-cong n (λ v. δ (cls v) k * sum_to n (λ w. δ (cls w) l * (δ v x * δ w y))) (λ v. δ (cls v) k * (δ v x * δ (cls y) l))
    (λ v h. ap (λ (c : ℕ). δ (cls v) k * c) (row v))
    ∙ sum_to-point n x (δ (cls y) l) (λ v. δ (cls v) k) xn
    ∙ ap₂ ◌*◌ (δ-sym (cls x) k) (δ-sym (cls y) l)
  where
    row : (v : ℕ) → sum_to n (λ w. δ (cls w) l * (δ v x * δ w y)) ≡ δ v x * δ (cls y) l
    row v =
        sum_to-cong n (λ w. δ (cls w) l * (δ v x * δ w y)) (λ w. δ (cls w) l * (δ w y * δ v x))
        (λ w h. ap (λ (c : ℕ). δ (cls w) l * c) (mul_comm (δ v x) (δ w y)))
        ∙ sum_to-point n y (δ v x) (λ w. δ (cls w) l) yn
        ∙ mul_comm (δ (cls y) l) (δ v x)

-- a sum over one row or column of the edge's place
one_place : (n y c : ℕ) → y < n → sum_to n (λ w. c * δ w y) ≡ c
one_place n y c h =
    sum_to-cong n (λ w. c * δ w y) (λ w. δ w y * c) (λ w l. mul_comm c (δ w y)) ∙ sum_to-at n y (λ w. c) h

one_vertex : (n y : ℕ) → y < n → sum_to n (λ w. δ w y) ≡ 1
one_vertex n y h = sum_to-cong n (λ w. δ w y) (λ w. δ w y * 1) (λ w l. sym (mul-one (δ w y))) ∙ sum_to-at n y (λ w. 1) h

module _ (n : ℕ) (E E' : Graph) (x y : ℕ) (adds : AddsEdge n E x y E') (xn : x < n) (yn : y < n) where
  -- the cells are linear in the edges
  pub jdm-adds : (cls : ℕ → ℕ) (k l : ℕ) → jdm n cls E' k l ≡ jdm n cls E k l + at_edge (cls x) (cls y) k l
  jdm-adds cls k l =
      jdm-cong n cls E' (λ v w. E v w + at_edge x y v w) adds k l
      ∙ jdm-add n cls E (at_edge x y) k l
      ∙ ap (λ (c : ℕ). jdm n cls E k l + c)
      (jdm-add n cls (λ v w. δ v x * δ w y) (λ v w. δ v y * δ w x) k l
      ∙ ap₂ ◌+◌ (jdm-point n cls x y xn yn k l) (jdm-point n cls y x yn xn k l))

  pub degree-adds : (v : ℕ) → v < n → degree n E' v ≡ degree n E v + (δ v x + δ v y)
  degree-adds v l =
      sum_to-cong n (E' v) (λ w. E v w + at_edge x y v w) (λ w m. adds v w l m)
      ∙ sum_to-add n (E v) (at_edge x y v)
      ∙ ap (λ (c : ℕ). degree n E v + c)
      (sum_to-add n (λ w. δ v x * δ w y) (λ w. δ v y * δ w x) ∙ ap₂ ◌+◌ (one_place n y (δ v x) yn) (one_place n x (δ v y) xn))

  pub edges-adds : Simple n E → Simple n E' → edges n E' ≡ edges n E + 1
  edges-adds s s' = omega (arith, handshake n E s, handshake n E' s', sums)
    where
      sums : sum_to n (degree n E') ≡ sum_to n (degree n E) + (1 + 1)
      sums =
          sum_to-cong n (degree n E') (λ v. degree n E v + (δ v x + δ v y)) degree-adds
          ∙ sum_to-add n (degree n E) (λ v. δ v x + δ v y)
          ∙ ap (λ (c : ℕ). sum_to n (degree n E) + c)
          (sum_to-add n (λ v. δ v x) (λ v. δ v y) ∙ ap₂ ◌+◌ (one_vertex n x xn) (one_vertex n y yn))

  -- simple before and after
  pub simple_adds : x ≢ y → Simple n E → E x y ≡ 0 → Simple n E'
  simple_adds h s e =
      record {
        binary = λ v w l m. binary v w l m (place x y v w);
        symmetric = λ v w l m. adds v w l m ∙ ap₂ ◌+◌ (s.symmetric v w l m) (at_edge-sym x y v w) ∙ sym (adds w v m l);
        loopless = λ v l. adds v v l l ∙ ap₂ ◌+◌ (s.loopless v l) (at_edge-loop x y v h);
      }
    where
      binary : (v w : ℕ) → v < n → w < n → Place x y v w → E' v w ≤ 1
      binary v w l m (forth p q) = rw (p, q) (omega (arith, adds x y xn yn, e, at_edge-here x y h))
      binary v w l m (back p q) = rw (p, q) (omega (arith, adds y x yn xn, s.symmetric y x yn xn, e, at_edge-back x y h))
      binary v w l m (elsewhere p) = omega (arith, adds v w l m, s.binary v w l m)

  pub simple_removes : x ≢ y → Simple n E' → Simple n E
  simple_removes h s =
      record {
        binary = λ v w l m. omega (arith, adds v w l m, s.binary v w l m);
        symmetric = λ v w l m. omega (arith, adds v w l m, adds w v m l, s.symmetric v w l m, at_edge-sym x y v w);
        loopless = λ v l. omega (arith, adds v v l l, s.loopless v l);
      }

  updated : (cls : ℕ → ℕ) → Simple n E → Simple n E' → Updated n cls E x y E'
  updated cls s s' = record { cells = jdm-adds cls; degrees = degree-adds; count = edges-adds s s' }

pub adding_updates : AddingUpdates
adding_updates n cls E E' x y xn yn h adds s e =
    let s' = simple_adds n E E' x y adds xn yn h s e in
    (s', omega (arith, adds x y xn yn, e, at_edge-here x y h), updated n E E' x y adds xn yn cls s s')

pub removing_updates : RemovingUpdates
removing_updates n cls E E' x y xn yn h adds s' =
    let s = simple_removes n E E' x y adds xn yn h s' in
    (s, omega (arith, adds x y xn yn, s'.binary x y xn yn, at_edge-here x y h), updated n E E' x y adds xn yn cls s s')
