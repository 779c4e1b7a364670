-- A swap keeps every cell, every degree and the number of edges, and can be taken back (specs/Theorems.antt), on functions.
-- Assumes nothing.
use mathlib.Core.Path.{◌≡◌, sym, ap, ◌∙◌}
use Prim.Native.Nat.{ℕ, ◌+◌, ◌*◌, ◌<◌}
use native.Mathlib.Nat.{add_comm}
use native.Mathlib.Omega.{arith}
use Rattle.finite.specs.Range.{δ}
use Rattle.graph.specs.Graph.{Graph, Simple, degree, jdm, at_edge}
use Rattle.graph.specs.Theorems.{Updated}
use Rattle.graph.proofs.Edge.{Place, forth, back, elsewhere, place}
use Rattle.graph.proofs.Update.{adding_updates, removing_updates}
use Rattle.swapping.specs.declared.Swap.{Swap}
use Rattle.swapping.specs.Theorems.{CanSwap, Swapped, Kept, SwapKeeps, UndoneIsBefore}

edge-sym : (x y v w : ℕ) → at_edge x y v w ≡ at_edge y x v w
edge-sym x y v w = add_comm (δ v x * δ w y) (δ v y * δ w x)

-- an edge stands nowhere but at its two ends
pub off : (x y v w : ℕ) → ((v ≡ x) × (w ≡ y) → ⊥) → ((v ≡ y) × (w ≡ x) → ⊥) → at_edge x y v w ≡ 0
off x y v w p q = go (place x y v w)
  where
    go : Place x y v w → at_edge x y v w ≡ 0
    go (forth a b) = absurd (p (a, b))
    go (back a b) = absurd (q (a, b))
    go (elsewhere e) = e

module _ (n : ℕ) (cls : ℕ → ℕ) (E : Graph) (x : Swap) (simple : Simple n E) (can : CanSwap n cls E x) (E' : Graph) (s : Swapped n E x E') where
  abbrev a : ℕ
  a = x.a

  abbrev b : ℕ
  b = x.b

  abbrev c : ℕ
  c = x.c

  abbrev d : ℕ
  d = x.d

  r1 : Simple n s.once × (s.once a b ≡ 0) × Updated n cls s.once a b E
  r1 = removing_updates n cls s.once E a b can.a_vertex can.b_vertex can.ab s.no_ab simple

  r2 : Simple n s.twice × (s.twice c d ≡ 0) × Updated n cls s.twice c d s.once
  r2 = removing_updates n cls s.twice s.once c d can.c_vertex can.d_vertex can.cd s.no_cd r1.0

  free-ad : s.twice a d ≡ 0
  free-ad = omega (arith, s.no_ab a d can.a_vertex can.d_vertex, s.no_cd a d can.a_vertex can.d_vertex, can.no_ad)

  r3 : Simple n s.thrice × (s.thrice a d ≡ 1) × Updated n cls s.twice a d s.thrice
  r3 = adding_updates n cls s.twice s.thrice a d can.a_vertex can.d_vertex can.ad s.with_ad r2.0 free-ad

  free-bc : s.thrice b c ≡ 0
  free-bc =
      omega (
        arith,
        s.no_ab b c can.b_vertex can.c_vertex,
        s.no_cd b c can.b_vertex can.c_vertex,
        s.with_ad b c can.b_vertex can.c_vertex,
        can.no_bc,
        off a d b c (λ e. can.ab (sym e.0)) (λ e. can.bd e.0),
      )

  r4 : Simple n E' × (E' b c ≡ 1) × Updated n cls s.thrice b c E'
  r4 = adding_updates n cls s.thrice E' b c can.b_vertex can.c_vertex can.bc s.with_bc r3.0 free-bc

  cells : (k l : ℕ) → jdm n cls E' k l ≡ jdm n cls E k l
  cells k l =
      omega (
        arith,
        r1.2.cells k l,
        r2.2.cells k l,
        r3.2.cells k l,
        r4.2.cells k l,
        ap (λ (i : ℕ). at_edge i (cls d) k l) can.same_class,
        ap (λ (i : ℕ). at_edge (cls b) i k l) (sym can.same_class),
        edge-sym (cls a) (cls b) k l,
      )

  degrees : (v : ℕ) → v < n → degree n E' v ≡ degree n E v
  degrees v p = omega (arith, r1.2.degrees v p, r2.2.degrees v p, r3.2.degrees v p, r4.2.degrees v p)

  at : (v w : ℕ) → v < n → w < n → E' v w + at_edge a b v w + at_edge c d v w ≡ E v w + at_edge a d v w + at_edge b c v w
  at v w p q = omega (arith, s.no_ab v w p q, s.no_cd v w p q, s.with_ad v w p q, s.with_bc v w p q)

  pub kept : Kept n cls E x E'
  kept =
      record {
        simple = r4.0;
        cells = cells;
        degrees = degrees;
        count = omega (arith, r1.2.count, r2.2.count, r3.2.count, r4.2.count);
        back =
            record {
              a_vertex = can.a_vertex;
              b_vertex = can.d_vertex;
              c_vertex = can.c_vertex;
              d_vertex = can.b_vertex;
              first =
                  omega (
                    arith,
                    s.with_bc a d can.a_vertex can.d_vertex,
                    r3.1,
                    off b c a d (λ e. can.ab e.0) (λ e. can.ac e.0),
                  );
              second = r4.0.symmetric c b can.c_vertex can.b_vertex ∙ r4.1;
              ab = can.ad;
              ac = can.ac;
              ad = can.ab;
              bc = λ e. can.cd (sym e);
              bd = λ e. can.bd (sym e);
              cd = λ e. can.bc (sym e);
              same_class = can.same_class;
              no_ad =
                  omega (
                    arith,
                    at a b can.a_vertex can.b_vertex,
                    s.no_ab a b can.a_vertex can.b_vertex,
                    r1.1,
                    off a d a b (λ e. can.bd e.1) (λ e. can.ad e.0),
                    off b c a b (λ e. can.ab e.0) (λ e. can.ac e.0),
                  );
              no_bc =
                  omega (
                    arith,
                    s.no_cd d c can.d_vertex can.c_vertex,
                    s.with_ad d c can.d_vertex can.c_vertex,
                    s.with_bc d c can.d_vertex can.c_vertex,
                    r2.0.symmetric d c can.d_vertex can.c_vertex,
                    r2.1,
                    off a d d c (λ e. can.ad (sym e.0)) (λ e. can.ac (sym e.1)),
                    off b c d c (λ e. can.bd (sym e.0)) (λ e. can.cd (sym e.0)),
                  );
            };
      }

pub swap_keeps : SwapKeeps
swap_keeps = kept

pub undone-is_before : UndoneIsBefore
undone-is_before n E E' E'' x s u v w p q =
    omega (
      arith,
      s.no_ab v w p q,
      s.no_cd v w p q,
      s.with_ad v w p q,
      s.with_bc v w p q,
      u.no_ab v w p q,
      u.no_cd v w p q,
      u.with_ad v w p q,
      u.with_bc v w p q,
      edge-sym x.b x.c v w,
      edge-sym x.d x.c v w,
    )
