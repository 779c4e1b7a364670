-- The choices of the neighbour switch exist and are right: b, which stands in for a, and t, whose edge moves from a to b.
-- Assumes nothing.
use mathlib.Core.Path.{◌≡◌, ap, ◌∙◌}
use mathlib.Core.Bool.{true, false, ◌&&◌, not, cond}
use mathlib.Core.Logic.{◌≢◌}
use Prim.Native.Nat.{ℕ, ◌+◌, ◌*◌, ◌<◌}
use native.Mathlib.Nat.{one-mul, zero-mul}
use native.Mathlib.Decide.{ℕ_discrete, dec_lt}
use native.Mathlib.Omega.{arith}
use lib.Dec.{eqb, ltb}
use borrow.Author.Tests.{ltb-true, ltb-false, lt-ltb, le-ltb, eqb-true, eqb-false, eq-eqb, ne_eqb, not-true}
use Rattle.finite.specs.Range.{δ, sum_to, lowest}
use Rattle.finite.proofs.Delta.{δ-same, δ-self, δ-other}
use Rattle.finite.proofs.Sum.{sum_to-add, sum_to-at, sum_to-less}
use Rattle.finite.proofs.All.{and_left, and_right}
use Rattle.finite.proofs.Lowest.{lowest-holds, lowest-found}
use Rattle.graph.specs.Graph.{Graph, Simple, degree}
use Rattle.graph.specs.Target.{Target, Partial, Open}
use Rattle.graph.specs.Switch.{unsaturated, can_substitute, substitute, can_transfer, transfer}
use Rattle.graph.specs.Theorems.{Choices}
use Rattle.graph.proofs.Stubs.{spare}

-- b may stand in for a
record Substitutes (n : ℕ) (cls deg : ℕ → ℕ) (E : Graph) (a o b : ℕ) : Type 0 where
  vertex : b < n
  class : cls b ≡ cls a
  room : degree n E b < deg (cls b)
  last : b ≡ o → degree n E o + 1 < deg (cls o)

-- what the test of b says
tested : (n : ℕ) (cls deg : ℕ → ℕ) (E : Graph) (a o b : ℕ) → b < n → can_substitute n cls deg E a o b ≡ true → Substitutes n cls deg E a o b
tested n cls deg E a o b bn h =
    record {
      vertex = bn;
      class = eqb-true (cls b) (cls a) (and_left (eqb (cls b) (cls a)) (unsaturated n cls deg E b) both);
      room = ltb-true (degree n E b) (deg (cls b)) (and_right (eqb (cls b) (cls a)) (unsaturated n cls deg E b) both);
      last = λ e. absurd (eqb-false b o (not-true (eqb b o) (and_right (eqb (cls b) (cls a) && unsaturated n cls deg E b) (not (eqb b o)) h)) e);
    }
  where
    both : eqb (cls b) (cls a) && unsaturated n cls deg E b ≡ true
    both = and_left (eqb (cls b) (cls a) && unsaturated n cls deg E b) (not (eqb b o)) h

-- The lowest vertex that passes the test, or the other named vertex, stands in for a if some vertex of a's class lacks an edge
-- and still does when o has one more.
substitutes : (n : ℕ) (cls deg : ℕ → ℕ) (E : Graph) (a o i : ℕ) → o < n → i < n → cls i ≡ cls a → degree n E i + δ i o < deg (cls a)
    → Substitutes n cls deg E a o (substitute n cls deg E a o)
substitutes n cls deg E a o i on inn e spare = go (dec_lt r n) (ℕ_discrete i o)
  where
    r : ℕ
    r = lowest 0 n (can_substitute n cls deg E a o)

    found : r < n → Substitutes n cls deg E a o (cond (ltb r n) r o)
    found h = rw (lt-ltb r n h) (tested n cls deg E a o r h (lowest-holds 0 n (can_substitute n cls deg E a o) (omega arith) h))

    passes : i ≢ o → can_substitute n cls deg E a o i ≡ true
    passes h = rw (eq-eqb (cls i) (cls a) e, lt-ltb (degree n E i) (deg (cls i)) (rw e (omega arith)), ne_eqb i o h)

    go : Dec (r < n) → Dec (i ≡ o) → Substitutes n cls deg E a o (cond (ltb r n) r o)
    go (yes h) d = found h
    go (no h) (no d) = absurd (h (omega (arith, lowest-found 0 n (can_substitute n cls deg E a o) (omega arith) i (omega arith) inn (passes d))))
    go (no h) (yes d) =
        let class : cls o ≡ cls a = rw (← d) e in
        let room : degree n E o + 1 < deg (cls a) = rw (← d, ← (δ-same i o d)) spare in
        rw (le-ltb r n (omega arith))
        (record { vertex = on; class = class; room = rw class (omega arith); last = λ q. rw class room })

-- t is a vertex whose edge can move from a to b
record Transfers (n : ℕ) (E : Graph) (a b t : ℕ) : Type 0 where
  vertex : t < n
  linked : E a t ≡ 1
  unlinked : E b t ≡ 0
  not-b : t ≢ b

-- Where b has fewer edges than a, there is such a vertex. In the comparison of the rows of b and a each row gets the edge a – b
-- once more, at its own vertex: the sums still compare, and neither t = a nor t = b can be smaller.
transferable : (n : ℕ) (E : Graph) (a b : ℕ) → Simple n E → a < n → b < n → degree n E b < degree n E a → (t : ℕ) × Transfers n E a b t
transferable n E a b s an bn less =
    let r = sum_to-less n (λ t. E b t + δ t b * E a b) (λ t. E a t + δ t a * E b a) sums in (r.0, at r.0 r.1 r.2)
  where
    sums : sum_to n (λ t. E b t + δ t b * E a b) < sum_to n (λ t. E a t + δ t a * E b a)
    sums =
        rw (
          sum_to-add n (E b) (λ t. δ t b * E a b),
          sum_to-at n b (λ t. E a b) bn,
          sum_to-add n (E a) (λ t. δ t a * E b a),
          sum_to-at n a (λ t. E b a) an,
        )
        (omega (arith, s.symmetric a b an bn))

    at : (t : ℕ) → t < n → E b t + δ t b * E a b < E a t + δ t a * E b a → Transfers n E a b t
    at t tn h = go (ℕ_discrete t a) (ℕ_discrete t b)
      where
        go : Dec (t ≡ a) → Dec (t ≡ b) → Transfers n E a b t
        go (yes p) q =
            let g : E b a + δ a b * E a b < E a a + 1 * E b a = rw (← (δ-self a)) (rw p at h) in
            absurd (omega (arith, s.loopless a an, one-mul (E b a)))
        go (no p) (yes q) =
            let g : E b b + 1 * E a b < E a b + δ b a * E b a = rw (← (δ-self b)) (rw q at h) in
            absurd (omega (arith, one-mul (E a b), ap (λ (d : ℕ). d * E b a) (δ-other b a (λ e. p (q ∙ e))), zero-mul (E b a)))
        go (no p) (no q) =
            let g : E b t + δ t b * E a b < E a t + 0 * E b a = rw (← (δ-other t a p)) h in
            record {
              vertex = tn;
              linked = omega (arith, s.binary a t an tn, zero-mul (E b a));
              unlinked = omega (arith, s.binary a t an tn, zero-mul (E b a));
              not-b = q;
            }

-- so the lowest such vertex is one
transfers : (n : ℕ) (E : Graph) (a b i : ℕ) → Transfers n E a b i → Transfers n E a b (transfer n E a b)
transfers n E a b i h =
    record {
      vertex = below;
      linked = eqb-true (E a t) 1 (and_right (not (eqb t b)) (eqb (E a t) 1) both);
      unlinked = eqb-true (E b t) 0 (and_right (not (eqb t b) && eqb (E a t) 1) (eqb (E b t) 0) holds);
      not-b = eqb-false t b (not-true (eqb t b) (and_left (not (eqb t b)) (eqb (E a t) 1) both));
    }
  where
    t : ℕ
    t = transfer n E a b

    passes : can_transfer E a b i ≡ true
    passes = rw (ne_eqb i b h.not-b, eq-eqb (E a i) 1 h.linked, eq-eqb (E b i) 0 h.unlinked)

    below : t < n
    below = omega (arith, lowest-found 0 n (can_transfer E a b) (omega arith) i (omega arith) h.vertex passes, h.vertex)

    holds : can_transfer E a b t ≡ true
    holds = lowest-holds 0 n (can_transfer E a b) (omega arith) below

    both : not (eqb t b) && eqb (E a t) 1 ≡ true
    both = and_left (not (eqb t b) && eqb (E a t) 1) (eqb (E b t) 0) holds

-- a is saturated and may be linked to o
pub choices : (n C : ℕ) (cls deg : ℕ → ℕ) (T : ℕ → ℕ → ℕ) (E : Graph) (a o : ℕ) → Target n C cls deg T → Partial n C cls deg T E
    → Open n cls T E a o → unsaturated n cls deg E a ≡ false
    → Choices n C cls deg T E a o (substitute n cls deg E a o) (transfer n E a (substitute n cls deg E a o))
choices n C cls deg T E a o target partial pair full =
    record {
      b_vertex = sub.vertex;
      b_class = sub.class;
      b_room = sub.room;
      b_last = sub.last;
      b_other = λ e. absurd (omega (arith, less, ap (degree n E) e));
      t_vertex = tra.vertex;
      t_linked = tra.linked;
      t_unlinked = tra.unlinked;
      t_not_b = tra.not-b;
      t_not_a = λ e. absurd (omega (arith, tra.linked, ap (E a) e, partial.simple.loopless a pair.first));
      t_not_o = λ e. absurd (omega (arith, tra.linked, ap (E a) e, pair.unlinked));
    }
  where
    b : ℕ
    b = substitute n cls deg E a o

    sub : Substitutes n cls deg E a o b
    sub =
        let r = spare n C cls deg T E target partial (cls a) o (target.classed a pair.first) pair.second pair.short in
        substitutes n cls deg E a o r.0 pair.second r.1 r.2 r.3

    less : degree n E b < degree n E a
    less = omega (arith, ltb-false (degree n E a) (deg (cls a)) full, sub.room, ap deg sub.class)

    tra : Transfers n E a b (transfer n E a b)
    tra =
        let r = transferable n E a b partial.simple pair.first sub.vertex less in
        transfers n E a b r.0 r.1
