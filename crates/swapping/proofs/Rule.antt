-- What the test of the rule says, and back; it looks at no vertex but the four.
-- Assumes nothing.
use mathlib.Core.Path.{◌≡◌, refl}
use mathlib.Core.Bool.{Bool, true, false, ◌&&◌, not}
use mathlib.Core.List.{List}
use mathlib.Core.Logic.{◌≢◌}
use Prim.Native.Nat.{ℕ, ◌≤◌, ◌<◌}
use native.Mathlib.Omega.{arith}
use lib.Dec.{eqb, ltb}
use borrow.Author.Tests.{eqb-true, eq-eqb, ltb-true, lt-ltb, not-true, eqb-false, ne_eqb}
use Rattle.finite.proofs.All.{and_left, and_right}
use Rattle.adjacency.specs.Adjacency.{edge}
use Rattle.swapping.specs.declared.Swap.{Swap}
use Rattle.swapping.specs.Swap.{are_vertices, have_edges, are_distinct, are_free, is_allowed, can_swap}
use Rattle.swapping.specs.Theorems.{CanSwap}

apart : (v w : ℕ) → not (eqb v w) ≡ true → v ≢ w
apart v w h = eqb-false v w (not-true (eqb v w) h)

differ : (v w : ℕ) → v ≢ w → not (eqb v w) ≡ true
differ v w h = rw (ne_eqb v w h)

module _ (x : Swap) where
  pub are-vertices : (n : ℕ) → are_vertices n x ≡ true → (x.a < n) × (x.b < n) × (x.c < n) × (x.d < n)
  are-vertices n h =
      let abc = and_left (ltb x.a n && ltb x.b n && ltb x.c n) (ltb x.d n) h in
      let ab = and_left (ltb x.a n && ltb x.b n) (ltb x.c n) abc in (
        ltb-true x.a n (and_left (ltb x.a n) (ltb x.b n) ab),
        ltb-true x.b n (and_right (ltb x.a n) (ltb x.b n) ab),
        ltb-true x.c n (and_right (ltb x.a n && ltb x.b n) (ltb x.c n) abc),
        ltb-true x.d n (and_right (ltb x.a n && ltb x.b n && ltb x.c n) (ltb x.d n) h),
      )

  pub vertices-are : (n : ℕ) → x.a < n → x.b < n → x.c < n → x.d < n → are_vertices n x ≡ true
  vertices-are n a b c d = rw (lt-ltb x.a n a, lt-ltb x.b n b, lt-ltb x.c n c, lt-ltb x.d n d)

  -- among more vertices too
  pub more_vertices : (n m : ℕ) → n ≤ m → are_vertices n x ≡ true → are_vertices m x ≡ true
  more_vertices n m l h = let v = are-vertices n h in vertices-are m (omega (arith, v.0)) (omega (arith, v.1)) (omega (arith, v.2)) (omega (arith, v.3))

  abbrev ab : Bool
  ab = not (eqb x.a x.b)

  abbrev ac : Bool
  ac = not (eqb x.a x.c)

  abbrev ad : Bool
  ad = not (eqb x.a x.d)

  abbrev bc : Bool
  bc = not (eqb x.b x.c)

  abbrev bd : Bool
  bd = not (eqb x.b x.d)

  abbrev cd : Bool
  cd = not (eqb x.c x.d)

  module _ (n : ℕ) (cls : ℕ → ℕ) (g : List ℕ) where
    pub rule_met : can_swap n cls g x ≡ true → CanSwap n cls (edge g) x
    rule_met h =
        record {
          a_vertex = v.0;
          b_vertex = v.1;
          c_vertex = v.2;
          d_vertex = v.3;
          first = eqb-true (edge g x.a x.b) 1 (and_left _ (eqb (edge g x.c x.d) 1) e);
          second = eqb-true (edge g x.c x.d) 1 (and_right (eqb (edge g x.a x.b) 1) _ e);
          ab = apart x.a x.b (and_left ab ac two);
          ac = apart x.a x.c (and_right ab ac two);
          ad = apart x.a x.d (and_right (ab && ac) ad three);
          bc = apart x.b x.c (and_right (ab && ac && ad) bc four);
          bd = apart x.b x.d (and_right (ab && ac && ad && bc) bd five);
          cd = apart x.c x.d (and_right (ab && ac && ad && bc && bd) cd dist);
          same_class = eqb-true (cls x.a) (cls x.c) (and_right (have_edges g x && are_distinct x) _ edc);
          no_ad = eqb-true (edge g x.a x.d) 0 (and_left _ (eqb (edge g x.b x.c) 0) f);
          no_bc = eqb-true (edge g x.b x.c) 0 (and_right (eqb (edge g x.a x.d) 0) _ f);
        }
      where
        v : (x.a < n) × (x.b < n) × (x.c < n) × (x.d < n)
        v = are-vertices n (and_left (are_vertices n x) (is_allowed cls g x) h)

        r : is_allowed cls g x ≡ true
        r = and_right (are_vertices n x) (is_allowed cls g x) h

        edc : have_edges g x && are_distinct x && eqb (cls x.a) (cls x.c) ≡ true
        edc = and_left (have_edges g x && are_distinct x && eqb (cls x.a) (cls x.c)) (are_free g x) r

        f : are_free g x ≡ true
        f = and_right (have_edges g x && are_distinct x && eqb (cls x.a) (cls x.c)) _ r

        ed : have_edges g x && are_distinct x ≡ true
        ed = and_left _ (eqb (cls x.a) (cls x.c)) edc

        e : have_edges g x ≡ true
        e = and_left _ (are_distinct x) ed

        dist : are_distinct x ≡ true
        dist = and_right (have_edges g x) _ ed

        five : ab && ac && ad && bc && bd ≡ true
        five = and_left _ cd dist

        four : ab && ac && ad && bc ≡ true
        four = and_left _ bd five

        three : ab && ac && ad ≡ true
        three = and_left _ bc four

        two : ab && ac ≡ true
        two = and_left _ ad three

    pub met_rule : CanSwap n cls (edge g) x → can_swap n cls g x ≡ true
    met_rule c =
        rw (
          vertices-are n c.a_vertex c.b_vertex c.c_vertex c.d_vertex,
          eq-eqb (edge g x.a x.b) 1 c.first,
          eq-eqb (edge g x.c x.d) 1 c.second,
          ne_eqb x.a x.b c.ab,
          ne_eqb x.a x.c c.ac,
          ne_eqb x.a x.d c.ad,
          ne_eqb x.b x.c c.bc,
          ne_eqb x.b x.d c.bd,
          ne_eqb x.c x.d c.cd,
          eq-eqb (cls x.a) (cls x.c) c.same_class,
          eq-eqb (edge g x.a x.d) 0 c.no_ad,
          eq-eqb (edge g x.b x.c) 0 c.no_bc,
        )

  -- classes that agree on the vertices
  pub rule_same : (n : ℕ) (cls cls' : ℕ → ℕ) → ((v : ℕ) → v < n → cls v ≡ cls' v) → (g : List ℕ) → can_swap n cls g x ≡ can_swap n cls' g x
  rule_same n cls cls' same g = go (are_vertices n x) refl
    where
      go : (b : Bool) → are_vertices n x ≡ b → can_swap n cls g x ≡ can_swap n cls' g x
      go false e = rw e
      go true e = let v = are-vertices n e in rw (same x.a v.0, same x.c v.2)
