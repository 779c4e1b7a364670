-- The substitute found among the vertices of a class, from one before which all others are saturated, is document 01's b.
-- Assumes nothing.
use mathlib.Core.Path.{◌≡◌, sym, ap, ◌∙◌}
use mathlib.Core.Bool.{Bool, true, false}
use mathlib.Core.List.{List}
use Prim.Native.Nat.{ℕ, ◌+◌, ◌≤◌, ◌<◌, zero-le}
use native.Mathlib.Decide.{ℕ_discrete, dec_lt}
use native.Mathlib.Omega.{arith}
use lib.Dec.{ltb}
use lib.ListN.{get_or}
use borrow.Author.Tests.{eq-eqb, ne_eqb, lt-ltb, le-ltb}
use Rattle.finite.specs.Range.{lowest}
use Rattle.finite.proofs.All.{and-false}
use Rattle.finite.proofs.Lowest.{lowest-skip, lowest-cong, lowest-ge, lowest-holds, lowest-before, lowest-only, lowest-none, lowest-here, lowest-end}
use Rattle.graph.specs.Switch.{unsaturated, can_substitute, or_else}
use Rattle.graph.specs.Tests.{most_classes, class_degree}
use Rattle.adjacency.specs.Adjacency.{edge}
use Rattle.adjacency.specs.Inner.Degrees.{degrees_of}
use Rattle.adjacency.proofs.Degrees.{degrees_are}
use Rattle.join_bytes.specs.Join.{substitute_at}
use Rattle.classes.specs.Inner.Block.{class_from}
use Rattle.join_bytes.specs.Inner.Joinable.{Joinable}
use Rattle.switching.specs.Inner.Work.{Placed, can_stand_in, substitute_in}
use Rattle.switching.specs.declared.End.{End}
use Rattle.classes.proofs.Blocks.{start_most, class_inside, class_only}

-- how a search ends that has passed over the numbers before b
pub else_found : (from to b other : ℕ) (p : ℕ → Bool) → lowest from to p ≡ lowest b to p → b < to → p b ≡ true
    → b ≡ or_else to other (lowest from to p)
else_found from to b other p e l t = rw (e ∙ lowest-here b to p l t, lt-ltb b to l)

pub else_none : (from to b other : ℕ) (p : ℕ → Bool) → lowest from to p ≡ lowest b to p → to ≤ b
    → other ≡ or_else to other (lowest from to p)
else_none from to b other p e l = rw (e ∙ lowest-end b to p l, le-ltb b to l)

-- a search may stop where no number passes any more
else_cut : (a c b other : ℕ) (p : ℕ → Bool) → a ≤ c → c ≤ b → ((i : ℕ) → c ≤ i → i < b → p i ≡ false)
    → or_else c other (lowest a c p) ≡ or_else b other (lowest a b p)
else_cut a c b other p ac cb f = go (dec_lt (lowest a c p) c)
  where
    go : Dec (lowest a c p < c) → or_else c other (lowest a c p) ≡ or_else b other (lowest a b p)
    go (yes l) =
        rw (
          lowest-only a b p (omega arith) (lowest a c p) (lowest-ge a c p ac) (omega arith) (lowest-holds a c p ac l) (lowest-before a c p ac),
          lt-ltb (lowest a c p) c l,
          lt-ltb (lowest a c p) b (omega arith),
        )
    go (no l) =
        rw (
          lowest-none a b p (omega arith) (λ j g m. fails j g m (dec_lt j c)),
          le-ltb (lowest a c p) c (omega arith),
          le-ltb b b (omega arith),
        )
      where
        fails : (j : ℕ) → a ≤ j → j < b → Dec (j < c) → p j ≡ false
        fails j g m (yes q) = lowest-before a c p ac j g (omega arith)
        fails j g m (no q) = f j (omega arith) m

module _ {n : ℕ} {starts g : List ℕ} {a : End} {o : ℕ} (j : Joinable n (class_from starts) g a.at o) (p : Placed n starts g a o) where
  abbrev cls : ℕ → ℕ
  cls = class_from starts

  abbrev to : ℕ
  to = get_or starts (a.class + 1) 0

  pub class_below : a.class < most_classes
  class_below = rw p.class (j.target.classed a.at j.pair.first)

  pub end_within : to ≤ n
  end_within = start_most p.numbered (a.class + 1) (omega (arith, class_below))

  -- no vertex can substitute before `low` or behind the class
  other-class : (i : ℕ) → (cls i ≡ a.class → ⊥) → can_substitute n cls class_degree (edge g) a.at o i ≡ false
  other-class i d = rw (ne_eqb (cls i) (cls a.at) (λ e. d (e ∙ sym p.class)))

  before : (i : ℕ) → i < a.low → can_substitute n cls class_degree (edge g) a.at o i ≡ false
  before i l = go (ℕ_discrete (cls i) a.class) (ℕ_discrete i o)
    where
      go : Dec (cls i ≡ a.class) → Dec (i ≡ o) → can_substitute n cls class_degree (edge g) a.at o i ≡ false
      go (no e) d = other-class i e
      go (yes e) (yes d) = rw (eq-eqb (cls i) (cls a.at) (e ∙ p.class), eq-eqb i o d) (and-false (unsaturated n cls class_degree (edge g) i))
      go (yes e) (no d) = rw (eq-eqb (cls i) (cls a.at) (e ∙ p.class), p.saturated i l e d)

  behind : (i : ℕ) → to ≤ i → i < n → can_substitute n cls class_degree (edge g) a.at o i ≡ false
  behind i l m = other-class i (λ e. omega (arith, class_only p.numbered a.class i class_below m e))

  -- `degrees`: the edges of each vertex, as the code has them
  module _ {degrees : List ℕ} (is : degrees ≡ degrees_of n g) where
    inside : (i : ℕ) → a.low ≤ i → i < to → can_stand_in degrees (class_degree a.class) o i ≡ can_substitute n cls class_degree (edge g) a.at o i
    inside i f t =
        let e = class_inside p.numbered a.class i class_below (omega (arith, p.after)) t in
        rw (eq-eqb (cls i) (cls a.at) (e ∙ p.class), e, degrees_are n j.few g is i (omega (arith, end_within)))

    pub substitute-in : substitute_in degrees starts a o ≡ substitute_at n cls g a.at o
    substitute-in =
        ap (or_else to o) (lowest-cong a.low to (can_stand_in degrees (class_degree a.class) o) (can_substitute n cls class_degree (edge g) a.at o) inside)
        ∙ else_cut a.low to n o (can_substitute n cls class_degree (edge g) a.at o) p.before end_within behind
        ∙ ap (or_else n o)
        (sym (lowest-skip 0 a.low n (can_substitute n cls class_degree (edge g) a.at o) zero-le (omega (arith, p.before, end_within))
        (λ i z l. before i l)))

    -- whether a is saturated
    saturated-in : ltb (get_or degrees a.at 0) (class_degree a.class) ≡ unsaturated n cls class_degree (edge g) a.at
    saturated-in = rw (degrees_are n j.few g is a.at j.pair.first, p.class)

    pub room_in : get_or degrees a.at 0 < class_degree a.class → unsaturated n cls class_degree (edge g) a.at ≡ true
    room_in l = sym saturated-in ∙ lt-ltb (get_or degrees a.at 0) (class_degree a.class) l

    pub full_in : class_degree a.class ≤ get_or degrees a.at 0 → unsaturated n cls class_degree (edge g) a.at ≡ false
    full_in l = sym saturated-in ∙ le-ltb (get_or degrees a.at 0) (class_degree a.class) l
