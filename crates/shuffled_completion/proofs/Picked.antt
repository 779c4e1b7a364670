-- The pair that is picked: where a cell is short there are open pairs, so that the position falls on one of them, and on no other.
-- Assumes nothing.
use mathlib.Core.Path.{◌≡◌, refl, sym, ap, ◌∙◌}
use mathlib.Core.Bool.{Bool, true, false, ◌&&◌}
use mathlib.Core.List.{List}
use mathlib.Core.Logic.{◌≢◌}
use Prim.Native.Nat.{ℕ, ◌+◌, ◌-◌, ◌≤◌, ◌<◌}
use native.Mathlib.Nat.{mod-lt}
use native.Mathlib.Decide.{dec_lt}
use native.Mathlib.Omega.{arith}
use lib.Dec.{eqb, ltb}
use borrow.Author.Tests.{lt-ltb, eq-eqb, ne_eqb, ltb-true, eqb-true, le-ltb}
use Rattle.finite.specs.Range.{bit}
use Rattle.finite.proofs.Sum.{sum_to-more, sum_to-term, sum_to-le}
use Rattle.finite.proofs.Seek.{sum_to-seek, bits_seek}
use Rattle.finite.proofs.Lowest.{lowest-only, lowest-none}
use Rattle.finite.proofs.All.{and_left, and_right, and_both}
use Rattle.graph.specs.Graph.{jdm}
use Rattle.graph.specs.Target.{Open, is_short}
use Rattle.graph.specs.Tests.{most_classes, class_degree}
use Rattle.graph.proofs.Necessary.{necessary_always}
use Rattle.graph.proofs.OpenPair.{short_has_open_pair}
use Rattle.adjacency.specs.Adjacency.{edge}
use Rattle.completion.specs.Choice.{short_k, short_l}
use Rattle.completion.specs.Inner.Cellwise.{Filling}
use Rattle.completion.proofs.Works.{short_cell}
use Rattle.shuffled_completion.specs.Choice.{is_open, open_in_row, open_before, open_count, stands_at, pair_w, pair_v, position}

module _ (n : ℕ) (cls : ℕ → ℕ) (T : ℕ → ℕ → ℕ) (g : List ℕ) where
  -- an open pair, lower vertex first, passes the test, and what passes it is one
  pub open_passes : (v w : ℕ) → v < w → Open n cls T (edge g) v w → is_open n cls T g v w ≡ true
  open_passes v w h o =
      and_both (ltb v w && eqb (edge g v w) 0) (is_short n cls T (edge g) (cls v) (cls w))
      (and_both (ltb v w) (eqb (edge g v w) 0) (lt-ltb v w h) (eq-eqb (edge g v w) 0 o.unlinked))
      (lt-ltb (jdm n cls (edge g) (cls v) (cls w)) (T (cls v) (cls w)) o.short)

  pub passes-rising : (v w : ℕ) → is_open n cls T g v w ≡ true → v < w
  passes-rising v w e =
      ltb-true v w (and_left (ltb v w) (eqb (edge g v w) 0) (and_left (ltb v w && eqb (edge g v w) 0) (is_short n cls T (edge g) (cls v) (cls w)) e))

  pub passes-open : (v w : ℕ) → w < n → is_open n cls T g v w ≡ true → Open n cls T (edge g) v w
  passes-open v w wn e =
      record {
        first = omega (arith, passes-rising v w e);
        second = wn;
        distinct = λ d. omega (arith, passes-rising v w e);
        unlinked =
            eqb-true (edge g v w) 0
            (and_right (ltb v w) (eqb (edge g v w) 0) (and_left (ltb v w && eqb (edge g v w) 0) (is_short n cls T (edge g) (cls v) (cls w)) e));
        short =
            ltb-true (jdm n cls (edge g) (cls v) (cls w)) (T (cls v) (cls w))
            (and_right (ltb v w && eqb (edge g v w) 0) (is_short n cls T (edge g) (cls v) (cls w)) e);
      }

  -- an open pair takes a place of its own among those of its row, and its row among the rows
  row-grows : (v w : ℕ) → w < n → is_open n cls T g v w ≡ true → open_in_row n cls T g v w + 1 ≤ open_in_row n cls T g v n
  row-grows v w wn e =
      omega (
        arith,
        sum_to-more (λ u. bit (is_open n cls T g v u)) w,
        ap bit e,
        sum_to-le (w + 1) n (λ u. bit (is_open n cls T g v u)) (omega arith),
      )

  rows_grow : (v u : ℕ) → v < u → open_before n cls T g v + open_in_row n cls T g v n ≤ open_before n cls T g u
  rows_grow v u h =
      omega (
        arith,
        sum_to-more (λ i. open_in_row n cls T g i n) v,
        sum_to-le (v + 1) u (λ i. open_in_row n cls T g i n) (omega arith),
      )

  -- What stands at a position, and that nothing else does.
  module _ (q v w : ℕ) (vn : v < n) (wn : w < n) (passes : is_open n cls T g v w ≡ true)
      (before : open_before n cls T g v + open_in_row n cls T g v w ≡ q) where
    stands : stands_at n cls T g q v w ≡ true
    stands = and_both (is_open n cls T g v w) (eqb (open_before n cls T g v + open_in_row n cls T g v w) q) passes (eq-eqb _ q before)

    not-here : (u x : ℕ) → (is_open n cls T g u x ≡ true → open_before n cls T g u + open_in_row n cls T g u x ≢ q) → stands_at n cls T g q u x ≡ false
    not-here u x other = go (is_open n cls T g u x) refl
      where
        go : (t : Bool) → is_open n cls T g u x ≡ t → t && eqb (open_before n cls T g u + open_in_row n cls T g u x) q ≡ false
        go true e = ne_eqb _ q (other e)
        go false e = refl

    pub pair-column : pair_w n cls T g q v ≡ w
    pair-column =
        lowest-only 0 n (stands_at n cls T g q v) (omega arith) w (omega arith) wn stands
        (λ x l xw. not-here v x (λ e d. omega (
          arith,
          d,
          before,
          sum_to-more (λ u. bit (is_open n cls T g v u)) x,
          ap bit e,
          sum_to-le (x + 1) w (λ u. bit (is_open n cls T g v u)) (omega arith),
        )))

    none_before : (u : ℕ) → u < v → pair_w n cls T g q u ≡ n
    none_before u h =
        lowest-none 0 n (stands_at n cls T g q u) (omega arith)
        (λ x l xn. not-here u x (λ e d. omega (arith, d, before, row-grows u x xn e, rows_grow u v h)))

    pub pair_row : pair_v n cls T g q ≡ v
    pair_row =
        lowest-only 0 n (λ u. ltb (pair_w n cls T g q u) n) (omega arith) v (omega arith) vn (lt-ltb _ n (omega (arith, pair-column)))
        (λ u l h. le-ltb _ n (omega (arith, none_before u h)))

  -- what is picked at a position below the number of open pairs
  pub record Picked (q : ℕ) : Type 0 where
    pub passes : is_open n cls T g (pair_v n cls T g q) (pair_w n cls T g q (pair_v n cls T g q)) ≡ true
    pub second : pair_w n cls T g q (pair_v n cls T g q) < n

  pub picked : (q : ℕ) → q < open_count n cls T g → Picked q
  picked q h =
      let r = sum_to-seek n (λ u. open_in_row n cls T g u n) q h in
      row r.0 r.1 r.2 r.3
    where
      row : (v : ℕ) → v < n → open_before n cls T g v ≤ q → q < open_before n cls T g v + open_in_row n cls T g v n → Picked q
      row v vn le lt = column (bits_seek n (is_open n cls T g v) (q - open_before n cls T g v) (omega arith))
        where
          column : (w : ℕ) × (w < n) × (is_open n cls T g v w ≡ true) × (open_in_row n cls T g v w ≡ q - open_before n cls T g v) → Picked q
          column c =
              let before : open_before n cls T g v + open_in_row n cls T g v c.0 ≡ q = omega (arith, c.3) in
              let row = pair_row q v c.0 vn c.1 c.2 before in
              let column = pair-column q v c.0 vn c.1 c.2 before in
              record { passes = rw (row, column) c.2; second = rw (row, column) c.1 }

  -- a short cell has an open pair, so there are some
  module _ (f : Filling n cls T g) where
    counted : (v w : ℕ) → v < w → Open n cls T (edge g) v w → 0 < open_count n cls T g
    counted v w h o =
        omega (
          arith,
          row-grows v w o.second (open_passes v w h o),
          sum_to-term n (λ u. open_in_row n cls T g u n) v o.first,
        )

    turned : (v w : ℕ) → Open n cls T (edge g) v w → Open n cls T (edge g) w v
    turned v w o =
        record {
          first = o.second;
          second = o.first;
          distinct = λ e. o.distinct (sym e);
          unlinked = f.partial.simple.symmetric w v o.second o.first ∙ o.unlinked;
          short =
              rw (
                (necessary_always n most_classes cls (edge g) f.partial.simple f.target.classed).symmetric (cls w) (cls v),
                f.target.symmetric (cls w) (cls v) (f.target.classed w o.second) (f.target.classed v o.first),
              )
              o.short;
        }

    pub some_open : ltb (short_k n cls T g) most_classes ≡ true → 0 < open_count n cls T g
    some_open e =
        let h = short_cell n cls T g e in
        let s = short_has_open_pair n most_classes cls class_degree T (edge g) f.target f.partial (short_k n cls T g) (short_l n cls T g (short_k n cls T g)) h.0 h.1 h.2 in
        go s.0 s.1 s.5 (dec_lt s.0 s.1)
      where
        go : (v w : ℕ) → Open n cls T (edge g) v w → Dec (v < w) → 0 < open_count n cls T g
        go v w o (yes h) = counted v w h o
        go v w o (no h) = counted w v (omega (arith, o.distinct)) (turned v w o)

    pub position-below : ltb (short_k n cls T g) most_classes ≡ true → (x : ℕ) → position n cls T g x < open_count n cls T g
    position-below e x = mod-lt _ (some_open e)
