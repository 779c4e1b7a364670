-- The searches over ranges find the lowest open pair: a class is a range of vertices, and what the cursors have passed is done.
-- Assumes nothing.
use mathlib.Core.Path.{◌≡◌, refl, sym, ◌∙◌}
use mathlib.Core.Bool.{Bool, true, false, ◌&&◌, true≢false}
use mathlib.Core.List.{List}
use Prim.Native.Nat.{ℕ, ◌+◌, ◌≤◌, ◌<◌, max}
use native.Mathlib.Decide.{ℕ_discrete, dec_lt}
use native.Mathlib.Omega.{arith}
use lib.Dec.{eqb, ltb}
use borrow.Author.Tests.{eq-eqb, ne_eqb, lt-ltb, le-ltb, ltb-true, ltb-false, eqb-true}
use Rattle.finite.specs.Range.{lowest}
use Rattle.finite.proofs.Lowest.{lowest-skip, lowest-only, lowest-none, lowest-holds, lowest-before, lowest-ge}
use Rattle.finite.proofs.All.{and_left, and_right, and-false}
use Rattle.adjacency.specs.Adjacency.{edge}
use Rattle.layout.specs.Layout.{most_vertices}
use Rattle.completion.specs.Choice.{open_column, open_w, open_v}
use Rattle.cell_filling.specs.Inner.Cursor.{free_column, RowsDone, ColumnsDone}
use Rattle.cell_filling.specs.Inner.Search.{first_column, lowest_column, has_column, Searchable, Ranged}
use Rattle.cell_filling.specs.declared.pair.Cell.{Cell}

-- the columns that the cursor has passed need not be searched: b is where the columns begin, f where the search does, r what it finds
pub column_resumed : {g : List ℕ} {c : Cell} {v w : ℕ} → Searchable g c v w → v < c.rows.to
    → (b f r : ℕ) → b ≡ first_column c v → f ≡ max w b → r ≡ lowest f c.columns.to (free_column g v) → r ≡ lowest_column g c v
column_resumed {g} {c} {v} {w} s h b f r eb ef er =
    er
    ∙ sym (lowest-skip (first_column c v) f c.columns.to (free_column g v) (omega arith)
    (omega (arith, s.first v (omega arith) h)) (λ x a d. s.done x a (omega arith)))

-- the test of a column that is in the range, before it and behind it
module _ (n : ℕ) (cls : ℕ → ℕ) (g : List ℕ) (c : Cell) (r : Ranged n cls c) where
  abbrev k : ℕ
  k = c.k

  abbrev l : ℕ
  l = c.l

  module _ (u : ℕ) (un : u < n) (uk : cls u ≡ c.k) (x : ℕ) where
    column-inside : first_column c u ≤ x → x < c.columns.to → open_column cls g k l u x ≡ free_column g u x
    column-inside a b = go (ℕ_discrete k l)
      where
        go : Dec (k ≡ l) → open_column cls g k l u x ≡ free_column g u x
        go (yes e) =
            let ux : u + 1 ≤ x = rw (eq-eqb k l e) at a in
            rw (
              eq-eqb (cls x) l (r.columns.inside x (omega (arith, r.columns.only u un (uk ∙ e))) b),
              eq-eqb k l e,
              lt-ltb u x (omega arith),
              ne_eqb u x (λ q. omega arith),
            )
        go (no e) =
            let fx : c.columns.from ≤ x = rw (ne_eqb k l e) at a in
            rw (eq-eqb (cls x) l (r.columns.inside x fx b), ne_eqb k l e)

    column-before : x < n → x < first_column c u → open_column cls g k l u x ≡ false
    column-before xn a = go (ℕ_discrete k l)
      where
        go : Dec (k ≡ l) → open_column cls g k l u x ≡ false
        go (yes e) =
            let xu : x < u + 1 = rw (eq-eqb k l e) at a in
            rw (eq-eqb k l e, le-ltb u x (omega arith)) (and-false (eqb (cls x) l && eqb (edge g u x) 0))
        go (no e) =
            let xf : x < c.columns.from = rw (ne_eqb k l e) at a in
            rw (ne_eqb (cls x) l (λ q. omega (arith, r.columns.only x xn q)))

    column-behind : x < n → c.columns.to ≤ x → open_column cls g k l u x ≡ false
    column-behind xn a = rw (ne_eqb (cls x) l (λ q. omega (arith, r.columns.only x xn q)))

  module _ (u : ℕ) (un : u < n) (uk : cls u ≡ c.k) where
    -- the columns of a row of the cell begin no later than they end
    pub first_column-le : first_column c u ≤ c.columns.to
    first_column-le = go (ℕ_discrete k l)
      where
        go : Dec (k ≡ l) → first_column c u ≤ c.columns.to
        go (yes e) = rw (eq-eqb k l e) (omega (arith, r.columns.only u un (uk ∙ e)))
        go (no e) = rw (ne_eqb k l e) r.columns.ordered

    -- a free column that is found is the lowest open one
    column-found : has_column g c u ≡ true → open_w n cls g k l u ≡ lowest_column g c u
    column-found h =
        lowest-only 0 n (open_column cls g k l u) (omega arith) (lowest_column g c u) (omega arith) (omega (arith, below, r.columns.within))
        (column-inside u un uk (lowest_column g c u) from below
        ∙ lowest-holds (first_column c u) c.columns.to (free_column g u) first_column-le below)
        (λ x z xw. passed x xw (dec_lt x (first_column c u)))
      where
        below : lowest_column g c u < c.columns.to
        below = ltb-true (lowest_column g c u) c.columns.to h

        from : first_column c u ≤ lowest_column g c u
        from = lowest-ge (first_column c u) c.columns.to (free_column g u) first_column-le

        passed : (x : ℕ) → x < lowest_column g c u → Dec (x < first_column c u) → open_column cls g k l u x ≡ false
        passed x xw (yes p) = column-before u un uk x (omega (arith, below, r.columns.within)) p
        passed x xw (no p) =
            column-inside u un uk x (omega arith) (omega (arith, below))
            ∙ lowest-before (first_column c u) c.columns.to (free_column g u) first_column-le x (omega arith) xw

    -- where none is free, none is open
    column-missing : has_column g c u ≡ false → open_w n cls g k l u ≡ n
    column-missing h =
        lowest-none 0 n (open_column cls g k l u) (omega arith)
        (λ x z xn. none x xn (dec_lt x (first_column c u)) (dec_lt x c.columns.to))
      where
        none : (x : ℕ) → x < n → Dec (x < first_column c u) → Dec (x < c.columns.to) → open_column cls g k l u x ≡ false
        none x xn (yes p) q = column-before u un uk x xn p
        none x xn (no p) (no q) = column-behind u un uk x xn (omega arith)
        none x xn (no p) (yes q) =
            column-inside u un uk x (omega arith) q
            ∙ lowest-before (first_column c u) c.columns.to (free_column g u) first_column-le x (omega arith)
            (omega (arith, ltb-false (lowest_column g c u) c.columns.to h))

  -- where a search may begin
  pub searchable : n ≤ most_vertices → (v w : ℕ) → c.rows.from ≤ v → v < c.rows.to → w ≤ c.columns.to → ColumnsDone cls g k l v w
      → Searchable g c v w
  searchable few v w fv vt wt done =
      record {
        rows = omega (arith, r.rows.within);
        columns = omega (arith, r.columns.within);
        row = omega arith;
        column = wt;
        first = λ u a b. first_column-le u (omega (arith, r.rows.within)) (r.rows.inside u (omega arith) b);
        done = λ x a b. sym (column-inside v (omega (arith, r.rows.within)) (r.rows.inside v fv vt) x a (omega arith)) ∙ done x b;
      }

  -- where a pair is open, the search from a row on that has only done rows before it finds the lowest
  pub record Found (v : ℕ) : Type 0 where
    pub row : lowest v c.rows.to (has_column g c) ≡ open_v n cls g k l
    pub row_from : v ≤ open_v n cls g k l
    pub row_below : open_v n cls g k l < c.rows.to
    pub column : lowest_column g c (open_v n cls g k l) ≡ open_w n cls g k l (open_v n cls g k l)
    pub column_below : open_w n cls g k l (open_v n cls g k l) < c.columns.to

  module _ (open-below : open_v n cls g k l < n) where
    top : ℕ
    top = open_v n cls g k l

    row-test : ℕ → Bool
    row-test u = eqb (cls u) k && ltb (open_w n cls g k l u) n

    top-test : row-test top ≡ true
    unfolding top row-test
    top-test = lowest-holds 0 n row-test (omega arith) open-below

    top-class : cls top ≡ c.k
    unfolding row-test
    top-class = eqb-true (cls top) k (and_left (eqb (cls top) k) (ltb (open_w n cls g k l top) n) top-test)

    top_below : top < n
    unfolding top
    top_below = open-below

    top-column : open_w n cls g k l top < n
    unfolding row-test
    top-column = ltb-true (open_w n cls g k l top) n (and_right (eqb (cls top) k) (ltb (open_w n cls g k l top) n) top-test)

    top-has : has_column g c top ≡ true
    top-has = go (has_column g c top) refl
      where
        go : (t : Bool) → has_column g c top ≡ t → has_column g c top ≡ true
        go true e = e
        go false e = absurd (omega (arith, column-missing top top_below top-class e, top-column))

    earlier : (u : ℕ) → u < top → cls u ≡ c.k → has_column g c u ≡ false
    unfolding top row-test
    earlier u ut uk = go (has_column g c u) refl
      where
        un : u < n
        un = omega (arith, open-below)

        closed : ltb (open_w n cls g k l u) n ≡ false
        closed = rw (eq-eqb (cls u) k uk) at (lowest-before 0 n row-test (omega arith) u (omega arith) ut)

        go : (t : Bool) → has_column g c u ≡ t → has_column g c u ≡ false
        go false e = e
        go true e =
            absurd (omega (
              arith,
              ltb-false (open_w n cls g k l u) n closed,
              column-found u un uk e,
              ltb-true (lowest_column g c u) c.columns.to e,
              r.columns.within,
            ))

    pub found : (v : ℕ) → c.rows.from ≤ v → RowsDone n cls g k l v → Found v
    unfolding top
    found v fv done =
        record {
          row =
              lowest-only v c.rows.to (has_column g c) (omega (arith, from, below)) top from below top-has
              (λ u a b. earlier u b (r.rows.inside u (omega arith) (omega (arith, below))));
          row_from = from;
          row_below = below;
          column = sym (column-found top top_below top-class top-has);
          column_below = omega (arith, column-found top top_below top-class top-has, ltb-true (lowest_column g c top) c.columns.to top-has);
        }
      where
        below : top < c.rows.to
        below = (r.rows.only top top_below top-class).1

        from : v ≤ top
        from = go (dec_lt top v)
          where
            go : Dec (top < v) → v ≤ top
            go (no p) = omega arith
            go (yes p) =
                absurd (true≢false (sym (lowest-holds 0 n (open_column cls g k l top) (omega arith) top-column)
                ∙ done top (open_w n cls g k l top) p top-column top-class))
