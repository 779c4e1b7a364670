-- The cursors of the searches stay right over a join: rows that are done stay done, and in the row of the pair at most the column that the
-- switch of v freed is open again.
-- Assumes nothing.
use mathlib.Core.Path.{◌≡◌, refl, sym, ap, ◌∙◌}
use mathlib.Core.Bool.{Bool, true, false, ◌&&◌, not, cond, true≢false}
use mathlib.Core.List.{List}
use mathlib.Core.Logic.{◌≢◌, ◌⊎◌, inl, inr}
use Prim.Native.Nat.{ℕ, ◌+◌, ◌≤◌, ◌<◌, min}
use native.Mathlib.Decide.{ℕ_discrete, dec_lt}
use native.Mathlib.Omega.{arith}
use lib.Dec.{eqb, ltb}
use borrow.Author.Tests.{eq-eqb, ne_eqb, lt-ltb, ltb-false}
use Rattle.finite.proofs.All.{and-false}
use Rattle.finite.proofs.Lowest.{lowest-before}
use Rattle.graph.specs.Graph.{Simple}
use Rattle.graph.specs.Switch.{unsaturated, Joined}
use Rattle.graph.specs.Theorems.{AfterJoin}
use Rattle.graph.specs.Tests.{most_classes, class_degree}
use Rattle.graph.proofs.Join.{join-works}
use Rattle.graph.proofs.Resume.{RowsFull, join-row, join-rows}
use Rattle.adjacency.specs.Adjacency.{edge}
use Rattle.join_bytes.specs.Join.{transfer_at, join_bytes}
use Rattle.joining.specs.Inner.Work.{freed}
use Rattle.join_bytes.proofs.Bytes.{join-bytes}
use Rattle.completion.specs.Choice.{open_column, open_w, open_v}
use Rattle.completion.specs.Inner.Cellwise.{Filling}
use Rattle.cell_filling.specs.Inner.Cursor.{RowsDone, ColumnsDone}
use Rattle.completion.proofs.Chosen.{Chosen, column_facts}

-- a column is not open where its vertex is linked, or is no candidate
module _ (cls : ℕ → ℕ) (g : List ℕ) (k l v x : ℕ) where
  pub linked_closed : edge g v x ≡ 1 → open_column cls g k l v x ≡ false
  linked_closed e = go (open_column cls g k l v x) refl
    where
      go : (t : Bool) → open_column cls g k l v x ≡ t → open_column cls g k l v x ≡ false
      go false p = p
      go true p = absurd (omega (arith, (column_facts cls g k l v x p).1))

  -- a candidate that is not open is linked
  pub closed_linked : edge g v x ≤ 1 → open_column cls g k l v x ≡ false → cls x ≡ l → (k ≡ l → v < x) → (k ≢ l → v ≢ x) → edge g v x ≡ 1
  closed_linked b h c a d = go (ℕ_discrete (edge g v x) 0)
    where
      opened : edge g v x ≡ 0 → open_column cls g k l v x ≡ true
      opened e = rw (eq-eqb (cls x) l c, eq-eqb (edge g v x) 0 e) (side (ℕ_discrete k l))
        where
          side : Dec (k ≡ l) → cond (eqb k l) (ltb v x) (not (eqb v x)) ≡ true
          side (yes q) = rw (eq-eqb k l q, lt-ltb v x (a q))
          side (no q) = rw (ne_eqb k l q, ne_eqb v x (d q))

      go : Dec (edge g v x ≡ 0) → edge g v x ≡ 1
      go (yes e) = absurd (true≢false (sym (opened e) ∙ h))
      go (no e) = omega arith

  -- whether it is a candidate does not rest on the matrix
  pub closed_either : (g' : List ℕ) → open_column cls g k l v x ≡ false → (edge g v x ≡ 0 → ⊥) ⊎ (open_column cls g' k l v x ≡ false)
  closed_either g' h = go (eqb (cls x) l) refl (cond (eqb k l) (ltb v x) (not (eqb v x))) refl
    where
      go : (p : Bool) → eqb (cls x) l ≡ p → (q : Bool) → cond (eqb k l) (ltb v x) (not (eqb v x)) ≡ q
          → (edge g v x ≡ 0 → ⊥) ⊎ (open_column cls g' k l v x ≡ false)
      go false a q b = inr (rw a)
      go true a false b = inr (rw (a, b) (and-false (eqb (edge g' v x) 0)))
      go true a true b = inl (λ e. true≢false (sym (rw (a, b, eq-eqb (edge g v x) 0 e)) ∙ h))

module _ (n : ℕ) (cls : ℕ → ℕ) (T : ℕ → ℕ → ℕ) (g : List ℕ) (f : Filling n cls T g) (k l : ℕ)
    (c : Chosen n cls T g k l (open_v n cls g k l) (open_w n cls g k l (open_v n cls g k l))) where
  v : ℕ
  v = open_v n cls g k l

  w : ℕ
  w = open_w n cls g k l v

  abbrev g' : List ℕ
  g' = join_bytes n cls g (open_v n cls g k l) (open_w n cls g k l (open_v n cls g k l))

  simple : Simple n (edge g)
  simple = f.partial.simple

  jo : Joined n cls class_degree (edge g) v w (edge g')
  unfolding v w
  jo = join-bytes n cls T g v w f.sized f.few f.target f.partial c.pair

  after : AfterJoin n most_classes cls class_degree T (edge g) v w jo.twice (edge g')
  unfolding v w
  after = join-works n most_classes cls class_degree T (edge g) v w f.target f.partial c.pair (edge g') jo

  -- before the join: no row below v has an open column
  row-test : ℕ → Bool
  row-test u = eqb (cls u) k && ltb (open_w n cls g k l u) n

  rows_before : RowsDone n cls g k l v
  unfolding v row-test
  rows_before u x uv xn uk =
      lowest-before 0 n (open_column cls g k l u) (omega arith) x (omega arith)
      (omega (arith, xn, ltb-false (open_w n cls g k l u) n (rw (eq-eqb (cls u) k uk) at (lowest-before 0 n row-test (omega arith) u (omega arith) uv))))

  -- then they are linked to all their candidates
  full-before : RowsFull n most_classes cls class_degree T f.target k l (edge g) v
  unfolding v w
  full-before u uv uk x xn xl up =
      closed_linked cls g k l u x (simple.binary u x (omega (arith, c.pair.first)) xn) (rows_before u x uv xn uk) xl up
      (λ e q. e (sym uk ∙ ap cls q ∙ xl))

  pub rows_after : RowsDone n cls g' k l (open_v n cls g k l)
  unfolding v w
  rows_after u x uv xn uk = go (closed_either cls g k l u x g' (rows_before u x uv xn uk))
    where
      go : (edge g u x ≡ 0 → ⊥) ⊎ (open_column cls g' k l u x ≡ false) → open_column cls g' k l u x ≡ false
      go (inr h) = h
      go (inl h) = closed (open_column cls g' k l u x) refl
        where
          closed : (t : Bool) → open_column cls g' k l u x ≡ t → open_column cls g' k l u x ≡ false
          closed false p = p
          closed true p =
              let cf = column_facts cls g' k l u x p in
              absurd (omega (
                arith,
                cf.1,
                join-rows n most_classes cls class_degree T f.target (edge g) v w f.partial c.pair (edge g') jo k l c.row c.column c.above full-before u uv uk x xn cf.0 cf.2,
              ))

  -- in the row of the pair, the columns below w are done, and below what its switch freed they stay so
  pub columns_after : ColumnsDone cls g' k l (open_v n cls g k l) (min (freed n cls g (open_v n cls g k l) (open_w n cls g k l (open_v n cls g k l)))
      (open_w n cls g k l (open_v n cls g k l) + 1))
  unfolding v w
  columns_after x h = go (dec_lt x w)
    where
      not-freed : unsaturated n cls class_degree (edge g) v ≡ false → x ≢ transfer_at n cls g v w
      not-freed e q = omega (arith, q, at)
        where
          at : x < transfer_at n cls g v w
          at = omega (arith, rw e at h)

      same : edge g v x ≡ 1 → open_column cls g' k l v x ≡ false
      same e =
          linked_closed cls g' k l v x
          (join-row n most_classes cls class_degree T f.target (edge g) v w f.partial c.pair (edge g') jo x (omega (arith, h, c.pair.second)) e not-freed)

      go : Dec (x < w) → open_column cls g' k l v x ≡ false
      go (no p) =
          let e : x ≡ w = omega (arith, h) in
          rw e (linked_closed cls g' k l v w after.linked)
      go (yes p) = closed (closed_either cls g k l v x g' (lowest-before 0 n (open_column cls g k l v) (omega arith) x (omega arith) p))
        where
          closed : (edge g v x ≡ 0 → ⊥) ⊎ (open_column cls g' k l v x ≡ false) → open_column cls g' k l v x ≡ false
          closed (inr q) = q
          closed (inl q) = same (omega (arith, q, simple.binary v x c.pair.first (omega (arith, p, c.pair.second))))
