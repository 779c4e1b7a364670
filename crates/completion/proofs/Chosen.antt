-- The pair that completing chooses in a short cell is open, and what joining it does.
-- Assumes nothing.
use mathlib.Core.Path.{◌≡◌, ◌∙◌}
use mathlib.Core.Bool.{Bool, true, false, ◌&&◌, not, cond}
use mathlib.Core.List.{List}
use mathlib.Core.Logic.{◌≢◌}
use Prim.Native.Nat.{ℕ, ◌+◌, ◌<◌}
use native.Mathlib.Decide.{ℕ_discrete}
use native.Mathlib.Omega.{arith}
use lib.Dec.{eqb, ltb}
use borrow.Author.Tests.{lt-ltb, eq-eqb, ne_eqb, ltb-true, eqb-true}
use Rattle.finite.proofs.Lowest.{lowest-holds, lowest-found}
use Rattle.finite.proofs.All.{and_left, and_right, and_both}
use Rattle.graph.specs.Graph.{jdm, edges, at_edge}
use Rattle.graph.specs.Target.{Open}
use Rattle.graph.specs.Switch.{Joined}
use Rattle.graph.specs.Theorems.{AfterJoin}
use Rattle.graph.specs.Tests.{most_classes, class_degree}
use Rattle.graph.proofs.OpenPair.{short_has_open_pair}
use Rattle.graph.proofs.Join.{join-works}
use Rattle.adjacency.specs.Adjacency.{edge}
use Rattle.join_bytes.specs.Join.{join_bytes}
use Rattle.join_bytes.proofs.Bytes.{join-bytes, join-length}
use Rattle.completion.specs.Choice.{open_column, open_w, open_v}
use Rattle.completion.specs.Inner.Cellwise.{Filling}

-- what the choice of a pair gives in a short cell (k, l)
pub record Chosen (n : ℕ) (cls : ℕ → ℕ) (T : ℕ → ℕ → ℕ) (g : List ℕ) (k l v w : ℕ) : Type 0 where
  pub row : cls v ≡ k
  pub column : cls w ≡ l
  pub above : k ≡ l → v < w
  pub pair : Open n cls T (edge g) v w

-- a pair that is open in cell (k, l) passes the test of its column
column_test : (cls : ℕ → ℕ) (g : List ℕ) (k l v w : ℕ) → cls w ≡ l → edge g v w ≡ 0 → v ≢ w → (k ≡ l → v < w) → open_column cls g k l v w ≡ true
column_test cls g k l v w c e d a =
    and_both (eqb (cls w) l && eqb (edge g v w) 0) (cond (eqb k l) (ltb v w) (not (eqb v w)))
    (and_both (eqb (cls w) l) (eqb (edge g v w) 0) (eq-eqb (cls w) l c) (eq-eqb (edge g v w) 0 e))
    (go (ℕ_discrete k l))
  where
    go : Dec (k ≡ l) → cond (eqb k l) (ltb v w) (not (eqb v w)) ≡ true
    go (yes q) = rw (eq-eqb k l q, lt-ltb v w (a q))
    go (no q) = rw (ne_eqb k l q, ne_eqb v w d)

-- and what the test says
pub column_facts : (cls : ℕ → ℕ) (g : List ℕ) (k l v w : ℕ) → open_column cls g k l v w ≡ true
    → (cls w ≡ l) × (edge g v w ≡ 0) × (k ≡ l → v < w) × (k ≢ l → v ≢ w)
column_facts cls g k l v w h = (
  eqb-true (cls w) l (and_left (eqb (cls w) l) (eqb (edge g v w) 0) front),
  eqb-true (edge g v w) 0 (and_right (eqb (cls w) l) (eqb (edge g v w) 0) front),
  (λ e. ltb-true v w (rw (eq-eqb k l e) at side)),
  (λ e q. go (rw (ne_eqb k l e, eq-eqb v w q) at side)),
)
  where
    front : eqb (cls w) l && eqb (edge g v w) 0 ≡ true
    front = and_left (eqb (cls w) l && eqb (edge g v w) 0) (cond (eqb k l) (ltb v w) (not (eqb v w))) h

    side : cond (eqb k l) (ltb v w) (not (eqb v w)) ≡ true
    side = and_right (eqb (cls w) l && eqb (edge g v w) 0) (cond (eqb k l) (ltb v w) (not (eqb v w))) h

    go : false ≡ true → ⊥
    go e = let z : ◌≡◌ {A = ℕ} 0 1 = cc in omega arith

module _ (n : ℕ) (cls : ℕ → ℕ) (T : ℕ → ℕ → ℕ) where
  -- the lowest open pair of a short cell is one
  pub chosen : (g : List ℕ) → Filling n cls T g → (k l : ℕ) → k < most_classes → l < most_classes → jdm n cls (edge g) k l < T k l
      → Chosen n cls T g k l (open_v n cls g k l) (open_w n cls g k l (open_v n cls g k l))
  chosen g f k l kC lC h =
      record {
        row = eqb-true (cls v) k (and_left (eqb (cls v) k) (ltb (open_w n cls g k l v) n) v-test);
        column = facts.0;
        above = facts.2;
        pair =
            record {
              first = v<n;
              second = w<n;
              distinct = λ e. distinct e (ℕ_discrete k l);
              unlinked = facts.1;
              short = rw (eqb-true (cls v) k (and_left (eqb (cls v) k) (ltb (open_w n cls g k l v) n) v-test), facts.0) h;
            };
      }
    where
      some : (v w : ℕ) × (cls v ≡ k) × (cls w ≡ l) × (k ≡ l → v < w) × Open n cls T (edge g) v w
      some = short_has_open_pair n most_classes cls class_degree T (edge g) f.target f.partial k l kC lC h

      v : ℕ
      v = open_v n cls g k l

      w : ℕ
      w = open_w n cls g k l v

      some-w : open_w n cls g k l some.0 < n
      some-w =
          let t = column_test cls g k l some.0 some.1 some.3 some.5.unlinked some.5.distinct some.4 in
          omega (arith, lowest-found 0 n (open_column cls g k l some.0) (omega arith) some.1 (omega arith) some.5.second t, some.5.second)

      row-test : ℕ → Bool
      row-test u = eqb (cls u) k && ltb (open_w n cls g k l u) n

      v<n : v < n
      v<n =
          let t = and_both (eqb (cls some.0) k) (ltb (open_w n cls g k l some.0) n) (eq-eqb (cls some.0) k some.2)
          (lt-ltb (open_w n cls g k l some.0) n some-w) in
          omega (arith, lowest-found 0 n row-test (omega arith) some.0 (omega arith) some.5.first t, some.5.first)

      v-test : row-test v ≡ true
      v-test = lowest-holds 0 n row-test (omega arith) v<n

      w<n : w < n
      w<n = ltb-true w n (and_right (eqb (cls v) k) (ltb w n) v-test)

      facts : (cls w ≡ l) × (edge g v w ≡ 0) × (k ≡ l → v < w) × (k ≢ l → v ≢ w)
      facts = column_facts cls g k l v w (lowest-holds 0 n (open_column cls g k l v) (omega arith) w<n)

      distinct : v ≡ w → Dec (k ≡ l) → ⊥
      distinct e (yes q) = omega (arith, facts.2 q)
      distinct e (no q) = facts.3 q e

  -- after a join in cell (k, l)
  pub record Stepped (g g' : List ℕ) (k l : ℕ) : Type 0 where
    pub filling : Filling n cls T g'
    pub cells : (i j : ℕ) → jdm n cls (edge g') i j ≡ jdm n cls (edge g) i j + at_edge k l i j
    pub one_more : edges n (edge g') ≡ edges n (edge g) + 1

  -- the join of any open pair
  pub opened : (g : List ℕ) → Filling n cls T g → (v w : ℕ) → Open n cls T (edge g) v w → Stepped g (join_bytes n cls g v w) (cls v) (cls w)
  opened g f v w pair =
      record {
        filling =
            record {
              sized = join-length n cls g v w ∙ f.sized;
              few = f.few;
              target = f.target;
              partial = a.partial;
            };
        cells = a.cells;
        one_more = a.one_more;
      }
    where
      jo : Joined n cls class_degree (edge g) v w (edge (join_bytes n cls g v w))
      jo = join-bytes n cls T g v w f.sized f.few f.target f.partial pair

      a : AfterJoin n most_classes cls class_degree T (edge g) v w jo.twice (edge (join_bytes n cls g v w))
      a = join-works n most_classes cls class_degree T (edge g) v w f.target f.partial pair (edge (join_bytes n cls g v w)) jo

  pub stepped : (g : List ℕ) → Filling n cls T g → (k l v w : ℕ) → Chosen n cls T g k l v w → Stepped g (join_bytes n cls g v w) k l
  stepped g f k l v w c = rw (← c.row, ← c.column) (opened g f v w c.pair)
