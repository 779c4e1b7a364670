-- Joining two vertices works (point 4 of specs/Theorems.antt): room is made at both, and the edge fits its cell.
-- Assumes nothing.
use mathlib.Core.Path.{◌≡◌, refl, sym, ◌∙◌}
use mathlib.Core.Bool.{Bool, true, false}
use Prim.Native.Nat.{ℕ, ◌+◌, ◌≤◌, ◌<◌}
use native.Mathlib.Decide.{ℕ_discrete}
use native.Mathlib.Omega.{arith}
use borrow.Author.Tests.{ltb-true}
use Rattle.finite.specs.Range.{δ}
use Rattle.finite.proofs.Delta.{δ-self, δ-sym, δ-other, δ-square}
use Rattle.graph.specs.Graph.{Graph, Simple, degree, edges, jdm, at_edge, AddsEdge, SameOn}
use Rattle.graph.proofs.Functions.{edge_removed, relieve, join}
use Rattle.graph.specs.Target.{Target, Partial, Open}
use Rattle.graph.specs.Switch.{unsaturated, substitute, transfer, Relieved, Joined}
use Rattle.graph.specs.Theorems.{Updated, Kept, AfterJoin, JoinWorks}
use Rattle.graph.proofs.Edge.{Place, forth, back, elsewhere, place, add_edge_adds, remove_edge_adds, at_edge-sym, jdm-same, degree-same, edges-same, partial_same}
use Rattle.graph.proofs.Necessary.{necessary_always}
use Rattle.graph.proofs.Stubs.{short_by}
use Rattle.graph.proofs.Update.{adding_updates}
use Rattle.graph.proofs.Switch.{switch_works}

-- what making room at a leaves, switched or not
pub record Ready (n C : ℕ) (cls deg : ℕ → ℕ) (T : ℕ → ℕ → ℕ) (E : Graph) (a o : ℕ) (E' : Graph) : Type 0 where
  pub partial : Partial n C cls deg T E'
  pub cells : (k l : ℕ) → jdm n cls E' k l ≡ jdm n cls E k l
  pub same_count : edges n E' ≡ edges n E
  pub unlinked : E' a o ≡ 0
  pub room : degree n E' a < deg (cls a)
  pub o_able : degree n E o < deg (cls o) → degree n E' o < deg (cls o)

module _ (n C : ℕ) (cls deg : ℕ → ℕ) (T : ℕ → ℕ → ℕ) (target : Target n C cls deg T) where
  pub relieved : (E : Graph) (a o : ℕ) → Partial n C cls deg T E → Open n cls T E a o → (E' : Graph) → Relieved n cls deg E a o E'
      → Ready n C cls deg T E a o E'
  relieved E a o partial pair E' r = go (unsaturated n cls deg E a) refl
    where
      left : unsaturated n cls deg E a ≡ true → SameOn n E E' → Ready n C cls deg T E a o E'
      left e s =
          record {
            partial = partial_same n E E' s C cls deg T partial;
            cells = jdm-same n E E' s cls;
            same_count = edges-same n E E' s;
            unlinked = s a o pair.first pair.second ∙ pair.unlinked;
            room = rw (degree-same n E E' s a pair.first) (ltb-true (degree n E a) (deg (cls a)) e);
            o_able = λ h. rw (degree-same n E E' s o pair.second) h;
          }

      switched : Kept n C cls deg T E a o (substitute n cls deg E a o) E' → Ready n C cls deg T E a o E'
      switched k =
          record {
            partial = k.partial;
            cells = k.cells;
            same_count = k.same_count;
            unlinked = k.unlinked;
            room = omega (arith, k.from_a, partial.room a pair.first);
            o_able = k.o_able;
          }

      go : (s : Bool) → unsaturated n cls deg E a ≡ s → Ready n C cls deg T E a o E'
      go true e = left e (r.left e)
      go false e = switched ((switch_works n C cls deg T E a o target partial pair e).1 E' (r.switched e))

  -- after making room at v, the pair may be joined from w's side
  pub turned : (E : Graph) (v w : ℕ) → Partial n C cls deg T E → Open n cls T E v w → (E' : Graph) → Ready n C cls deg T E v w E'
      → Open n cls T E' w v
  turned E v w partial pair E' r =
      record {
        first = pair.second;
        second = pair.first;
        distinct = λ e. pair.distinct (sym e);
        unlinked = r.partial.simple.symmetric w v pair.second pair.first ∙ r.unlinked;
        short =
            omega (
              arith,
              r.cells (cls w) (cls v),
              (necessary_always n C cls E partial.simple target.classed).symmetric (cls w) (cls v),
              pair.short,
              target.symmetric (cls v) (cls w) (target.classed v pair.first) (target.classed w pair.second),
            );
      }

  -- The edge fits its cell, on the diagonal too, where it counts twice.
  fits : (E : Graph) (v w : ℕ) → Partial n C cls deg T E → Open n cls T E v w
      → (k l : ℕ) → k < C → l < C → jdm n cls E k l + at_edge (cls v) (cls w) k l ≤ T k l
  fits E v w partial pair k l kC lC = go (place (cls v) (cls w) k l)
    where
      vC : cls v < C
      vC = target.classed v pair.first

      wC : cls w < C
      wC = target.classed w pair.second

      -- an edge of the cell's own classes
      own : (i j : ℕ) → at_edge i j i j ≡ 1 + δ i j
      own i j = rw (δ-self i, δ-self j, δ-sym j i, δ-square i j)

      here : jdm n cls E (cls v) (cls w) + at_edge (cls v) (cls w) (cls v) (cls w) ≤ T (cls v) (cls w)
      here = rw (own (cls v) (cls w)) (short_by n C cls deg T E target partial (cls v) (cls w) vC pair.short)

      there : jdm n cls E (cls w) (cls v) + at_edge (cls v) (cls w) (cls w) (cls v) ≤ T (cls w) (cls v)
      there =
          omega (
            arith,
            here,
            (necessary_always n C cls E partial.simple target.classed).symmetric (cls w) (cls v),
            at_edge-sym (cls v) (cls w) (cls w) (cls v),
            target.symmetric (cls v) (cls w) vC wC,
          )

      go : Place (cls v) (cls w) k l → jdm n cls E k l + at_edge (cls v) (cls w) k l ≤ T k l
      go (forth p q) = rw (p, q) here
      go (back p q) = rw (p, q) there
      go (elsewhere e) = omega (arith, e, partial.within k l kC lC)

  -- the edge between two unsaturated vertices
  linking : (E : Graph) (v w : ℕ) → Partial n C cls deg T E → Open n cls T E v w → degree n E v < deg (cls v) → degree n E w < deg (cls w)
      → (E' : Graph) → AddsEdge n E v w E' → Partial n C cls deg T E' × (E' v w ≡ 1) × Updated n cls E v w E'
  linking E v w partial pair room_v room_w E' adds = (
    record {
      simple = u.0;
      within = λ k l kC lC. rw (u.2.cells k l) (fits E v w partial pair k l kC lC);
      room = λ x xn. rw (u.2.degrees x xn) (room x xn (ℕ_discrete x v) (ℕ_discrete x w));
    },
    u.1,
    u.2,
  )
    where
      u : Simple n E' × (E' v w ≡ 1) × Updated n cls E v w E'
      u = adding_updates n cls E E' v w pair.first pair.second pair.distinct adds partial.simple pair.unlinked

      room : (x : ℕ) → x < n → Dec (x ≡ v) → Dec (x ≡ w) → degree n E x + (δ x v + δ x w) ≤ deg (cls x)
      room x xn (yes p) q = rw p (omega (arith, room_v, δ-self v, δ-other v w pair.distinct))
      room x xn (no p) (yes q) = rw q (omega (arith, room_w, δ-self w, δ-other w v (λ e. pair.distinct (sym e))))
      room x xn (no p) (no q) = omega (arith, δ-other x v p, δ-other x w q, partial.room x xn)

  after : (E : Graph) (v w : ℕ) → Partial n C cls deg T E → Open n cls T E v w
      → (E' : Graph) → (j : Joined n cls deg E v w E') → AfterJoin n C cls deg T E v w j.twice E'
  after E v w partial pair E' j =
      record {
        room_v = two.o_able one.room;
        room_w = two.room;
        unlinked = pair''.unlinked;
        partial = edge.0;
        linked = edge.1;
        cells = λ k l. omega (arith, edge.2.cells k l, two.cells k l, one.cells k l);
        one_more = omega (arith, edge.2.count, two.same_count, one.same_count);
      }
    where
      one : Ready n C cls deg T E v w j.once
      one = relieved E v w partial pair j.once j.relieved_v

      pair' : Open n cls T j.once w v
      pair' = turned E v w partial pair j.once one

      two : Ready n C cls deg T j.once w v j.twice
      two = relieved j.once w v one.partial pair' j.twice j.relieved_w

      pair'' : Open n cls T j.twice v w
      pair'' = turned j.once w v one.partial pair' j.twice two

      edge : Partial n C cls deg T E' × (E' v w ≡ 1) × Updated n cls j.twice v w E'
      edge = linking j.twice v w two.partial pair'' (two.o_able one.room) two.room E' j.linked

  -- the functions do what the relations say
  pub relieve-relieves : (E : Graph) (a o : ℕ) → Partial n C cls deg T E → Open n cls T E a o → Relieved n cls deg E a o (relieve n cls deg E a o)
  relieve-relieves E a o partial pair =
      record {
        left = λ e v w l m. rw e;
        switched = λ e.
            let c = (switch_works n C cls deg T E a o target partial pair e).0 in
            rw e
            (record {
              between = edge_removed E a t;
              removed = remove_edge_adds n E a t pair.first c.t_vertex partial.simple c.t_linked (λ q. c.t_not_a (sym q));
              added = add_edge_adds n (edge_removed E a t) b t;
            });
      }
    where
      b : ℕ
      b = substitute n cls deg E a o

      t : ℕ
      t = transfer n E a b

  pub joined-exists : (E : Graph) (v w : ℕ) → Partial n C cls deg T E → Open n cls T E v w → Joined n cls deg E v w (join n cls deg E v w)
  joined-exists E v w partial pair =
      let r = relieve-relieves E v w partial pair in
      let one = relieved E v w partial pair (relieve n cls deg E v w) r in
      record {
        once = relieve n cls deg E v w;
        twice = relieve n cls deg (relieve n cls deg E v w) w v;
        relieved_v = r;
        relieved_w = relieve-relieves (relieve n cls deg E v w) w v one.partial (turned E v w partial pair (relieve n cls deg E v w) one);
        linked = add_edge_adds n (relieve n cls deg (relieve n cls deg E v w) w v) v w;
      }

pub join-works : JoinWorks
join-works n C cls deg T E v w target partial pair E' j = after n C cls deg T target E v w partial pair E' j
