-- Playing what a join tells (specs/Playback.antt): each switch, and then the edge, fits the matrix and makes of it what joining makes; records are
-- played one after the other.
-- Assumes nothing.
use mathlib.Core.Path.{◌≡◌, refl, sym, ap, ◌∙◌}
use mathlib.Core.Bool.{Bool, true, false, cond}
use mathlib.Core.List.{List, [], ◌++◌}
use Prim.Native.Nat.{ℕ, ◌+◌, ◌*◌, ◌/◌, ◌≤◌, ◌<◌}
use native.Mathlib.Nat.{zero-add}
use native.Mathlib.Omega.{arith}
use lib.ListN.{length, get_or, length-append, get_or-append}
use lib.Seq.{get_or-append-add}
use borrow.Author.Tests.{eq-eqb, ne_eqb}
use Rattle.finite.specs.Range.{fold_to}
use Rattle.finite.proofs.Fold.{fold_to-none, fold_to-more, fold_to-cong}
use Rattle.answer.specs.Switches.{no_switches, first_switch, second_switch}
use Rattle.answer.specs.declared.switches.Switch.{Switch}
use Rattle.answer.specs.declared.switches.Switches.{Switches}
use Rattle.graph.specs.Switch.{unsaturated}
use Rattle.graph.specs.Target.{Target, Partial, Open}
use Rattle.graph.specs.Tests.{most_classes, class_degree}
use Rattle.graph.proofs.Switch.{switch_works}
use Rattle.layout.specs.Layout.{most_vertices}
use Rattle.adjacency.specs.Adjacency.{adjacency_size, edge, set_edge}
use Rattle.adjacency.proofs.Set.{set_other}
use Rattle.join_bytes.specs.Join.{substitute_at, transfer_at, neighbor_switch, relieve_bytes, join_bytes, switch_at, in_order, join_switches}
use Rattle.join_bytes.proofs.Bytes.{ready_v, pair-w, sized_once}
use Rattle.join_records.specs.Record.{join_record_size, join_record}
use Rattle.demands.specs.Playback.{Played, edge_removed, edge_added, play_triple, play_record, play}

-- the matrix g, when everything so far fitted
abbrev pub fits : List ℕ → Played
fits g = record { adjacency = g; fitted = true }

-- a switch, or what stands for none; a join with its switches
abbrev play_switch : Switch → Played → Played
play_switch x = play_triple x.a x.b x.t

abbrev pub play_join : ℕ → ℕ → Switches → Played → Played
play_join v w s p = edge_added v w (play_switch (second_switch s) (play_switch (first_switch s) p))

remove-fits : (g : List ℕ) (x y : ℕ) → edge g x y ≡ 1 → edge_removed x y (fits g) ≡ fits (set_edge g x y 0)
remove-fits g x y e = rw (eq-eqb (edge g x y) 1 e)

add-fits : (g : List ℕ) (x y : ℕ) → edge g x y ≡ 0 → edge_added x y (fits g) ≡ fits (set_edge g x y 1)
add-fits g x y e = rw (eq-eqb (edge g x y) 0 e)

-- the switches as they are told: v's is played, then w's, and nothing for an end that had room
played_in_order : (u u' : Bool) (x y : Switch) (p : Played)
    → play_switch (second_switch (in_order u u' x y)) (play_switch (first_switch (in_order u u' x y)) p)
    ≡ play_switch (cond u' no_switches y) (play_switch (cond u no_switches x) p)
played_in_order true true x y p = refl
played_in_order false true x y p = refl
played_in_order true false x y p = refl
played_in_order false false x y p = refl

module _ (n : ℕ) (cls : ℕ → ℕ) (T : ℕ → ℕ → ℕ) where
  -- Room at a, o being the other named vertex: the switch's choices are right, and no vertex has the number of an unused byte.
  module _ (g : List ℕ) (a o : ℕ) (sized : length g ≡ adjacency_size) (few : n ≤ most_vertices) (target : Target n most_classes cls class_degree T)
      (partial : Partial n most_classes cls class_degree T (edge g)) (pair : Open n cls T (edge g) a o) where
    switch-plays : unsaturated n cls class_degree (edge g) a ≡ false
        → play_switch (switch_at n cls g a o) (fits g) ≡ fits (neighbor_switch n cls g a o)
    switch-plays e =
        let b = substitute_at n cls g a o in
        let t = transfer_at n cls g a o in
        let c = (switch_works n most_classes cls class_degree T (edge g) a o target partial pair e).0 in
        let still = set_other g a t 0 sized (omega (arith, pair.first)) (omega (arith, c.t_vertex)) b t (omega (arith, c.b_vertex))
        (omega (arith, c.t_vertex)) (λ q. c.b_other q.0) (λ q. c.t_not_b (sym q.0)) in
        rw (ne_eqb a 255 (λ z. omega (arith, pair.first)))
        (ap (edge_added b t) (remove-fits g a t c.t_linked) ∙ add-fits (set_edge g a t 0) b t (still ∙ c.t_unlinked))

    relief-plays : play_switch (cond (unsaturated n cls class_degree (edge g) a) no_switches (switch_at n cls g a o)) (fits g) ≡ fits (relieve_bytes n cls g a o)
    relief-plays = go (unsaturated n cls class_degree (edge g) a) refl
      where
        go : (u : Bool) → unsaturated n cls class_degree (edge g) a ≡ u → play_switch (cond u no_switches (switch_at n cls g a o)) (fits g)
            ≡ fits (cond u g (neighbor_switch n cls g a o))
        go true e = refl
        go false e = switch-plays e

  -- The whole join.
  pub join-plays : (g : List ℕ) (v w : ℕ) → length g ≡ adjacency_size → n ≤ most_vertices → Target n most_classes cls class_degree T
      → Partial n most_classes cls class_degree T (edge g) → Open n cls T (edge g) v w
      → play_join v w (join_switches n cls g v w) (fits g) ≡ fits (join_bytes n cls g v w)
  join-plays g v w sized few target partial pair =
      ap (edge_added v w)
      (played_in_order (unsaturated n cls class_degree (edge g) v) (unsaturated n cls class_degree (edge once) w) (switch_at n cls g v w) (switch_at n cls once w v) (fits g)
      ∙ ap (play_switch (cond (unsaturated n cls class_degree (edge once) w) no_switches (switch_at n cls once w v))) (relief-plays g v w sized few target partial pair)
      ∙ relief-plays once w v sized' few target partial' pair')
      ∙ add-fits (relieve_bytes n cls once w v) v w (pair-w n cls T once w v sized' few target partial' pair').unlinked
    where
      once : List ℕ
      once = relieve_bytes n cls g v w

      sized' : length once ≡ adjacency_size
      sized' = sized_once n cls T g v w sized few target partial pair

      partial' : Partial n most_classes cls class_degree T (edge once)
      partial' = (ready_v n cls T g v w sized few target partial pair).partial

      pair' : Open n cls T (edge once) w v
      pair' = pair-w n cls T g v w sized few target partial pair

-- the same 8 bytes are the same record
same_record : (r r' : List ℕ) (i i' : ℕ) (p : Played) → ((k : ℕ) → k < join_record_size → get_or r (join_record_size * i + k) 0 ≡ get_or r' (join_record_size * i' + k) 0)
    → play_record r i p ≡ play_record r' i' p
same_record r r' i i' p h =
    rw (
      h 0 (omega arith),
      h 1 (omega arith),
      h 2 (omega arith),
      h 3 (omega arith),
      h 4 (omega arith),
      h 5 (omega arith),
      h 6 (omega arith),
      h 7 (omega arith),
    )

pub play-none : (g : List ℕ) → play [] g ≡ fits g
play-none g = fold_to-none (play_record []) (fits g)

-- one record more is played after the others
pub play-more : (r : List ℕ) (m v w : ℕ) (s : Switches) (g : List ℕ) → length r ≡ join_record_size * m
    → play (r ++ join_record v w s) g ≡ play_join v w s (play r g)
play-more r m v w s g e =
    ap (λ (k : ℕ). fold_to k (play_record l) (fits g)) count
    ∙ fold_to-more (play_record l) (fits g) m
    ∙ same_record l (join_record v w s) m 0 (fold_to m (play_record l) (fits g)) (λ k h. rw (← e, zero-add) (get_or-append-add r (join_record v w s) k 0))
    ∙ ap (play_join v w s)
    (fold_to-cong (play_record l) (play_record r) (fits g) m
    (λ i p h. same_record l r i i p (λ k h'. get_or-append r (join_record v w s) 0 (join_record_size * i + k) (omega (arith, e))))
    ∙ ap (λ (k : ℕ). fold_to k (play_record r) (fits g)) before)
  where
    l : List ℕ
    l = r ++ join_record v w s

    count : length l / join_record_size ≡ m + 1
    count = rw length-append (omega (arith, e))

    before : m ≡ length r / join_record_size
    before = omega (arith, e)
