-- What joining leaves as it was, so that a search may go on where the last one ended: a vertex loses no edge over a whole join;
-- rows that are linked to all their candidates stay so; a row loses at most the edge that its own switch cuts.
-- Assumes nothing.
use mathlib.Core.Path.{◌≡◌, refl, sym, ◌∙◌}
use mathlib.Core.Bool.{Bool, true, false}
use mathlib.Core.Logic.{◌≢◌}
use Prim.Native.Nat.{ℕ, ◌+◌, ◌≤◌, ◌<◌}
use native.Mathlib.Decide.{ℕ_discrete, dec_lt}
use native.Mathlib.Omega.{arith}
use Rattle.finite.specs.Range.{δ}
use Rattle.finite.proofs.Delta.{δ-self}
use Rattle.graph.specs.Graph.{Graph, Simple, degree}
use Rattle.graph.specs.Target.{Target, Partial, Open}
use Rattle.graph.specs.Switch.{unsaturated, substitute, transfer, Switched, Relieved, Joined}
use Rattle.graph.specs.Theorems.{Choices, Kept}
use Rattle.graph.proofs.Edge.{Place, forth, back, elsewhere, place, degree-same}
use Rattle.graph.proofs.Update.{degree-adds}
use Rattle.graph.proofs.Switch.{switch_works}
use Rattle.graph.proofs.Join.{Ready, relieved, turned, join-works}

module _ (n C : ℕ) (cls deg : ℕ → ℕ) (T : ℕ → ℕ → ℕ) (target : Target n C cls deg T) where
  -- One relief of a, o being the other named vertex, from E to E'.
  module _ (E : Graph) (a o : ℕ) (partial : Partial n C cls deg T E) (pair : Open n cls T E a o) (E' : Graph)
      (r : Relieved n cls deg E a o E') where
    abbrev b : ℕ
    b = substitute n cls deg E a o

    abbrev t : ℕ
    t = transfer n E a b

    -- a vertex loses at most one edge, and only a does
    pub relief_degree : (x : ℕ) → x < n → degree n E x ≤ degree n E' x + δ x a
    relief_degree x xn = go (unsaturated n cls deg E a) refl
      where
        switched : Kept n C cls deg T E a o b E' → Dec (x ≡ a) → Dec (x ≡ b) → degree n E x ≤ degree n E' x + δ x a
        switched k (yes e) q = rw e (omega (arith, k.from_a, δ-self a))
        switched k (no e) (yes q) = rw q (omega (arith, k.to_b))
        switched k (no e) (no q) = omega (arith, k.others x xn e q)

        go : (s : Bool) → unsaturated n cls deg E a ≡ s → degree n E x ≤ degree n E' x + δ x a
        go true e = omega (arith, degree-same n E E' (r.left e) x xn)
        go false e =
            switched ((switch_works n C cls deg T E a o target partial pair e).1 E' (r.switched e)) (ℕ_discrete x a) (ℕ_discrete x b)

    -- an edge other than the one cut stays
    pub relief_edge : (x y : ℕ) → x < n → y < n → E x y ≡ 1
        → (unsaturated n cls deg E a ≡ false → Choices n C cls deg T E a o b t → (x ≡ a) × (y ≡ t) → ⊥)
        → (unsaturated n cls deg E a ≡ false → Choices n C cls deg T E a o b t → (x ≡ t) × (y ≡ a) → ⊥) → E' x y ≡ 1
    relief_edge x y xn yn h not-cut not_back = go (unsaturated n cls deg E a) refl
      where
        simple' : Simple n E'
        simple' = (relieved n C cls deg T target E a o partial pair E' r).partial.simple

        kept : Choices n C cls deg T E a o b t → unsaturated n cls deg E a ≡ false → Switched n E a b t E' → Place a t x y → E' x y ≡ 1
        kept c e s (forth p q) = absurd (not-cut e c (p, q))
        kept c e s (back p q) = absurd (not_back e c (p, q))
        kept c e s (elsewhere z) = omega (arith, s.removed x y xn yn, s.added x y xn yn, simple'.binary x y xn yn)

        go : (u : Bool) → unsaturated n cls deg E a ≡ u → E' x y ≡ 1
        go true e = r.left e x y xn yn ∙ h
        go false e = kept (switch_works n C cls deg T E a o target partial pair e).0 e (r.switched e) (place a t x y)

  -- The candidates of a vertex u of class k are the vertices x of class l, above u where k is l.
  module _ (k l : ℕ) where
    -- u is linked to all its candidates
    abbrev pub RowFull : Graph → ℕ → Type 0
    RowFull E u = (x : ℕ) → x < n → cls x ≡ l → (k ≡ l → u < x) → E u x ≡ 1

    -- so are all vertices of class k below v
    abbrev pub RowsFull : Graph → ℕ → Type 0
    RowsFull E v = (u : ℕ) → u < v → cls u ≡ k → RowFull E u

    -- One relief keeps the full rows below v; a is v, or is above v where k is l.
    relief-rows : (E : Graph) (a o v : ℕ) (partial : Partial n C cls deg T E) (pair : Open n cls T E a o) (E' : Graph)
        → Relieved n cls deg E a o E' → v < n → ((u : ℕ) → u < v → cls u ≡ k → u ≢ a) → RowsFull E v → RowsFull E' v
    relief-rows E a o v partial pair E' r vn apart rows u uv uk x xn xl above =
        relief_edge E a o partial pair E' r u x (omega arith) xn (rows u uv uk x xn xl above) (λ e c p. apart u uv uk p.0)
        (λ e c p. cut c p.0 p.1 (dec_lt u (substitute n cls deg E a o)))
      where
        cut : Choices n C cls deg T E a o (substitute n cls deg E a o) (transfer n E a (substitute n cls deg E a o))
            → u ≡ transfer n E a (substitute n cls deg E a o) → x ≡ a → Dec (u < substitute n cls deg E a o) → ⊥
        cut c ut xa (yes lower) =
            let bl : cls (substitute n cls deg E a o) ≡ l = c.b_class ∙ rw xa at xl in
            let linked : E u (substitute n cls deg E a o) ≡ 1 = rows u uv uk (substitute n cls deg E a o) c.b_vertex bl (λ e. lower) in
            let apart : E (substitute n cls deg E a o) u ≡ 0 = rw ut c.t_unlinked in
            omega (arith, partial.simple.symmetric u (substitute n cls deg E a o) (omega arith) c.b_vertex)
        cut c ut xa (no upper) = go (ℕ_discrete k l)
          where
            bl : cls (substitute n cls deg E a o) ≡ l
            bl = c.b_class ∙ rw xa at xl

            b-u : E (substitute n cls deg E a o) u ≡ 0
            b-u = rw ut c.t_unlinked

            go : Dec (k ≡ l) → ⊥
            go (yes e) =
                let other : u ≢ substitute n cls deg E a o = λ q. c.t_not_b (sym ut ∙ q) in
                let below : substitute n cls deg E a o < u = omega arith in
                omega (arith, b-u, rows (substitute n cls deg E a o) (omega arith) (bl ∙ sym e) u (omega arith) (uk ∙ e) (λ q. below))
            go (no e) =
                omega (
                  arith,
                  b-u,
                  rows u uv uk (substitute n cls deg E a o) c.b_vertex bl (λ q. absurd (e q)),
                  partial.simple.symmetric u (substitute n cls deg E a o) (omega arith) c.b_vertex,
                )

  -- A whole join of v and w, from E to E'.
  module _ (E : Graph) (v w : ℕ) (partial : Partial n C cls deg T E) (pair : Open n cls T E v w) (E' : Graph) (j : Joined n cls deg E v w E') where
    one : Ready n C cls deg T E v w j.once
    one = relieved n C cls deg T target E v w partial pair j.once j.relieved_v

    pair' : Open n cls T j.once w v
    pair' = turned n C cls deg T target E v w partial pair j.once one

    simple' : Simple n E'
    simple' = (join-works n C cls deg T E v w target partial pair E' j).partial.simple

    -- an edge that both reliefs keep is there in the end
    last : (x y : ℕ) → x < n → y < n → j.twice x y ≡ 1 → E' x y ≡ 1
    last x y xn yn h = omega (arith, j.linked x y xn yn, simple'.binary x y xn yn)

    -- no vertex has fewer edges than before
    pub join-degree : (x : ℕ) → x < n → degree n E x ≤ degree n E' x
    join-degree x xn =
        omega (
          arith,
          relief_degree E v w partial pair j.once j.relieved_v x xn,
          relief_degree j.once w v one.partial pair' j.twice j.relieved_w x xn,
          degree-adds n j.twice E' v w j.linked pair.first pair.second x xn,
        )

    -- v keeps every edge but the one that its own switch cuts
    pub join-row : (x : ℕ) → x < n → E v x ≡ 1
        → (unsaturated n cls deg E v ≡ false → x ≢ transfer n E v (substitute n cls deg E v w)) → E' v x ≡ 1
    join-row x xn h kept =
        last v x pair.first xn
        (relief_edge j.once w v one.partial pair' j.twice j.relieved_w v x pair.first xn
        (relief_edge E v w partial pair j.once j.relieved_v v x pair.first xn h (λ e c p. kept e p.1)
        (λ e c p. c.t_not_a (sym p.0)))
        (λ e c p. pair.distinct p.0)
        (λ e c p. c.t_not_o (sym p.0)))

    -- the rows below v that are linked to all their candidates stay so
    pub join-rows : (k l : ℕ) → cls v ≡ k → cls w ≡ l → (k ≡ l → v < w) → RowsFull k l E v → RowsFull k l E' v
    join-rows k l vk wl above rows u uv uk x xn xl up =
        last u x (omega (arith, pair.first)) xn (after-w u uv uk x xn xl up)
      where
        after-v : RowsFull k l j.once v
        after-v = relief-rows k l E v w v partial pair j.once j.relieved_v pair.first (λ u m e. omega arith) rows

        after-w : RowsFull k l j.twice v
        after-w =
            relief-rows k l j.once w v v one.partial pair' j.twice j.relieved_w pair.first
            (λ u m e q. absurd (omega (arith, above (sym e ∙ rw q wl))))
            after-v
