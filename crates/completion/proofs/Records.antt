-- The records of completing: 8 bytes for each join, which name the lower vertex first.
-- Assumes nothing.
use mathlib.Core.Path.{◌≡◌, refl}
use mathlib.Core.Bool.{true}
use mathlib.Core.List.{List, ◌++◌}
use Prim.Native.Nat.{ℕ, ◌+◌, ◌*◌, ◌<◌}
use native.Mathlib.Nat.{add-zero}
use native.Mathlib.Decide.{dec_lt}
use native.Mathlib.Omega.{arith}
use lib.ListN.{length, get_or, length-append, get_or-append}
use lib.Seq.{get_or-append-add}
use Rattle.finite.specs.Range.{iterate}
use Rattle.finite.proofs.Fold.{iterate-keeps}
use Rattle.journal.specs.Journal.{jdm_of}
use Rattle.state.specs.State.{State}
use Rattle.state.specs.Laid.{vertex_count, class_at}
use Rattle.join_records.specs.Record.{join_record_size, join_record}
use Rattle.join_bytes.specs.Join.{join_switches}
use Rattle.completion.specs.Complete.{Ran, fresh, joined, most_edges, completed}
use Rattle.completion.proofs.Works.{Good, Chooser, short, next-good, lowest-pair}

-- a record for each join so far
abbrev pub Recorded : Ran → Type 0
Recorded s = length s.records ≡ join_record_size * s.joins

pub joined-recorded : (n : ℕ) (cls : ℕ → ℕ) (s : Ran) (v w : ℕ) → Recorded s → Recorded (joined n cls s v w)
joined-recorded n cls s v w h = rw length-append (omega arith)

-- each record names two vertices, the lower one first
abbrev pub Rising : ℕ → Ran → Type 0
Rising n s =
    (i : ℕ) → i < s.joins →
    (get_or s.records (join_record_size * i) 0 < get_or s.records (join_record_size * i + 1) 0) × (get_or s.records (join_record_size * i + 1) 0 < n)

joined-rises : (n : ℕ) (cls : ℕ → ℕ) (s : Ran) (v w : ℕ) → v < w → w < n → Recorded s → Rising n s → Rising n (joined n cls s v w)
joined-rises n cls s v w vw wn h r i l = go (dec_lt i s.joins)
  where
    more : List ℕ
    more = join_record v w (join_switches n cls s.adjacency v w)

    -- a byte of an earlier record, and one of the last
    before : (p : ℕ) → p < length s.records → get_or (s.records ++ more) p 0 ≡ get_or s.records p 0
    before p q = get_or-append s.records more 0 p q

    last : i ≡ s.joins → (p : ℕ) → get_or (s.records ++ more) (join_record_size * i + p) 0 ≡ get_or more p 0
    last e p = rw (e, ← h) (get_or-append-add s.records more p 0)

    go : Dec (i < s.joins)
        → (get_or (s.records ++ more) (join_record_size * i) 0 < get_or (s.records ++ more) (join_record_size * i + 1) 0)
        × (get_or (s.records ++ more) (join_record_size * i + 1) 0 < n)
    go (yes p) = rw (before (join_record_size * i) (omega (arith, h)), before (join_record_size * i + 1) (omega (arith, h))) (r i p)
    go (no p) =
        let e : i ≡ s.joins = omega arith in
        let first = rw add-zero at (last e 0) in
        rw (first, last e 1) (vw, wn)

-- whichever pairs are chosen
module _ (n : ℕ) (cls : ℕ → ℕ) (T : ℕ → ℕ → ℕ) {S : Type 0} (c : Chooser n cls T S) where
  pub next-recorded : (s : S) → Recorded (c.ran s) → Recorded (c.ran (c.next s))
  next-recorded s h = rw (c.joins s) (joined-recorded n cls (c.ran s) (c.v s) (c.w s) h)

  pub records-length : (fuel : ℕ) (s : S) → Recorded (c.ran s) → Recorded (c.ran (iterate fuel (short n cls T c) c.next s))
  records-length fuel s h = iterate-keeps (λ s. Recorded (c.ran s)) (short n cls T c) c.next fuel s h (λ s h t. next-recorded s h)

  -- lower vertex first
  module _ (rises : (s : S) → Good n cls T (c.ran s) → short n cls T c s ≡ true → c.v s < c.w s) where
    next-rises : (s : S) → Good n cls T (c.ran s) → Recorded (c.ran s) → Rising n (c.ran s) → short n cls T c s ≡ true
        → Rising n (c.ran (c.next s))
    next-rises s good h r t =
        rw (c.joins s) (joined-rises n cls (c.ran s) (c.v s) (c.w s) (rises s good t) (c.pair s good t).second h r)

    pub records-rising : (fuel : ℕ) (s : S) (g : List ℕ) → c.ran s ≡ fresh g → Good n cls T (fresh g)
        → Rising n (c.ran (iterate fuel (short n cls T c) c.next s))
    records-rising fuel s g start good =
        (iterate-keeps (λ s. Good n cls T (c.ran s) × Recorded (c.ran s) × Rising n (c.ran s)) (short n cls T c) c.next fuel s
        (rw start good, rw start refl, rw start (λ i l. absurd (omega arith)))
        (λ s h t. (next-good n cls T c s h.0 t, next-recorded s h.1, next-rises s h.0 h.1 h.2 t))
        ).2

pub completed-length : (s : State) → Recorded (completed s)
completed-length s =
    records-length (vertex_count s) (class_at s) (jdm_of s.journal) (lowest-pair (vertex_count s) (class_at s) (jdm_of s.journal)) most_edges
    (fresh s.adjacency) refl
