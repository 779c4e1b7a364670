-- Where the unsaturated vertices of each class begin: the search goes on from there, and a join leaves it right.
-- Assumes nothing.
use mathlib.Core.Path.{◌≡◌, refl, ◌∙◌}
use mathlib.Core.List.{List}
use Prim.Native.Nat.{ℕ, ◌+◌, ◌≤◌, ◌<◌}
use native.Mathlib.Decide.{ℕ_discrete}
use native.Mathlib.Omega.{arith}
use lib.Dec.{ltb}
use lib.ListN.{length, get_or, set, length-set}
use lib.Seq.{get_or-set_same, get_or-set_other}
use Rattle.finite.proofs.Lowest.{lowest-le, lowest-ge}
use Rattle.graph.specs.Tests.{most_classes, class_degree}
use Rattle.adjacency.specs.Adjacency.{side}
use Rattle.classes.specs.Inner.Block.{class_from}
use Rattle.classes.proofs.Blocks.{starts_length, start_most, class_range}
use Rattle.join_bytes.specs.Join.{join_bytes}
use Rattle.adjacency.specs.Inner.Degrees.{degrees_of}
use Rattle.join_bytes.specs.Inner.Joinable.{Joinable}
use Rattle.switching.specs.Inner.Work.{Placed}
use Rattle.progress.specs.Inner.Work.{Arranged, Saturated}
use Rattle.progress.proofs.Saturated.{low_saturated, saturated_stays}
use Rattle.complete_shuffled.specs.Inner.Work.{Lows, low_after}

module _ {n : ℕ} {starts g low : List ℕ} (arranged : Arranged n starts) (u : Lows n starts g low) where
  -- over a join saturated vertices stay so
  pub lows_stay : {v w : ℕ} → Joinable n (class_from starts) g v w → Lows n starts (join_bytes n (class_from starts) g v w) low
  lows_stay {v} {w} j =
      record {
        sized = u.sized;
        from = u.from;
        to = u.to;
        saturated = λ k kd.
            saturated_stays n (class_from starts) j.table g
            (record { sized = j.sized; few = j.few; target = j.target; partial = j.partial })
            v w j.pair k _
            (omega (arith, u.to k kd, start_most arranged.numbered (k + 1) (omega arith)))
            (u.saturated k kd);
      }

  -- the search in class k, by the degrees in `degrees`
  module _ {degrees : List ℕ} (eh : degrees ≡ degrees_of n g) (k : ℕ) (kd : k < most_classes) where
    not-before : get_or low k 0 ≤ low_after degrees starts low k
    not-before = lowest-ge (get_or low k 0) (get_or starts (k + 1) 0) (λ i. ltb (get_or degrees i 0) (class_degree k)) (u.to k kd)

    not_behind : low_after degrees starts low k ≤ get_or starts (k + 1) 0
    not_behind = lowest-le (get_or low k 0) (get_or starts (k + 1) 0) (λ i. ltb (get_or degrees i 0) (class_degree k)) (u.to k kd)

    passed : Saturated n (class_from starts) g k (low_after degrees starts low k)
    passed =
        low_saturated n (class_from starts) g degrees k (get_or starts k 0) (get_or starts (k + 1) 0) (get_or low k 0) (low_after degrees starts low k) arranged.few
        (class_range arranged.numbered k kd) eh (u.to k kd) (u.saturated k kd) refl

    -- an end of an edge to be, of class k
    pub end_placed : (v other low' class : ℕ) → class ≡ k → k ≡ class_from starts v → low' ≡ low_after degrees starts low k
        → Placed n starts g (record { at = v; class = class; low = low' }) other
    end_placed v other low' class ec ek el =
        rw (el, ec)
        (record {
          numbered = arranged.numbered;
          class = ek;
          after = omega (arith, u.from k kd, not-before);
          before = not_behind;
          saturated = λ i h e d. passed i h e;
        })

    -- the next search goes on from what was found
    pub lows_set : Lows n starts g (set low k (low_after degrees starts low k))
    lows_set =
        record {
          sized = length-set low k (low_after degrees starts low k) ∙ u.sized;
          from = λ i id. from i id (ℕ_discrete i k);
          to = λ i id. to i id (ℕ_discrete i k);
          saturated = λ i id. saturated i id (ℕ_discrete i k);
        }
      where
        here : k < length low → get_or (set low k (low_after degrees starts low k)) k 0 ≡ low_after degrees starts low k
        here l = get_or-set_same low k (low_after degrees starts low k) 0 l

        else : (i : ℕ) → (i ≡ k → ⊥) → get_or (set low k (low_after degrees starts low k)) i 0 ≡ get_or low i 0
        else i d = get_or-set_other low k i (low_after degrees starts low k) 0 d

        long : k < length low
        long = omega (arith, u.sized, starts_length arranged.numbered)

        from : (i : ℕ) → i < most_classes → Dec (i ≡ k) → get_or starts i 0 ≤ get_or (set low k (low_after degrees starts low k)) i 0
        from i id (yes e) = rw (e, here long) (omega (arith, u.from k kd, not-before))
        from i id (no d) = rw (else i d) (u.from i id)

        to : (i : ℕ) → i < most_classes → Dec (i ≡ k) → get_or (set low k (low_after degrees starts low k)) i 0 ≤ get_or starts (i + 1) 0
        to i id (yes e) = rw (e, here long) not_behind
        to i id (no d) = rw (else i d) (u.to i id)

        saturated : (i : ℕ) → i < most_classes → Dec (i ≡ k) → Saturated n (class_from starts) g i (get_or (set low k (low_after degrees starts low k)) i 0)
        saturated i id (yes e) = rw (e, here long) passed
        saturated i id (no d) = rw (else i d) (u.saturated i id)

-- the end of a class is within the array of vertices
pub class_end : {n : ℕ} {starts : List ℕ} → Arranged n starts → (k : ℕ) → k < most_classes → get_or starts (k + 1) 0 ≤ side
class_end arranged k kd = omega (arith, arranged.few, start_most arranged.numbered (k + 1) (omega arith))
