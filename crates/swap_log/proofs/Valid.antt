-- A valid log stays valid when a swap is written and when the last record is taken back (specs/Theorems.antt); the empty log is valid beside any matrix.
-- Assumes nothing.
use mathlib.Core.Path.{◌≡◌, sym, ap, ◌∙◌}
use mathlib.Core.Bool.{Bool, true, false, ◌&&◌, not}
use mathlib.Core.List.{List}
use Prim.Native.Nat.{ℕ, ◌+◌, ◌-◌, ◌≤◌, ◌<◌}
use native.Mathlib.Decide.{dec_lt}
use native.Mathlib.Omega.{arith}
use lib.Dec.{ltb, leb}
use lib.ListN.{length, get_or, drop, length-replicate}
use lib.Seq.{get_or-drop, ext_get_or}
use borrow.Author.Tests.{ltb-true, lt-ltb, leb-true, le-leb, lt-leb, not-true, not-false}
use Rattle.finite.proofs.All.{and_left, and_right, and_both}
use Rattle.slices.specs.Slices.{all_zero}
use Rattle.slices.proofs.Zero.{all_zero-at, zeros-all_zero, get_or-zeros}
use Rattle.swapping.specs.declared.Swap.{Swap}
use Rattle.swapping.specs.Swap.{swap_of, can_swap, swap_bytes, undoing}
use Rattle.swapping.proofs.Bytes.{swaps-work}
use Rattle.swap_log.specs.Log.{most_swaps, log_size, swap_count, swap_place, swap_at, empty_log, Undone, undo_all, zero_after, log_ok, logged, last_swap, unlogged}
use Rattle.swap_log.specs.Theorems.{ValidLog, began, LogsSwap, TakesBack, LogWorks}
use Rattle.swap_log.proofs.Records.{written-length, written_low, written_count, written-swap, written-earlier, ZeroBehind, logged-zero, taken_back, unlogged-count, unlogged-zero}
use Rattle.swap_log.proofs.Undo.{stepped, undo-none, undo-more, undo-legal, undo-cong, redone}

-- what the check says, and back
pub record LogFacts (n : ℕ) (cls : ℕ → ℕ) (g l : List ℕ) : Type 0 where
  pub low : get_or l 0 0 < 256
  pub few : swap_count l ≤ most_swaps
  pub zero : ZeroBehind l
  pub legal : (undo_all n cls l (swap_count l) g).legal ≡ true

zero-behind : (l : List ℕ) → zero_after l ≡ true → ZeroBehind l
zero-behind l z p h =
    let e : swap_place (swap_count l) + (p - swap_place (swap_count l)) ≡ p = omega arith in
    ap (λ (k : ℕ). get_or l k 0) (sym e)
    ∙ sym (get_or-drop (swap_place (swap_count l)) l (p - swap_place (swap_count l)) 0)
    ∙ all_zero-at (drop (swap_place (swap_count l)) l) z (p - swap_place (swap_count l))

module _ (n : ℕ) (cls : ℕ → ℕ) (g l : List ℕ) where
  pub log_zero_after : log_ok n cls g l ≡ true → zero_after l ≡ true
  log_zero_after h =
      and_right (ltb (get_or l 0 0) 256 && leb (swap_count l) most_swaps) (zero_after l)
      (and_left (ltb (get_or l 0 0) 256 && leb (swap_count l) most_swaps && zero_after l) (undo_all n cls l (swap_count l) g).legal h)

  pub log_facts : log_ok n cls g l ≡ true → LogFacts n cls g l
  log_facts h =
      let lfz = and_left (ltb (get_or l 0 0) 256 && leb (swap_count l) most_swaps && zero_after l) (undo_all n cls l (swap_count l) g).legal h in
      let lf = and_left (ltb (get_or l 0 0) 256 && leb (swap_count l) most_swaps) (zero_after l) lfz in
      record {
        low = ltb-true (get_or l 0 0) 256 (and_left (ltb (get_or l 0 0) 256) (leb (swap_count l) most_swaps) lf);
        few = leb-true (swap_count l) most_swaps (and_right (ltb (get_or l 0 0) 256) (leb (swap_count l) most_swaps) lf);
        zero = zero-behind l (log_zero_after h);
        legal = and_right (ltb (get_or l 0 0) 256 && leb (swap_count l) most_swaps && zero_after l) (undo_all n cls l (swap_count l) g).legal h;
      }

  pub facts_log : LogFacts n cls g l → log_ok n cls g l ≡ true
  facts_log f =
      and_both _ _
      (and_both _ _ (and_both _ _ (lt-ltb (get_or l 0 0) 256 f.low) (le-leb (swap_count l) most_swaps f.few))
      (zeros-all_zero (drop (swap_place (swap_count l)) l) (λ i h. get_or-drop (swap_place (swap_count l)) l i 0 ∙ f.zero (swap_place (swap_count l) + i) (omega arith))))
      f.legal

  -- the tests in their order, of a log whose low byte is a byte
  module _ (low : get_or l 0 0 < 256) {m : ℕ} (e : m ≡ swap_count l) where
    pub too_many : most_swaps < m → log_ok n cls g l ≡ false
    too_many h = rw (lt-ltb (get_or l 0 0) 256 low, lt-leb (swap_count l) most_swaps (rw e at h))

    module _ (few : m ≤ most_swaps) {r : Bool} (z : r ≡ all_zero (drop (swap_place m) l)) where
      passed : log_ok n cls g l ≡ r && (undo_all n cls l m g).legal
      passed =
          rw (lt-ltb (get_or l 0 0) 256 low, le-leb (swap_count l) most_swaps (rw e at few))
          (ap (λ (k : ℕ). all_zero (drop (swap_place k) l) && (undo_all n cls l k g).legal) (sym e) ∙ ap (λ (t : Bool). t && (undo_all n cls l m g).legal) (sym z))

      pub not-zero_after : not r ≡ true → log_ok n cls g l ≡ false
      not-zero_after h = passed ∙ ap (λ (t : Bool). t && (undo_all n cls l m g).legal) (not-true r h)

      pub by_records : not r ≡ false → log_ok n cls g l ≡ (undo_all n cls l m g).legal
      by_records h = passed ∙ ap (λ (t : Bool). t && (undo_all n cls l m g).legal) (not-false r h)

  -- a log that is all zero
  pub zero_log : ((p : ℕ) → get_or l p 0 ≡ 0) → log_ok n cls g l ≡ true
  zero_log z =
      let none : swap_count l ≡ 0 = omega (arith, z 0, z 1) in
      facts_log
      (record {
        low = omega (arith, z 0);
        few = omega (arith, none);
        zero = λ p h. z p;
        legal = ap (λ (m : ℕ). (undo_all n cls l m g).legal) none ∙ ap (λ (u : Undone). u.legal) (undo-none n cls l g);
      })

pub empty_log-zero : (p : ℕ) → get_or empty_log p 0 ≡ 0
empty_log-zero = get_or-zeros log_size

pub empty_log-length : length empty_log ≡ log_size
empty_log-length = length-replicate {A = ℕ} log_size 0

-- a log that is all zero is the empty log
pub zero_is_empty : (l : List ℕ) → length l ≡ log_size → ((p : ℕ) → get_or l p 0 ≡ 0) → l ≡ empty_log
zero_is_empty l long z = ext_get_or 0 l empty_log (long ∙ sym empty_log-length) (λ i h. z i ∙ sym (empty_log-zero i))

-- and so is one of no records
pub none_is_empty : (l : List ℕ) → length l ≡ log_size → zero_after l ≡ true → swap_count l ≡ 0 → l ≡ empty_log
none_is_empty l long z none = zero_is_empty l long (λ p. go p (dec_lt p 1) (dec_lt p 2))
  where
    go : (p : ℕ) → Dec (p < 1) → Dec (p < 2) → get_or l p 0 ≡ 0
    go p (yes a) b = let e : p ≡ 0 = omega arith in rw e (omega (arith, none))
    go p (no a) (yes b) = let e : p ≡ 1 = omega arith in rw e (omega (arith, none))
    go p (no a) (no b) = zero-behind l z p (omega (arith, none))

-- it began with the matrix itself
pub began-zero : (n : ℕ) (cls : ℕ → ℕ) (g l : List ℕ) → ((p : ℕ) → get_or l p 0 ≡ 0) → began n cls g l ≡ g
began-zero n cls g l z =
    let none : swap_count l ≡ 0 = omega (arith, z 0, z 1) in
    ap (λ (m : ℕ). (undo_all n cls l m g).adjacency) none ∙ ap (λ (u : Undone). u.adjacency) (undo-none n cls l g)

-- one swap more
module _ (n : ℕ) (cls : ℕ → ℕ) (g l : List ℕ) (x : Swap) (v : ValidLog n cls g l) (can : can_swap n cls g x ≡ true) (room : swap_count l < most_swaps) where
  abbrev m : ℕ
  m = swap_count l

  f : LogFacts n cls g l
  f = log_facts n cls g l v.is_valid

  more : swap_count (logged l x) ≡ m + 1
  more = written_count l v.sized (m + 1) m x room

  there : swap_at (logged l x) m ≡ x
  there = written-swap l v.sized (m + 1) m x room

  -- what is left when the record is taken back is what was there before
  rest : undo_all n cls (logged l x) (swap_count (logged l x)) (swap_bytes g x) ≡ undo_all n cls l m g
  rest =
      let w = swaps-work n cls g x v.matrix can in
      ap (λ (k : ℕ). undo_all n cls (logged l x) k (swap_bytes g x)) more
      ∙ undo-more n cls (logged l x) m (swap_bytes g x)
      ∙ ap (λ (y : Swap). stepped (can_swap n cls (swap_bytes g x) (undoing y)) (undo_all n cls (logged l x) m (swap_bytes (swap_bytes g x) (undoing y)))) there
      ∙ rw (w.can_undo, w.undone) (undo-cong n cls (logged l x) l m (λ i h. written-earlier l v.sized (m + 1) m x room i h) g)

  pub logs_swap : LogsSwap n cls g l x
  logs_swap =
      record {
        after =
            record {
              matrix = (swaps-work n cls g x v.matrix can).matrix;
              sized = written-length l v.sized (m + 1) m x room;
              is_valid =
                  facts_log n cls (swap_bytes g x) (logged l x)
                  (record {
                    low = omega (arith, written_low l v.sized (m + 1) m x room);
                    few = omega (arith, more);
                    zero = logged-zero l v.sized x room f.zero;
                    legal = ap (λ (u : Undone). u.legal) rest ∙ f.legal;
                  });
            };
        counted = more;
        last = ap (swap_at (logged l x)) (omega (arith, more)) ∙ there;
        same_beginning = ap (λ (u : Undone). u.adjacency) rest;
        taken_back = taken_back l v.sized x room f.low f.zero;
      }

-- the last swap taken back
module _ (n : ℕ) (cls : ℕ → ℕ) (g l : List ℕ) (v : ValidLog n cls g l) (some : 0 < swap_count l) where
  abbrev k : ℕ
  k = swap_count l - 1

  abbrev y : Swap
  y = undoing (last_swap l)

  e : LogFacts n cls g l
  e = log_facts n cls g l v.is_valid

  one_more : k + 1 ≡ swap_count l
  one_more = omega arith

  legal : (can_swap n cls g y ≡ true) × ((undo_all n cls l k (swap_bytes g y)).legal ≡ true)
  legal = undo-legal n cls l k g (ap (λ (i : ℕ). (undo_all n cls l i g).legal) one_more ∙ e.legal)

  fewer : swap_count (unlogged l) ≡ k
  fewer = unlogged-count l v.sized some e.few

  -- the records before it are the same
  before : undo_all n cls (unlogged l) (swap_count (unlogged l)) (swap_bytes g y) ≡ undo_all n cls l k (swap_bytes g y)
  before =
      ap (λ (i : ℕ). undo_all n cls (unlogged l) i (swap_bytes g y)) fewer
      ∙ undo-cong n cls (unlogged l) l k (λ i h. written-earlier l v.sized k k (swap_of 0 0 0 0) (omega (arith, e.few)) i h) (swap_bytes g y)

  pub takes_back : TakesBack n cls g l
  takes_back =
      record {
        allowed = legal.0;
        after =
            record {
              matrix = (swaps-work n cls g y v.matrix legal.0).matrix;
              sized = written-length l v.sized k k (swap_of 0 0 0 0) (omega (arith, e.few));
              is_valid =
                  facts_log n cls (swap_bytes g y) (unlogged l)
                  (record {
                    low = omega (arith, written_low l v.sized k k (swap_of 0 0 0 0) (omega (arith, e.few)));
                    few = omega (arith, fewer, e.few);
                    zero = unlogged-zero l v.sized some e.few e.zero;
                    legal = ap (λ (u : Undone). u.legal) before ∙ legal.1;
                  });
            };
        counted = omega (arith, fewer);
        same_beginning =
            ap (λ (u : Undone). u.adjacency) before
            ∙ sym (ap (λ (i : ℕ). (undo_all n cls l i g).adjacency) (sym one_more) ∙ ap (λ (u : Undone). u.adjacency) (undo-more n cls l k g));
      }

pub log_works : LogWorks
log_works =
    record {
      swapped = logs_swap;
      undone = takes_back;
      replayed = λ n cls g l v. redone n cls l (swap_count l) g v.matrix (log_facts n cls g l v.is_valid).legal;
    }
