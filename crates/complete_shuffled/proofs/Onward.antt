-- One join: what the code's steps ask for, and what holds after them.
-- Assumes nothing.
use mathlib.Core.Path.{◌≡◌, refl, ap, ap₂, ◌∙◌}
use mathlib.Core.Bool.{true, false}
use mathlib.Core.List.{List}
use Prim.Native.Nat.{ℕ, ◌+◌, ◌*◌, ◌≤◌, ◌<◌}
use native.Mathlib.Omega.{arith}
use lib.ListN.{length, get_or}
use lib.Seq.{sets}
use Rattle.answer.specs.declared.switches.Switches.{Switches}
use Rattle.graph.specs.Target.{Open}
use Rattle.graph.specs.Tests.{most_classes}
use Rattle.table.specs.Inner.Cells.{matrix_of}
use Rattle.adjacency.specs.Adjacency.{side, edge}
use Rattle.classes.specs.Inner.Block.{class_from}
use Rattle.join_records.specs.Record.{join_record_size, join_record}
use Rattle.join_bytes.specs.Join.{join_bytes, join_switches}
use Rattle.adjacency.specs.Inner.Degrees.{degrees_of}
use Rattle.join_bytes.specs.Inner.Joinable.{Joinable}
use Rattle.join_bytes.proofs.Untouched.{switches_below}
use Rattle.open_pairs.specs.Inner.Rows.{Scannable}
use Rattle.open_pairs.specs.Inner.Refresh.{Classed, Within}
use Rattle.completion.specs.Complete.{Ran, joined}
use Rattle.progress.specs.Inner.Work.{ran, with_join, Recordable}
use Rattle.progress.proofs.ValidRuns.{joined-valid, joined-room, join-recordable}
use Rattle.progress.proofs.Output.{joined-ran}
use Rattle.shuffled_completion.specs.Choice.{next_x, pair_v, pair_w, position, open_count}
use Rattle.shuffled_completion.specs.Shuffle.{Shuffled, next_shuffled, incomplete_shuffled}
use Rattle.tracking.specs.Inner.Track.{Tracked, has_now, have_after, is_full_now, flags_after, pairs_after}
use Rattle.complete_shuffled.specs.Inner.Work.{Lows, Shuffling, shuffled_at}
use Rattle.complete_shuffled.specs.declared.step.Shuffle.{Shuffle}
use Rattle.shuffled_completion.proofs.Picked.{Picked, picked, some_open, position-below, passes-open, passes-rising}
use Rattle.tracking.proofs.Following.{joinable, column_class, classes_rise, now_within, scannable_after, tracked_after}

module _ {n : ℕ} {cells starts classes g have full pairs low degrees : List ℕ} (out : List ℕ) (d : Shuffle)
    (p : Shuffling n cells starts classes g have full pairs low degrees (length out) (ran g out d.totals))
    (e : incomplete_shuffled n (class_from starts) (matrix_of cells) (shuffled_at g out d) ≡ true) where
  pub step_some : 0 < open_count n (class_from starts) (matrix_of cells) g
  step_some = some_open n (class_from starts) (matrix_of cells) g p.is_valid.filling e

  -- v and w: the pair that x picks
  module _ (x v w : ℕ) (ev : v ≡ pair_v n (class_from starts) (matrix_of cells) g (position n (class_from starts) (matrix_of cells) g x))
      (ew : w ≡ pair_w n (class_from starts) (matrix_of cells) g (position n (class_from starts) (matrix_of cells) g x) v) where
    picks : Picked n (class_from starts) (matrix_of cells) g (position n (class_from starts) (matrix_of cells) g x)
    picks =
        picked n (class_from starts) (matrix_of cells) g (position n (class_from starts) (matrix_of cells) g x)
        (position-below n (class_from starts) (matrix_of cells) g p.is_valid.filling e x)

    pub step_pair : Open n (class_from starts) (matrix_of cells) (edge g) v w
    step_pair = rw (ew, ev) (passes-open n (class_from starts) (matrix_of cells) g _ _ picks.second picks.passes)

    pub step_rises : v < w
    step_rises = rw (ew, ev) (passes-rising n (class_from starts) (matrix_of cells) g _ _ picks.passes)

    pub step_few : (v < side) × (w < side)
    step_few = (omega (arith, step_pair.first, p.is_valid.filling.few), omega (arith, step_pair.second, p.is_valid.filling.few))

    pub step_joinable : Joinable n (class_from starts) g v w
    step_joinable = joinable p.tracked p.is_valid.filling v w step_rises step_pair

    -- the classes of both, as the array has them
    pub row_of : {k : ℕ} → k ≡ get_or classes v 0 → k ≡ class_from starts v
    row_of ek = ek ∙ p.tracked.classed v step_pair.first

    pub column_of : {l : ℕ} → l ≡ get_or classes w 0 → l ≡ class_from starts w
    column_of el = el ∙ p.tracked.classed w step_pair.second

    step_room : join_record_size * d.totals.joins + join_record_size ≤ length out
    step_room = joined-room n (class_from starts) (matrix_of cells) (length out) (ran g out d.totals) p.is_valid v w step_pair

    pub step_recordable : {s : Switches} → s ≡ join_switches n (class_from starts) g v w → Recordable (length out) d.totals v w s
    step_recordable es = join-recordable out p.is_valid step_room step_joinable es

    -- k and l are their classes, g' the matrix after the join, s its switches
    module _ {k l : ℕ} (ek : k ≡ class_from starts v) (el : l ≡ class_from starts w) {g' : List ℕ}
        (eg : g' ≡ join_bytes n (class_from starts) g v w) {s : Switches} (es : s ≡ join_switches n (class_from starts) g v w) where
      pub update_asks : (Scannable n g' full × Classed n classes × Within n s) × ((k ≤ l) × (l < most_classes) × (has_now k l have ≤ matrix_of cells k l))
      update_asks =
          rw (eg, es, ek, el) (
            (
              scannable_after p.tracked p.is_valid.filling v w step_rises step_pair false,
              (λ u un. rw (p.tracked.classed u un) (p.is_valid.filling.target.classed u un)),
              switches_below step_joinable,
            ),
            (
              classes_rise p.tracked p.is_valid.filling v w step_rises step_pair,
              column_class p.tracked p.is_valid.filling v w step_rises step_pair,
              now_within p.tracked p.is_valid.filling v w step_rises step_pair,
            ),
          )

      -- what is kept after it
      step-tracked : {have' full' pairs' : List ℕ} → have' ≡ have_after k l have → full' ≡ flags_after cells starts k l have full
          → pairs' ≡ pairs_after n starts classes g' (flags_after cells starts k l have full) v k (is_full_now cells k l have) s pairs
          → Tracked n cells starts classes g' have' full' pairs'
      step-tracked eh ef ec =
          let ec' = rw (eg, ek, el, es) at ec in
          rw (eg, eh, ef, ek, el) (tracked_after p.tracked p.is_valid.filling v w step_rises step_pair ec')

      -- the output with the record
      module _ {out' : List ℕ} (eo : out' ≡ sets out (join_record_size * d.totals.joins) (join_record v w s)) where
        step_ran : ran g' out' (with_join d.totals s) ≡ joined n (class_from starts) (ran g out d.totals) v w
        step_ran = joined-ran n (class_from starts) (ran g out d.totals) v w es out out' g' step_room refl eo eg

        pub step_next : x ≡ next_x d.x
            → shuffled_at g' out' (record { totals = with_join d.totals s; x = x }) ≡ next_shuffled n (class_from starts) (matrix_of cells) (shuffled_at g out d)
        step_next ex =
            ap₂ {C = Shuffled} (λ (r : Ran) (y : ℕ). record { ran = r; x = y }) (step_ran ∙ ap₂ (joined n (class_from starts) (ran g out d.totals)) ev (ew ∙ column)) ex
            ∙ same
          where
            column : pair_w n (class_from starts) (matrix_of cells) g (position n (class_from starts) (matrix_of cells) g x) v
                ≡ pair_w n (class_from starts) (matrix_of cells) g (position n (class_from starts) (matrix_of cells) g x)
                (pair_v n (class_from starts) (matrix_of cells) g (position n (class_from starts) (matrix_of cells) g x))
            column = ap (pair_w n (class_from starts) (matrix_of cells) g (position n (class_from starts) (matrix_of cells) g x)) ev

            same : ◌≡◌ {A = Shuffled}
                (record {
                  ran =
                      joined n (class_from starts) (ran g out d.totals)
                      (pair_v n (class_from starts) (matrix_of cells) g (position n (class_from starts) (matrix_of cells) g x))
                      (pair_w n (class_from starts) (matrix_of cells) g (position n (class_from starts) (matrix_of cells) g x)
                      (pair_v n (class_from starts) (matrix_of cells) g (position n (class_from starts) (matrix_of cells) g x)));
                  x = next_x d.x;
                })
                (next_shuffled n (class_from starts) (matrix_of cells) (shuffled_at g out d))
            same = rw ex refl

        pub step_shuffling : {have' full' pairs' low' degrees' : List ℕ} → have' ≡ have_after k l have → full' ≡ flags_after cells starts k l have full
            → pairs' ≡ pairs_after n starts classes g' (flags_after cells starts k l have full) v k (is_full_now cells k l have) s pairs
            → Lows n starts (join_bytes n (class_from starts) g v w) low' → degrees' ≡ degrees_of n (join_bytes n (class_from starts) g v w)
            → Shuffling n cells starts classes g' have' full' pairs' low' degrees' (length out) (ran g' out' (with_join d.totals s))
        step_shuffling eh ef ec lows ed =
            record {
              tracked = step-tracked eh ef ec;
              lows = rw eg lows;
              is_valid =
                  rw step_ran
                  (joined-valid n (class_from starts) (matrix_of cells) (length out) (ran g out d.totals) p.is_valid v w step_pair);
              degrees_right = rw eg ed;
            }
