-- Before the first join: what is kept, as the code makes it.
-- Assumes nothing.
use mathlib.Core.Path.{refl}
use mathlib.Core.List.{List}
use Prim.Native.Nat.{ℕ, ◌+◌}
use native.Mathlib.Omega.{arith}
use Rattle.classes.proofs.Blocks.{start_rises, start_most, class_only}
use Rattle.open_pairs.specs.Inner.Refresh.{Classed}
use Rattle.completion.specs.Complete.{fresh}
use Rattle.progress.specs.Inner.Work.{Arranged, Working}
use Rattle.tracking.specs.Inner.Track.{CellsCountable, ClassArray, Tracked}
use Rattle.complete_shuffled.specs.Inner.Work.{Lows, Shuffling}

-- before the first vertex of a class there is none of it
begin_lows : {n : ℕ} {starts : List ℕ} (g : List ℕ) → Arranged n starts → Lows n starts g starts
begin_lows g a =
    record {
      sized = refl;
      from = λ k kd. omega arith;
      to = λ k kd. start_rises a.numbered k (k + 1) (omega arith) (omega arith);
      saturated = λ k kd i h e.
          absurd (omega (
            arith,
            (class_only a.numbered k i kd (omega (arith, start_most a.numbered k (omega arith))) e).0,
          ));
    }

module _ {n : ℕ} {cells starts g degrees : List ℕ} {room : ℕ} (classes : List ℕ) (p : Working n cells starts degrees room (fresh g))
    (c : ClassArray n starts classes) where
  pub begin_countable : CellsCountable n cells starts g
  begin_countable =
      record {
        sized = p.is_valid.filling.sized;
        arranged = p.arranged;
        simple = p.is_valid.filling.partial.simple;
        within = p.is_valid.filling.partial.within;
      }

  pub begin_classed : Classed n classes
  begin_classed v vn = rw (c v vn) (p.is_valid.filling.target.classed v vn)

  pub begin_shuffling : {have full pairs : List ℕ} → Tracked n cells starts classes g have full pairs
      → Shuffling n cells starts classes g have full pairs starts degrees room (fresh g)
  begin_shuffling tracked = record { tracked = tracked; lows = begin_lows g p.arranged; is_valid = p.is_valid; degrees_right = p.degrees_right }
