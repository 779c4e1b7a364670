-- Records written one behind the other, from the output's start on.
-- Assumes nothing.
use mathlib.Core.Path.{◌≡◌, refl, sym, ap, ap₂, ◌∙◌}
use mathlib.Core.List.{List, ◌++◌}
use Prim.Native.Nat.{ℕ, ◌+◌, ◌*◌, ◌≤◌}
use native.Mathlib.Omega.{arith}
use lib.ListN.{length, take, drop, take-append-drop}
use lib.Seq.{sets, length-sets, length-take-le}
use Rattle.slices.proofs.Part.{take-written, drop-written, take-sets, drop-sets, drop-later}
use Rattle.answer.specs.Switches.{switch_count}
use Rattle.answer.specs.declared.switches.Switches.{Switches}
use Rattle.join_records.specs.Record.{join_record_size, join_record}
use Rattle.join_bytes.specs.Join.{join_bytes, join_switches}
use Rattle.completion.specs.Complete.{Ran, joined}
use Rattle.progress.specs.Inner.Work.{WroteRecords}

-- one record more, behind those of i joins
module _ (out : List ℕ) (i v w : ℕ) (s : Switches) (fits : join_record_size * i + join_record_size ≤ length out) where
  after : join_record_size * i + join_record_size ≡ join_record_size * (i + 1)
  after = omega arith

  pub records-more : take (join_record_size * (i + 1)) (sets out (join_record_size * i) (join_record v w s)) ≡ take (join_record_size * i) out ++ join_record v w s
  records-more = rw after at (take-written out (join_record_size * i) (join_record v w s) fits)

  pub wrote_one : WroteRecords i (i + 1) out (sets out (join_record_size * i) (join_record v w s))
  wrote_one =
      record {
        rises = omega arith;
        sized = length-sets out (join_record_size * i) (join_record v w s);
        behind = rw after at (drop-written out (join_record_size * i) (join_record v w s) fits);
      }

-- the state after a join, its record being the last one in the output
pub joined-ran : (n : ℕ) (cls : ℕ → ℕ) (s : Ran) (v w : ℕ) {x : Switches} → x ≡ join_switches n cls s.adjacency v w
    → (out out' g' : List ℕ) → join_record_size * s.joins + join_record_size ≤ length out → s.records ≡ take (join_record_size * s.joins) out
    → out' ≡ sets out (join_record_size * s.joins) (join_record v w x) → g' ≡ join_bytes n cls s.adjacency v w
    → ◌≡◌ {A = Ran}
    (record { adjacency = g'; joins = s.joins + 1; switches = s.switches + switch_count x; records = take (join_record_size * (s.joins + 1)) out' })
    (joined n cls s v w)
joined-ran n cls s v w {x} ex out out' g' fits es eo eg = rw (eo, records-more out s.joins v w x fits, ← es, eg, ex)

pub wrote_none : (i : ℕ) (out : List ℕ) → WroteRecords i i out out
wrote_none i out = record { rises = omega arith; sized = refl; behind = refl }

pub wrote_then : {i j k : ℕ} {a b c : List ℕ} → WroteRecords i j a b → WroteRecords j k b c → WroteRecords i k a c
wrote_then {i} {j} {k} {a} {b} {c} p q =
    record {
      rises = omega (arith, p.rises, q.rises);
      sized = q.sized ∙ p.sized;
      behind = q.behind ∙ drop-later (join_record_size * j) (join_record_size * k) b a (omega (arith, q.rises)) p.behind;
    }

-- the records of all joins, from the first one on, and behind them what was there
pub wrote_all : (j : ℕ) (out out' records : List ℕ) → WroteRecords 0 j out out' → join_record_size * j ≤ length out → take (join_record_size * j) out' ≡ records
    → (out' ≡ sets out 0 records) × (join_record_size * j ≡ length records)
wrote_all j out out' records p fits e = (
  sym (take-append-drop (join_record_size * j) out')
      ∙ ap₂ ◌++◌ e (p.behind ∙ ap (λ (n : ℕ). drop n out) written)
      ∙ ap₂ ◌++◌ (sym (take-sets out records short)) (sym (drop-sets out records short))
      ∙ take-append-drop (length records) (sets out 0 records),
  written,
)
  where
    written : join_record_size * j ≡ length records
    written = sym (length-take-le (join_record_size * j) out' (omega (arith, p.sized))) ∙ ap length e

    short : length records ≤ length out
    short = omega (arith, written)
