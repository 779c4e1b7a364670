-- Filling keeps the graph partial and the totals bounded by its edges.
-- Assumes nothing.
use mathlib.Core.Path.{◌≡◌}
use mathlib.Core.List.{List}
use Prim.Native.Nat.{ℕ, zero, suc, ◌+◌, ◌-◌, ◌*◌, ◌≤◌, ◌<◌}
use native.Mathlib.Omega.{arith}
use Rattle.finite.specs.Range.{fold_to}
use Rattle.finite.proofs.Fold.{fold_to-keeps}
use Rattle.answer.specs.Switches.{switch_count}
use Rattle.answer.specs.declared.switches.Switches.{Switches}
use Rattle.answer.specs.declared.switches.Switches.TheVariants.{None, One, Two}
use Rattle.graph.specs.Graph.{jdm}
use Rattle.graph.specs.Target.{Open}
use Rattle.graph.specs.Tests.{least_class, most_classes}
use Rattle.adjacency.specs.Adjacency.{edge}
use Rattle.join_records.specs.Record.{join_record_size}
use Rattle.join_bytes.specs.Join.{join_switches}
use Rattle.join_bytes.specs.Inner.Joinable.{Joinable}
use Rattle.join_bytes.proofs.Switches.{switches_bytes}
use Rattle.completion.specs.Choice.{open_w, open_v}
use Rattle.completion.specs.Complete.{Ran, joined, most_edges}
use Rattle.completion.specs.Inner.Cellwise.{cell_step, cell_missing, fill_cell, fill_row}
use Rattle.progress.specs.declared.Totals.{Totals}
use Rattle.progress.specs.Inner.Work.{Recordable, ValidRun, ran}
use Rattle.completion.proofs.Chosen.{Stepped, chosen, opened}
use Rattle.completion.proofs.Cellwise.{part-short, edges-within, room as edges_most}
use Rattle.completion.proofs.Works.{few_edges}

pub count-le : (x : Switches) → switch_count x ≤ 2
count-le None = omega arith
count-le (One x) = omega arith
count-le (Two x y) = omega arith

module _ (n : ℕ) (cls : ℕ → ℕ) (T : ℕ → ℕ → ℕ) (room : ℕ) where
  -- the join of an open pair; there is an edge to add, so its record fits
  module _ (s : Ran) (p : ValidRun n cls T room s) (v w : ℕ) (pair : Open n cls T (edge s.adjacency) v w) where
    st : Stepped n cls T s.adjacency (joined n cls s v w).adjacency (cls v) (cls w)
    st = opened n cls T s.adjacency p.filling v w pair

    pub joined-valid : ValidRun n cls T room (joined n cls s v w)
    joined-valid =
        record {
          filling = st.filling;
          joins_le = omega (arith, p.joins_le, st.one_more);
          switches_le = omega (arith, p.switches_le, count-le (join_switches n cls s.adjacency v w));
          records_fit = omega (arith, p.records_fit, st.one_more);
        }

    pub joined-room : join_record_size * s.joins + join_record_size ≤ room
    joined-room = omega (arith, p.records_fit, st.one_more, edges-within n cls T (joined n cls s v w).adjacency st.filling)

  -- one join in a short cell
  step-valid : (s : Ran) → ValidRun n cls T room s → (k l : ℕ) → k < most_classes → l < most_classes → jdm n cls (edge s.adjacency) k l < T k l
      → ValidRun n cls T room (cell_step n cls k l s)
  step-valid s p k l kC lC h =
      let g = s.adjacency in
      joined-valid s p (open_v n cls g k l) (open_w n cls g k l (open_v n cls g k l)) (chosen n cls T g p.filling k l kC lC h).pair

  -- i of the joins that a cell misses
  pub part-valid : (s : Ran) → ValidRun n cls T room s → (k l : ℕ) → k < most_classes → l < most_classes → (i : ℕ) → i ≤ cell_missing n cls T s.adjacency k l
      → ValidRun n cls T room (fold_to i (λ i. cell_step n cls k l) s)
  unfolding fold_to
  part-valid s p k l kC lC zero h = p
  part-valid s p k l kC lC (suc i) h =
      step-valid (fold_to i (λ i. cell_step n cls k l) s) (part-valid s p k l kC lC i (omega arith)) k l kC lC
      (part-short n cls T s p.filling k l kC lC i h)

  -- the cells of row k before k + i, and the rows before least_class + i
  pub row_valid : (s : Ran) → ValidRun n cls T room s → (k : ℕ) → (i : ℕ) → k + i ≤ most_classes
      → ValidRun n cls T room (fold_to i (λ i. fill_cell n cls T k (k + i)) s)
  row_valid s p k i h =
      fold_to-keeps (λ i x. ValidRun n cls T room x) (λ i. fill_cell n cls T k (k + i)) s i p
      (λ j x ji q. part-valid x q k (k + j) (omega arith) (omega arith) (cell_missing n cls T x.adjacency k (k + j)) (omega arith))

  pub rows_valid : (s : Ran) → ValidRun n cls T room s → (i : ℕ) → i ≤ most_classes - least_class
      → ValidRun n cls T room (fold_to i (λ i. fill_row n cls T (least_class + i)) s)
  rows_valid s p i h =
      fold_to-keeps (λ i x. ValidRun n cls T room x) (λ i. fill_row n cls T (least_class + i)) s i p
      (λ j x ji q. row_valid x q (least_class + j) (most_classes - (least_class + j)) (omega arith))

pub joins_most : {n : ℕ} {cls : ℕ → ℕ} {T : ℕ → ℕ → ℕ} {room : ℕ} {s : Ran} → ValidRun n cls T room s → s.joins ≤ most_edges
joins_most {n} {cls} {T} {room} {s} p =
    omega (arith, p.joins_le, edges_most n cls T most_edges (few_edges n cls T p.filling.target p.filling.few) s.adjacency p.filling)

-- the join of two vertices whose record fits
pub join-recordable : {n : ℕ} {cls : ℕ → ℕ} {T : ℕ → ℕ → ℕ} {room : ℕ} {g : List ℕ} {t : Totals} (out : List ℕ) → ValidRun n cls T room (ran g out t)
    → join_record_size * t.joins + join_record_size ≤ room → {v w : ℕ} → Joinable n cls g v w → {s : Switches} → s ≡ join_switches n cls g v w
    → Recordable room t v w s
join-recordable out p fits j e =
    record {
      few = joins_most p;
      switches_le = p.switches_le;
      fits = fits;
      first = omega (arith, j.pair.first, j.few);
      second = omega (arith, j.pair.second, j.few);
      bytes = switches_bytes j e;
    }
