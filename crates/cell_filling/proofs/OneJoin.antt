-- One join in a short cell: the searches from the cursor find what is to be joined, and the cursor moved on has passed only what is done.
-- Assumes nothing.
use mathlib.Core.Path.{◌≡◌, sym, ap, ap₂, ◌∙◌}
use mathlib.Core.List.{List}
use Prim.Native.Nat.{ℕ, ◌+◌, ◌*◌, ◌≤◌, ◌<◌, min}
use native.Mathlib.Omega.{arith}
use lib.Dec.{ltb}
use lib.ListN.{length, get_or, take}
use lib.Seq.{sets}
use Rattle.finite.specs.Range.{lowest}
use Rattle.finite.proofs.Lowest.{lowest-le, lowest-ge}
use Rattle.answer.specs.Switches.{switch_count}
use Rattle.answer.specs.declared.switches.Switches.{Switches}
use Rattle.graph.specs.Tests.{class_degree}
use Rattle.join_bytes.specs.Join.{join_bytes, join_switches}
use Rattle.classes.specs.Inner.Block.{class_from}
use Rattle.join_bytes.specs.Inner.Joinable.{Joinable}
use Rattle.switching.specs.Inner.Work.{Placed}
use Rattle.joining.specs.Inner.Work.{freed}
use Rattle.completion.specs.Choice.{open_w, open_v}
use Rattle.join_records.specs.Record.{join_record_size, join_record}
use Rattle.completion.specs.Complete.{Ran, joined}
use Rattle.completion.specs.Inner.Cellwise.{cell_step, Filling}
use Rattle.cell_filling.specs.Inner.Search.{lowest_column, has_column, Searchable}
use Rattle.progress.specs.Inner.Work.{Saturated}
use Rattle.cell_filling.specs.Inner.Work.{CellOf, Resumes, Steppable}
use Rattle.cell_filling.specs.declared.pair.Cell.{Cell}
use Rattle.cell_filling.specs.declared.Cursor.{Cursor}
use Rattle.completion.proofs.Chosen.{Chosen, chosen}
use Rattle.progress.proofs.ValidRuns.{joined-room}
use Rattle.progress.proofs.Saturated.{low_saturated, saturated_stays}
use Rattle.progress.proofs.Output.{joined-ran}
use Rattle.cell_filling.proofs.Passed.{rows_after, columns_after}
use Rattle.cell_filling.proofs.Search.{Found, found, searchable}

module _ {n : ℕ} {cls : ℕ → ℕ} {c : Cell} {u : Cursor} {room : ℕ} {s : Ran} {degrees : List ℕ} (p : Steppable n cls c u room s degrees) where
  abbrev g : List ℕ
  g = s.adjacency

  abbrev k : ℕ
  k = c.k

  abbrev l : ℕ
  l = c.l

  filling : Filling n cls p.table s.adjacency
  filling = p.is_valid.filling

  chose : Chosen n cls p.table g k l (open_v n cls g k l) (open_w n cls g k l (open_v n cls g k l))
  chose = chosen n cls p.table g filling k l p.ranged.first p.ranged.second p.short

  find : Found n cls g c p.ranged u.at.v
  find = found n cls g c p.ranged chose.pair.first u.at.v p.resumes.row p.resumes.rows

  pub step_searchable : Searchable g c u.at.v u.at.w
  step_searchable =
      searchable n cls g c p.ranged filling.few u.at.v u.at.w p.resumes.row (omega (arith, find.row_from, find.row_below))
      p.resumes.column p.resumes.columns

  abbrev g' : List ℕ
  g' = join_bytes n cls g (open_v n cls g k l) (open_w n cls g k l (open_v n cls g k l))

  stays : (j low : ℕ) → low ≤ n → Saturated n cls g j low → Saturated n cls g' j low
  stays = saturated_stays n cls p.table g filling (open_v n cls g k l) (open_w n cls g k l (open_v n cls g k l)) chose.pair

  -- the record fits
  pub step_room : join_record_size * s.joins + join_record_size ≤ room
  step_room = joined-room n cls p.table room s p.is_valid (open_v n cls g k l) (open_w n cls g k l (open_v n cls g k l)) chose.pair

  -- v and w: what the search for a pair found; x and y: what those for unsaturated vertices did
  module _ (v w : ℕ) (ev : v ≡ lowest u.at.v c.rows.to (has_column g c)) (ew : v < c.rows.to → w ≡ lowest_column g c v) where
    pub pair_row : v ≡ open_v n cls g k l
    pair_row = ev ∙ find.row

    pub pair-column : w ≡ open_w n cls g k l (open_v n cls g k l)
    pair-column = ew (omega (arith, pair_row, find.row_below)) ∙ ap (lowest_column g c) pair_row ∙ find.column

    pub step_joinable : Joinable n cls g v w
    step_joinable =
        rw (pair_row, pair-column)
        (record {
          table = p.table;
          sized = filling.sized;
          few = filling.few;
          target = filling.target;
          partial = filling.partial;
          pair = chose.pair;
        })

    -- what the step writes: the record of the pair with the join's switches x
    module _ {x : Switches} (ex : x ≡ join_switches n cls g v w) where
      -- the state after the join, its record being the last one in the output
      pub step_ran : (out out' g' : List ℕ) → room ≡ length out → s.records ≡ take (join_record_size * s.joins) out
          → out' ≡ sets out (join_record_size * s.joins) (join_record v w x) → g' ≡ join_bytes n cls g v w
          → ◌≡◌ {A = Ran}
          (record {
            adjacency = g';
            joins = s.joins + 1;
            switches = s.switches + switch_count x;
            records = take (join_record_size * (s.joins + 1)) out';
          })
          (cell_step n cls k l s)
      step_ran out out' g' er es eo eg =
          joined-ran n cls s v w ex out out' g' (omega (arith, step_room, er)) es eo eg ∙ ap₂ (joined n cls s) pair_row pair-column

    module _ (x y : ℕ) (ex : x ≡ lowest u.low.v c.rows.to (λ i. ltb (get_or degrees i 0) (class_degree c.k)))
        (ey : y ≡ lowest u.low.w c.columns.to (λ i. ltb (get_or degrees i 0) (class_degree c.l))) where
      rows-saturated : Saturated n cls g k x
      rows-saturated =
          low_saturated n cls g degrees k c.rows.from c.rows.to u.low.v x filling.few p.ranged.rows p.degrees_right
          p.resumes.low_row p.resumes.saturated_rows ex

      columns-saturated : Saturated n cls g l y
      columns-saturated =
          low_saturated n cls g degrees l c.columns.from c.columns.to u.low.w y filling.few p.ranged.columns p.degrees_right
          p.resumes.low_column p.resumes.saturated_columns ey

      low-row-le : x ≤ c.rows.to
      low-row-le = omega (arith, lowest-le u.low.v c.rows.to (λ i. ltb (get_or degrees i 0) (class_degree k)) p.resumes.low_row)

      low-column-le : y ≤ c.columns.to
      low-column-le = omega (arith, lowest-le u.low.w c.columns.to (λ i. ltb (get_or degrees i 0) (class_degree l)) p.resumes.low_column)

      low-row-most : x ≤ n
      low-row-most = omega (arith, low-row-le, p.ranged.rows.within)

      low-column-most : y ≤ n
      low-column-most = omega (arith, low-column-le, p.ranged.columns.within)

      row_low : c.rows.from ≤ x
      row_low =
          omega (arith, p.resumes.row_low, lowest-ge u.low.v c.rows.to (λ i. ltb (get_or degrees i 0) (class_degree k)) p.resumes.low_row)

      column_low : c.columns.from ≤ y
      column_low =
          omega (arith, p.resumes.column_low, lowest-ge u.low.w c.columns.to (λ i. ltb (get_or degrees i 0) (class_degree l)) p.resumes.low_column)

      -- the cursor moved on: b is the column where the row's search goes on
      pub step_resumes : (h : List ℕ) (f b : ℕ) → h ≡ join_bytes n cls g v w → f ≡ freed n cls g v w → b ≡ min f (w + 1)
          → Resumes n cls h c (record { at = record { v = v; w = b }; low = record { v = x; w = y } })
      step_resumes h f b eh ef eb =
          rw (eh, eb, ef, pair_row, pair-column)
          (record {
            row = omega (arith, p.resumes.row, find.row_from);
            column = omega (arith, find.column_below);
            rows = rows_after n cls p.table g filling k l chose;
            columns = columns_after n cls p.table g filling k l chose;
            row_low = row_low;
            column_low = column_low;
            low_row = low-row-le;
            low_column = low-column-le;
            saturated_rows = stays k x low-row-most rows-saturated;
            saturated_columns = stays l y low-column-most columns-saturated;
          })

-- both ends of the pair, with the classes as the starts have them
module _ {n : ℕ} {starts : List ℕ} {c : Cell} {u : Cursor} {room : ℕ} {s : Ran} {degrees : List ℕ}
    (p : Steppable n (class_from starts) c u room s degrees)
    (o : CellOf n starts c) (v w : ℕ) (ev : v ≡ lowest u.at.v c.rows.to (has_column s.adjacency c))
    (ew : v < c.rows.to → w ≡ lowest_column s.adjacency c v)
    (x y : ℕ) (ex : x ≡ lowest u.low.v c.rows.to (λ i. ltb (get_or degrees i 0) (class_degree c.k)))
    (ey : y ≡ lowest u.low.w c.columns.to (λ i. ltb (get_or degrees i 0) (class_degree c.l))) where
  pub row_placed : Placed n starts s.adjacency (record { at = v; class = c.k; low = x }) w
  row_placed =
      record {
        numbered = o.numbered;
        class = sym (ap (class_from starts) (pair_row p v w ev ew) ∙ (chose p).row);
        after = omega (arith, row_low p v w ev ew x y ex ey, ap (λ (d : Cell). d.rows.from) o.between);
        before = omega (arith, low-row-le p v w ev ew x y ex ey, ap (λ (d : Cell). d.rows.to) o.between);
        saturated = λ i h e d. rows-saturated p v w ev ew x y ex ey i h e;
      }

  pub column_placed : Placed n starts s.adjacency (record { at = w; class = c.l; low = y }) v
  column_placed =
      record {
        numbered = o.numbered;
        class = sym (ap (class_from starts) (pair-column p v w ev ew) ∙ (chose p).column);
        after = omega (arith, column_low p v w ev ew x y ex ey, ap (λ (d : Cell). d.columns.from) o.between);
        before = omega (arith, low-column-le p v w ev ew x y ex ey, ap (λ (d : Cell). d.columns.to) o.between);
        saturated = λ i h e d. columns-saturated p v w ev ew x y ex ey i h e;
      }
