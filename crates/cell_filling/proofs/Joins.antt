-- The joins of one cell: before each of them the cell is short, and the cursor stands as it should.
-- Assumes nothing.
use mathlib.Core.Path.{◌≡◌, sym, ◌∙◌}
use mathlib.Core.List.{List}
use Prim.Native.Nat.{ℕ, ◌≤◌, ◌<◌}
use native.Mathlib.Omega.{arith}
use lib.ListN.{length}
use Rattle.finite.specs.Range.{fold_to}
use Rattle.adjacency.specs.Inner.Degrees.{degrees_of}
use Rattle.completion.specs.Complete.{Ran}
use Rattle.completion.specs.Inner.Cellwise.{cell_step}
use Rattle.cell_filling.specs.Inner.Search.{Ranged}
use Rattle.progress.specs.Inner.Work.{ValidRun}
use Rattle.cell_filling.specs.Inner.Work.{Resumes, Steppable, Fillable}
use Rattle.cell_filling.specs.declared.pair.Cell.{Cell}
use Rattle.cell_filling.specs.declared.Cursor.{Cursor}
use Rattle.completion.proofs.Cellwise.{part-short}
use Rattle.progress.proofs.ValidRuns.{part-valid}

-- before the first vertices of its classes nothing is left to do in a cell
pub start_resumes : (n : ℕ) (cls : ℕ → ℕ) (g : List ℕ) (c : Cell) → Ranged n cls c
    → Resumes n cls g c (record { at = record { v = c.rows.from; w = 0 }; low = record { v = c.rows.from; w = c.columns.from } })
start_resumes n cls g c r =
    record {
      row = omega arith;
      column = omega arith;
      rows = λ u x h xn e. absurd (before-rows u h e);
      columns = λ x h. absurd (omega arith);
      row_low = omega arith;
      column_low = omega arith;
      low_row = r.rows.ordered;
      low_column = r.columns.ordered;
      saturated_rows = λ i h e. absurd (before-rows i h e);
      saturated_columns = λ i h e. absurd (omega (arith, r.columns.only i (omega (arith, r.columns.ordered, r.columns.within)) e));
    }
  where
    before-rows : (u : ℕ) → u < c.rows.from → cls u ≡ c.k → ⊥
    before-rows u h e = omega (arith, r.rows.only u (omega (arith, r.rows.ordered, r.rows.within)) e)

-- x: the state after i of the joins
module _ {n : ℕ} {cls : ℕ → ℕ} {c : Cell} {m room : ℕ} {s : Ran} {degrees₀ : List ℕ} (p : Fillable n cls c m room s degrees₀)
    (i : ℕ) (x : Ran) (e : x ≡ fold_to i (λ i. cell_step n cls c.k c.l) s) where
  fill-valid : i ≤ m → ValidRun n cls p.table room x
  fill-valid h = rw e (part-valid n cls p.table room s p.is_valid c.k c.l p.ranged.first p.ranged.second i (omega (arith, p.missing)))

  pub fill_sized : i ≤ m → length x.adjacency ≡ length s.adjacency
  fill_sized h = (fill-valid h).filling.sized ∙ sym p.is_valid.filling.sized

  pub fill_steppable : i < m → (u : Cursor) (degrees : List ℕ) → Resumes n cls x.adjacency c u → degrees ≡ degrees_of n x.adjacency
      → {left : ℕ} → left ≡ room → Steppable n cls c u left x degrees
  fill_steppable h u degrees r d er =
      record {
        table = p.table;
        is_valid = rw er (fill-valid (omega arith));
        short =
            rw e (part-short n cls p.table s p.is_valid.filling c.k c.l p.ranged.first p.ranged.second i (omega (arith, p.missing)));
        ranged = p.ranged;
        resumes = r;
        degrees_right = d;
      }
