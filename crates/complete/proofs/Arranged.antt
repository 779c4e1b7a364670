-- What the arrays of a layout say: the vertices of a class are a range between two starts, and a cell is the sum of a block.
-- Assumes nothing.
use mathlib.Core.Path.{◌≡◌, refl, sym, ap, ◌∙◌}
use mathlib.Core.Bool.{Bool, true, false, cond}
use mathlib.Core.List.{List}
use Prim.Native.Nat.{ℕ, ◌+◌, ◌-◌, ◌*◌, ◌/◌, ◌≤◌, ◌<◌}
use native.Mathlib.Nat.{mul-zero}
use native.Mathlib.Omega.{arith}
use lib.Dec.{eqb}
use lib.ListN.{length, get_or}
use Rattle.finite.specs.Range.{fold_to, δ}
use Rattle.graph.specs.Graph.{times_counted, size}
use Rattle.graph.specs.Tests.{least_class, most_classes, class_degree}
use Rattle.table.specs.Inner.Cells.{matrix_of}
use Rattle.finite.proofs.Delta.{δ-other}
use Rattle.finite.proofs.Fold.{fold_to-keeps, fold_to-none}
use Rattle.finite.proofs.Sum.{sum_to-zero, sum_to-term}
use Rattle.adjacency.specs.Adjacency.{edge}
use Rattle.adjacency.specs.Inner.Degrees.{degrees_of}
use Rattle.classes.specs.Inner.Block.{Numbered, class_from, block_sum}
use Rattle.classes.proofs.Blocks.{class_only, class_range, block-cell}
use Rattle.completion.specs.Complete.{Ran}
use Rattle.completion.specs.Inner.Cellwise.{cell_step, cell_missing, fill_cell, fill_row}
use Rattle.cell_filling.specs.Inner.Search.{Ranged}
use Rattle.progress.specs.Inner.Work.{ValidRun, Working}
use Rattle.cell_filling.specs.Inner.Work.{Fillable, CellOf, cell_in}
use Rattle.complete.specs.Inner.Work.{Countable}
use Rattle.progress.proofs.ValidRuns.{row_valid, rows_valid}

-- a cell that the table has nothing in misses nothing
pub none_missing : (want have : ℕ) (t : Bool) → want ≡ 0 → 0 ≡ (want - have) / cond t 2 1
none_missing want have true e = omega arith
none_missing want have false e = omega arith

module _ (n : ℕ) (starts : List ℕ) (numbered : Numbered n starts) where
  pub ranged : (k l : ℕ) → k < most_classes → l < most_classes → Ranged n (class_from starts) (cell_in starts k l)
  ranged k l kC lC = record { first = kC; second = lC; rows = class_range numbered k kC; columns = class_range numbered l lC }

-- a state of the work, and a cell of it
module _ {n : ℕ} {cells starts degrees : List ℕ} {room : ℕ} {s : Ran} (p : Working n cells starts degrees room s)
    (k l : ℕ) (kC : k < most_classes) (lC : l < most_classes) where
  pub countable : Countable s.adjacency cells (cell_in starts k l)
  countable =
      let r = ranged n starts p.arranged.numbered k l kC lC in
      record {
        first = kC;
        second = lC;
        block =
            record {
              n = n;
              few = p.arranged.few;
              simple = p.is_valid.filling.partial.simple;
              rows = (r.rows.ordered, r.rows.within);
              columns = (r.columns.ordered, r.columns.within);
            };
        within =
            rw (block-cell p.arranged.numbered (edge s.adjacency) k l kC lC) (p.is_valid.filling.partial.within k l kC lC);
      }

  pub cell_of : CellOf n starts (cell_in starts k l)
  cell_of = record { numbered = p.arranged.numbered; between = refl }

  -- m: what the cell misses, by the sum of its block
  module _ (m : ℕ)
      (e : m ≡ (matrix_of cells k l - block_sum (edge s.adjacency) (get_or starts k 0) (get_or starts (k + 1) 0) (get_or starts l 0) (get_or starts (l + 1) 0))
      / times_counted k l) where
    missing-count : m ≡ cell_missing n (class_from starts) (matrix_of cells) s.adjacency k l
    missing-count = rw (← (block-cell p.arranged.numbered (edge s.adjacency) k l kC lC)) e

    pub fillable : Fillable n (class_from starts) (cell_in starts k l) m room s degrees
    fillable =
        record {
          table = matrix_of cells;
          is_valid = p.is_valid;
          missing = omega (arith, missing-count);
          ranged = ranged n starts p.arranged.numbered k l kC lC;
          degrees_right = p.degrees_right;
        }

    pub cell_filled : (r : Ran) → r ≡ fold_to m (λ i. cell_step n (class_from starts) k l) s → r ≡ fill_cell n (class_from starts) (matrix_of cells) k l s
    cell_filled r er = er ∙ ap (λ (i : ℕ). fold_to i (λ i. cell_step n (class_from starts) k l) s) missing-count

-- the work goes on from any run that is valid
module _ {n : ℕ} {cells starts degrees : List ℕ} {room : ℕ} {s : Ran} (p : Working n cells starts degrees room s) where
  pub working : (x : Ran) → ValidRun n (class_from starts) (matrix_of cells) room x → (h : List ℕ) → h ≡ degrees_of n x.adjacency
      → {left : ℕ} → left ≡ room → Working n cells starts h left x
  working x v h e er = record { arranged = p.arranged; is_valid = rw er v; degrees_right = e }

  pub working_sized : (x : Ran) → ValidRun n (class_from starts) (matrix_of cells) room x → length x.adjacency ≡ length s.adjacency
  working_sized x v = v.filling.sized ∙ sym p.is_valid.filling.sized

  -- x: the state after the first i cells of row k, and after the first i rows
  module _ (i : ℕ) (x : Ran) where
    pub cells-valid : (k : ℕ) → k + i ≤ most_classes → x ≡ fold_to i (λ i. fill_cell n (class_from starts) (matrix_of cells) k (k + i)) s
        → ValidRun n (class_from starts) (matrix_of cells) room x
    cells-valid k h e = rw e (row_valid n (class_from starts) (matrix_of cells) room s p.is_valid k i h)

    pub all_valid : i ≤ most_classes - least_class → x ≡ fold_to i (λ i. fill_row n (class_from starts) (matrix_of cells) (least_class + i)) s
        → ValidRun n (class_from starts) (matrix_of cells) room x
    all_valid h e = rw e (rows_valid n (class_from starts) (matrix_of cells) room s p.is_valid i h)

  -- a class without vertices has no cell to fill
  module _ (k : ℕ) (kC : k < most_classes) (empty : get_or starts k 0 ≡ get_or starts (k + 1) 0) where
    no-vertices : size n (class_from starts) k ≡ 0
    no-vertices =
        sum_to-zero n (λ v. δ (class_from starts v) k)
        (λ v vn. δ-other (class_from starts v) k (λ e. omega (arith, class_only p.arranged.numbered k v kC vn e)))

    no_cell : (l : ℕ) → l < most_classes → matrix_of cells k l ≡ 0
    no_cell l lC =
        omega (
          arith,
          sum_to-term most_classes (matrix_of cells k) l lC,
          p.is_valid.filling.target.rows k kC ∙ ap (λ (m : ℕ). class_degree k * m) no-vertices ∙ mul-zero (class_degree k),
        )

    pub row_empty : s ≡ fill_row n (class_from starts) (matrix_of cells) k s
    row_empty =
        sym (fold_to-keeps (λ i x. x ≡ s) (λ i. fill_cell n (class_from starts) (matrix_of cells) k (k + i)) s (most_classes - k) refl
        (λ i x l e. same i x l ∙ e))
      where
        same : (i : ℕ) (x : Ran) → i < most_classes - k → fill_cell n (class_from starts) (matrix_of cells) k (k + i) x ≡ x
        same i x l =
            ap (λ (m : ℕ). fold_to m (λ j. cell_step n (class_from starts) k (k + i)) x)
            (sym (none_missing (matrix_of cells k (k + i)) _ (eqb k (k + i)) (no_cell (k + i) (omega arith))))
            ∙ fold_to-none (λ j. cell_step n (class_from starts) k (k + i)) x
