-- `picking::pick` meets its contract.
use Rattle.std.proofs.Common.{ℕ, ◌/◌, ◌%◌, ap, ◌∙◌, mod-lt, arith}
use Rattle.table.specs.Inner.Cells.{matrix_of}
use Rattle.classes.specs.Inner.Block.{class_from}
use Rattle.shuffled_completion.specs.Choice.{pair_v, pair_w}
use Rattle.picking.proofs.Seeking.{total-count, seek_row, seek_column}
use Rattle.picking.proofs.pick.Goals as goal

pub nonzero_rem-x : goal.nonzero_rem-x
nonzero_rem-x c = omega (arith, c.total-m.ensures, total-count c.requires.0 c.requires.1, c.requires.2)

pub row_at-place-requires : goal.row_at-place-requires
row_at-place-requires c =
    let some = total-count c.requires.0 c.requires.1 in
    rw c.total-m.ensures (mod-lt _ (omega (arith, some, c.requires.2)))

pub returns : goal.returns
returns c =
    let picks = ap (λ (m : ℕ). c.args.x / 65536 % m) (c.total-m.ensures ∙ total-count c.requires.0 c.requires.1) in
    let column = rw c.from-k.ensures at c.column_at-w.ensures in
    let n = c.args.plan.now.n in
    let cls = class_from c.args.plan.now.starts.now in
    let T = matrix_of c.args.plan.now.cells.now in
    let g = c.args.adjacency.now in
    record {
      v_value = seek_row c.requires.0 c.requires.1 _ _ _ c.row_at-place.ensures.1 c.row_at-place.ensures.2 _ column.0 column.1 column.2 column.3
          ∙ ap (λ (q : ℕ). pair_v n cls T g q) picks;
      w_value = seek_column c.requires.0 c.requires.1 _ _ _ c.row_at-place.ensures.1 c.row_at-place.ensures.2 _ column.0 column.1 column.2 column.3
          ∙ ap (λ (q : ℕ). pair_w n cls T g q c.row_at-place.result.at) picks;
    }
