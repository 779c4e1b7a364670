-- `cell_filling::pair::open_pair` meets its contract: what is left to search has the answer of the whole.
use mathlib.Core.Path.{◌≡◌, sym, ◌∙◌}
use native.Mathlib.Omega.{arith}
use borrow.Author.Tests.{lt-ltb, le-ltb}
use Rattle.finite.proofs.Lowest.{lowest-end, lowest-here, lowest-next}
use Rattle.cell_filling.proofs.Search.{column_resumed}
use Rattle.cell_filling.proofs.pair.open_pair.Goals as goal

pub returns-then-column-end : goal.returns-then-column-end
returns-then-column-end c =
    let column = column_resumed c.loop-row.invariant.0 c.loop-row-test.true _ _ _
    c.first_column.ensures c.max-first.ensures c.free_column-column.ensures in
    (sym (c.loop-row.invariant.1 ∙ lowest-here _ _ _ (omega arith) (rw (← column) (lt-ltb _ _ c.if-column-end.true))), λ h. column)

pub loop-row-preserved : goal.loop-row-preserved
loop-row-preserved c =
    let s = c.loop-row.invariant.0 in
    let column = column_resumed c.loop-row.invariant.0 c.loop-row-test.true _ _ _
    c.first_column.ensures c.max-first.ensures c.free_column-column.ensures in (
      record {
        rows = s.rows;
        columns = s.columns;
        row = omega arith;
        column = omega arith;
        first = λ u a. s.first u (omega arith);
        done = λ x a b. absurd (omega arith);
      },
      c.loop-row.invariant.1 ∙ lowest-next _ _ _ (omega arith) (rw (← column) (le-ltb _ _ c.if-column-end.false)),
    )

pub returns : goal.returns
returns c =
    let e : c.loop-row.row ≡ c.args.cell.rows.to = omega arith in
    (sym (c.loop-row.invariant.1 ∙ lowest-end _ _ _ c.loop-row-test.false ∙ e), λ h. absurd (omega arith))
