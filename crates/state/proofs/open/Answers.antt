-- `state::open` meets its contract.
use mathlib.Core.Path.{sym, ◌∙◌, ap}
use Prim.Native.Nat.{ℕ}
use Rattle.graph.specs.Graph.{DegreeTable}
use Rattle.graph.specs.Tests.{vertices}
use Rattle.answer.proofs.Checks.{not_err-go}
use Rattle.layout.specs.Layout.{layout_verdict}
use Rattle.layout.specs.Inner.Arrays.{classes_of, class_in}
use Rattle.layout.proofs.Verdict.{layout_go}
use Rattle.journal.specs.Journal.{jdm_of, table_of}
use Rattle.adjacency.specs.Adjacency.{adjacency_ok}
use Rattle.adjacency.specs.Inner.Degrees.{degrees_of}
use Rattle.adjacency.proofs.Classes.{adjacency_ok-table, class_below, class_rises}
use Rattle.state.proofs.Laid.{laid-go}
use Rattle.state.proofs.open.Goals as goal

pub adjacency_ok-requires : goal.adjacency_ok-requires
adjacency_ok-requires c =
    let j = c.args.journal.now in
    let said = c.sum_table.ensures.0 in
    let go = layout_go (table_of j) (ap layout_verdict (sym said) ∙ sym c.layout_check.ensures ∙ not_err-go _ (sym c.is_err.ensures.value ∙ c.if-is_err.false)) in
    let en = c.vertex_count-n.ensures ∙ ap vertices said in
    let ec = c.classes-c.ensures ∙ ap classes_of said in (
      c.requires.adjacency_length,
      rw en go.1,
      class_below (table_of j) go.1 en ec,
      class_rises (table_of j) go.1 en ec,
      c.requires.no_degrees,
    )

pub returns : goal.returns
returns c =
    let a = c.args in
    let j = a.journal.now in
    let g = a.adjacency.now in
    let said = c.sum_table.ensures in
    let e = ap layout_verdict (sym said.0) ∙ sym c.layout_check.ensures ∙ not_err-go _ (sym c.is_err.ensures.value ∙ c.if-is_err.false) in
    let en = c.vertex_count-n.ensures ∙ ap vertices said.0 in
    record {
      value = c.adjacency_ok.ensures.value
          ∙ ap (λ (u : DegreeTable). adjacency_ok c.vertex_count-n.result (class_in c.classes-c.result) u.cells g) said.0
          ∙ adjacency_ok-table (table_of j) (layout_go (table_of j) e).1 en (c.classes-c.ensures ∙ ap classes_of said.0) (jdm_of j) g
          ∙ sym (laid-go (table_of j) g e);
      opened = λ h. record {
        said = said.0;
        most = said.1;
        counted = said.2;
        degrees_right = c.adjacency_ok.ensures.degrees_after h ∙ ap (λ (n : ℕ). degrees_of n g) en;
      };
    }
