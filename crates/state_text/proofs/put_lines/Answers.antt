-- `state_text::put_lines` meets its contract.
use mathlib.Core.Path.{◌∙◌}
use Prim.Native.Nat.{◌/◌}
use native.Mathlib.Nat.{zero-add}
use native.Mathlib.Omega.{arith}
use lib.ListN.{length, length-append}
use Rattle.text.specs.Text.{head_line, edge_lines}
use Rattle.text.proofs.Decimal.{head_length}
use Rattle.text.proofs.Written.{fits_next, written_next}
use Rattle.state_text.proofs.put_lines.Goals as goal

pub put_edges-requires : goal.put_edges-requires
put_edges-requires c =
    let a = c.args in
    let e = a.edges.now in
    let x = head_line a.n (length e / 2) a.switches in
    fits_next a.output.now 0 x (edge_lines e) _ _ (c.put_head-at.ensures.value, c.put_head-at.ensures.out_after)
    (omega (arith, c.requires, head_length a.n (length e / 2) a.switches, length-append x (edge_lines e)))

pub returns : goal.returns
returns c =
    let a = c.args in
    let e = a.edges.now in
    let w = written_next a.output.now 0 (head_line a.n (length e / 2) a.switches) (edge_lines e)
    _ _ (c.put_head-at.ensures.value, c.put_head-at.ensures.out_after) _ _ (c.put_edges.ensures.value, c.put_edges.ensures.out_after) in
    record { value = w.0 ∙ zero-add _; output_after = w.1 }
