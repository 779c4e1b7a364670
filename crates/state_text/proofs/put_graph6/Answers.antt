-- `state_text::put_graph6` meets its contract: there is room for every text.
use native.Mathlib.Omega.{arith}
use mathlib.Core.Path.{◌∙◌}
use Rattle.state_text.proofs.OneLine.{never_refused, len_small, line_length, line_written}
use Rattle.state_text.proofs.put_graph6.Goals as goal

pub overflow_add-result : goal.overflow_add-result
overflow_add-result c =
    let a = c.args in
    let w = c.graph6_write-answer in
    omega (arith, len_small a.edges.now a.n a.output.now c.requires.0 c.requires.1 _ _ (w.ensures.value, w.ensures.output_after) _ c.in-Written.is)

pub returns-in-Refused : goal.returns-in-Refused
returns-in-Refused c =
    let a = c.args in
    let w = c.graph6_write-answer in
    absurd (never_refused a.edges.now a.n a.output.now c.requires.0 c.requires.1 _ _ (w.ensures.value, w.ensures.output_after) _ c.in-Refused.is)

pub returns-in-Written : goal.returns-in-Written
returns-in-Written c =
    let a = c.args in
    let w = c.graph6_write-answer in
    record {
      value = line_length a.edges.now a.n a.output.now c.requires.0 c.requires.1 _ _ (w.ensures.value, w.ensures.output_after) _ c.in-Written.is;
      output_after = c.put.ensures ∙ line_written a.edges.now a.n a.output.now c.requires.0 c.requires.1 _ _ (w.ensures.value, w.ensures.output_after) _ c.in-Written.is;
    }
