-- The text has room: no layout has more than 4,000 edges, so that neither its list nor its lines are longer than the arrays that hold them.
-- Assumes nothing.
use mathlib.Core.Path.{◌≡◌, sym, ap, ◌∙◌}
use mathlib.Core.List.{List}
use Prim.Native.Nat.{ℕ, ◌+◌, ◌*◌, ◌/◌, ◌≤◌, ◌<◌}
use native.Mathlib.Omega.{arith}
use lib.ListN.{length, get_or, take, length-append}
use lib.Seq.{sets, length-sets}
use borrow.Author.Tests.{le-leb}
use Rattle.answer.specs.declared.Refusal.{Refusal}
use Rattle.answer.specs.Refusals.{Go}
use Rattle.answer.specs.declared.WrittenAnswer.{WrittenAnswer}
use Rattle.answer.specs.declared.WrittenAnswer.TheVariants.{Written, Refused as WriteRefused}
use Rattle.answer.proofs.Checks.{refused-not_written, written-length}
use Rattle.slices.proofs.Part.{take-sets}
use Rattle.journal.specs.Journal.{jdm_of}
use Rattle.state.specs.State.{State}
use Rattle.state.specs.Valid.{ValidLaid}
use Rattle.state.specs.Laid.{vertex_count, class_at}
use Rattle.state.proofs.Facts.{edge_total, StateFacts, Laid, valid-facts}
use Rattle.state.proofs.Checks.{laid-goes}
use Rattle.adjacency.specs.Adjacency.{edge}
use Rattle.edge_list.specs.List.{list_answer, output_listed, list_output}
use Rattle.edge_lists.specs.EdgeList.{list_verdict, graph_of}
use Rattle.edge_lists.proofs.List.{verdict_passed, list-simple}
use Rattle.edge_lists.proofs.Listing.{list_length}
use Rattle.edge_lists.proofs.Listed.{list-rising, list-passed}
use Rattle.graph6.specs.Format.{body_most}
use Rattle.graph6.proofs.Text.{text-most}
use Rattle.graph6_write.specs.Write.{write_text}
use Rattle.completion.specs.Complete.{most_edges}
use Rattle.completion.proofs.Cellwise.{room}
use Rattle.completion.proofs.Works.{few_edges}
use Rattle.text.specs.Text.{newline, refused_line, edge_lines, head_line, head_most, edge_most}
use Rattle.text.proofs.Decimal.{refused-length, head_length, edges-length}
use Rattle.options.specs.declared.Form.{Form}
use Rattle.options.specs.declared.Form.TheVariants.{Lines, Graph6}
use Rattle.state_text.specs.StateText.{state_list, state_text, text_most}

-- the graph6 text of a list that passes the checks 19
pub text_fits_room : (e : List ℕ) (n : ℕ) → list_verdict e n ≡ Go → length (write_text e n) ≤ 4 + body_most
text_fits_room e n go =
    let p = verdict_passed e n go in
    text-most n (graph_of e) p.few (list-simple e n p.well)

module _ (s : State) (checked : ValidLaid s) where
  facts : StateFacts s
  facts = valid-facts s checked.lengths checked.is_valid

  laid : Laid s
  laid = facts.laid checked.phased

  edges_most : edge_total s ≤ most_edges
  edges_most =
      room (vertex_count s) (class_at s) (jdm_of s.journal) most_edges (few_edges (vertex_count s) (class_at s) (jdm_of s.journal) laid.target laid.vertices-le) s.adjacency
      (record { sized = facts.adjacency_length; few = laid.vertices-le; target = laid.target; partial = laid.partial })

  list-twice : length (state_list s) ≡ 2 * edge_total s
  list-twice = list_length (vertex_count s) (edge s.adjacency) laid.partial.simple

  list-most : length (state_list s) ≤ 2 * most_edges
  list-most = omega (arith, list-twice, edges_most)

  -- what listing into an output with room for 4,000 edges answers and leaves
  module _ (empty : List ℕ) (r : WrittenAnswer) (out : List ℕ) (e : (r ≡ list_answer s (length empty)) × (out ≡ list_output s empty))
      (wide : 2 * most_edges ≤ length empty) where
    fits : length (state_list s) ≤ length empty
    fits = omega (arith, wide, list-most)

    answer-written : list_answer s (length empty) ≡ Written (length (state_list s))
    answer-written = rw (laid-goes s checked, le-leb (length (state_list s)) (length empty) fits)

    pub never_refused : (q : Refusal) → r ≡ WriteRefused q → ⊥
    never_refused q h = refused-not_written q (length (state_list s)) (sym h ∙ e.0 ∙ answer-written)

    pub listed : (len : ℕ) → r ≡ Written len → (take len out ≡ state_list s) × (len ≤ length out)
    listed len h =
        (rw (same, written) (take-sets empty (state_list s) fits), rw (written, length-sets) (omega (arith, same, fits)))
      where
        same : len ≡ length (state_list s)
        same = written-length (length (state_list s)) len (sym answer-written ∙ sym e.0 ∙ h)

        written : out ≡ sets empty 0 (state_list s)
        written = e.1 ∙ ap (λ (a : WrittenAnswer). output_listed a s empty) answer-written

  lines-most : length (edge_lines (state_list s)) ≤ edge_most * most_edges
  lines-most =
      omega (arith, list-twice, edges_most, edges-length (state_list s) small)
    where
      small : (i : ℕ) → i < length (state_list s) / 2
          → (get_or (state_list s) (2 * i) 0 < 1000) × (get_or (state_list s) (2 * i + 1) 0 < 1000)
      small i l =
          let r = list-rising (vertex_count s) (edge s.adjacency) laid.vertices-le in
          (omega (arith, r.ordered i l, r.vertex i l, laid.vertices-le), omega (arith, r.vertex i l, laid.vertices-le))

  pub lines_fit : head_most + length (edge_lines (state_list s)) ≤ text_most
  lines_fit = omega (arith, lines-most)

  -- the list passes the checks 19
  pub passes : list_verdict (state_list s) (vertex_count s) ≡ Go
  passes = list-passed (vertex_count s) (edge s.adjacency) laid.vertices-le

  pub state_fits : (form : Form) (n switches : ℕ) → n ≡ vertex_count s → length (state_text form n switches s) ≤ text_most
  state_fits Lines n switches count =
      let e = state_list s in
      omega (arith, lines_fit, length-append (head_line n (length e / 2) switches) (edge_lines e), head_length n (length e / 2) switches)
  state_fits Graph6 n switches count =
      let e = state_list s in
      rw count (omega (arith, length-append (write_text e (vertex_count s)) newline, text_fits_room e (vertex_count s) passes))

pub refused-fits : (r : Refusal) → length (refused_line r) ≤ text_most
refused-fits r = omega (arith, refused-length r)
