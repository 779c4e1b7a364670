-- The edge list of a valid laid state, surveyed with its N: it is not refused for what it holds, and its records are the table of the state's
-- graph, by equation (1) at its own degrees and with its isolated vertices.
-- Assumes nothing.
use Rattle.std.specs.Prelude.{◌≡◌, ℕ, ◌≤◌, length}
use Rattle.answer.specs.declared.WrittenAnswer.TheVariants.{Written}
use Rattle.graph.specs.Graph.{own_table}
use Rattle.adjacency.specs.Adjacency.{edge}
use Rattle.state.specs.State.{State}
use Rattle.state.specs.Valid.{ValidLaid}
use Rattle.state.specs.Laid.{vertex_count}
use Rattle.edge_list.specs.List.{list_bytes}
use Rattle.table_records.specs.Records.{records_of}
use Rattle.jdm_of_edges.specs.Survey.{survey_records, survey_answer}

abbrev pub ListSurveyed : Type 0
ListSurveyed =
    (s : State) → ValidLaid s →
    let n = vertex_count s in
    let e = list_bytes n s.adjacency in
    (survey_records e n ≡ records_of (own_table n (edge s.adjacency)))
    × ((m : ℕ) → length (survey_records e n) ≤ m → survey_answer e n m ≡ Written (length (survey_records e n)))
