-- The degree table of an edge list on a total of vertices, as records (document 01: survey; document 02, P1, gives it the total).
-- Assumes nothing.
use Rattle.std.specs.Prelude.{List, ℕ, eqb, length}
use Rattle.std.proofs.lemmas.List.Edits.{sets}
use Rattle.graph.specs.Graph.{own_table}
use Rattle.answer.specs.Refusals.{refuse, unless, unless_too_short, unless_stopped}
use Rattle.answer.specs.declared.Cause.TheVariants.{DegreeTooHigh}
use Rattle.answer.specs.declared.WrittenAnswer.{WrittenAnswer}
use Rattle.answer.specs.declared.WrittenAnswer.TheVariants.{Written, Refused}
use Rattle.edge_lists.specs.EdgeList.{list_verdict, graph_of}
use Rattle.table_records.specs.Records.{records_of}
use Rattle.degree_counts.specs.Above.{first_above}

-- the table of the graph with these edges on this total of vertices, by equation (1) at its own degrees
abbrev pub survey_records : List ℕ → ℕ → List ℕ
survey_records e total = records_of (own_table total (graph_of e))

-- of a list that passes the checks 19, for an output of n bytes: the checks 20 and 18
abbrev pub survey_listed : List ℕ → ℕ → ℕ → WrittenAnswer
survey_listed e total n =
    unless (eqb (first_above e total) total) (Refused (refuse DegreeTooHigh (first_above e total) 0))
    (unless_too_short (length (survey_records e total)) n Refused (Written (length (survey_records e total))))

-- the checks 19, then 20, then 18
abbrev pub survey_answer : List ℕ → ℕ → ℕ → WrittenAnswer
survey_answer e total n = unless_stopped (list_verdict e total) Refused (survey_listed e total n)

-- the output afterwards: the records, and behind them what was there
abbrev pub survey_output : WrittenAnswer → List ℕ → ℕ → List ℕ → List ℕ
survey_output (Written n) e total out = sets out 0 (survey_records e total)
survey_output (Refused r) e total out = out
