-- Writing an edge list and its total of vertices as graph6 (document 02, P5).
-- Assumes nothing.
use Rattle.std.specs.Prelude.{List, ℕ, length}
use Rattle.std.proofs.lemmas.List.Edits.{sets}
use Rattle.answer.specs.Refusals.{unless_too_short, unless_stopped}
use Rattle.answer.specs.declared.WrittenAnswer.{WrittenAnswer}
use Rattle.answer.specs.declared.WrittenAnswer.TheVariants.{Written, Refused}
use Rattle.edge_lists.specs.EdgeList.{list_verdict, graph_of}
use Rattle.graph6.specs.Format.{graph6_text}

-- the text of the graph with these edges on this total of vertices
abbrev pub write_text : List ℕ → ℕ → List ℕ
write_text e total = graph6_text total (graph_of e)

-- of a list that passes the checks 19, for an output of n bytes: the check 18
abbrev pub write_listed : List ℕ → ℕ → ℕ → WrittenAnswer
write_listed e total n =
    unless_too_short (length (write_text e total)) n Refused (Written (length (write_text e total)))

-- the checks 19, as a survey makes them, then 18; degrees over 40 are written
abbrev pub write_answer : List ℕ → ℕ → ℕ → WrittenAnswer
write_answer e total n = unless_stopped (list_verdict e total) Refused (write_listed e total n)

-- the output afterwards: the text, and behind it what was there
abbrev pub write_output : WrittenAnswer → List ℕ → ℕ → List ℕ → List ℕ
write_output (Written n) e total out = sets out 0 (write_text e total)
write_output (Refused r) e total out = out
