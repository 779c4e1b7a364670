-- Listing the edges (document 01: list): 2 bytes an edge, v then w, v < w, ascending by v then w.
-- Assumes nothing.
use Rattle.std.specs.Prelude.{List, ℕ, length}
use Rattle.std.proofs.lemmas.List.Edits.{sets}
use Rattle.answer.specs.Refusals.{unless_too_short, unless_stopped}
use Rattle.answer.specs.declared.WrittenAnswer.{WrittenAnswer}
use Rattle.answer.specs.declared.WrittenAnswer.TheVariants.{Written, Refused}
use Rattle.journal.specs.Journal.{phase_laid}
use Rattle.adjacency.specs.Adjacency.{edge}
use Rattle.state.specs.State.{State}
use Rattle.state.specs.Checks.{phase_verdict}
use Rattle.state.specs.Laid.{vertex_count}
use Rattle.edge_lists.specs.EdgeList.{list_of}

-- the edge list of the first n vertices
abbrev pub list_bytes : ℕ → List ℕ → List ℕ
list_bytes n g = list_of n (edge g)

-- on a valid laid state, for an output of m bytes: the check 18
abbrev pub list_laid : State → ℕ → WrittenAnswer
list_laid s m =
    unless_too_short (length (list_bytes (vertex_count s) s.adjacency)) m Refused
    (Written (length (list_bytes (vertex_count s) s.adjacency)))

-- the checks 1, 2, 3, then 18
abbrev pub list_answer : State → ℕ → WrittenAnswer
list_answer s m = unless_stopped (phase_verdict phase_laid s) Refused (list_laid s m)

-- the output afterwards: the list, and behind it what was there
abbrev pub output_listed : WrittenAnswer → State → List ℕ → List ℕ
output_listed (Written n) s out = sets out 0 (list_bytes (vertex_count s) s.adjacency)
output_listed (Refused r) s out = out

abbrev pub list_output : State → List ℕ → List ℕ
list_output s out = output_listed (list_answer s (length out)) s out
