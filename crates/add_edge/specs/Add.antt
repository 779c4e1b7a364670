-- Adding an edge (document 01: join).
-- Assumes nothing.
use Rattle.std.specs.Prelude.{List, ℕ, min, max, eqb}
use Rattle.answer.specs.Refusals.{refuse, unless, unless_stopped}
use Rattle.answer.specs.declared.Cause.TheVariants.{EdgePresent, CellNotShort}
use Rattle.answer.specs.declared.AddAnswer.{AddAnswer}
use Rattle.answer.specs.declared.AddAnswer.TheVariants.{Added, Refused}
use Rattle.graph.specs.Graph.{DegreeTable}
use Rattle.graph.specs.Target.{is_short}
use Rattle.graph.specs.Tests.{vertices, vertex_class}
use Rattle.journal.specs.Journal.{table_of}
use Rattle.adjacency.specs.Adjacency.{edge}
use Rattle.state.specs.State.{State}
use Rattle.state.specs.Checks.{pair_verdict}
use Rattle.state.specs.Laid.{vertex_count, class_at}
use Rattle.loan.specs.Loan.{Loan, altered}
use Rattle.loan.specs.Checks.{laid_verdict}
use Rattle.join_bytes.specs.Join.{join_bytes, join_switches}

-- on two different vertices that the matrix g of the table t does not link: the check 16, whose places are their classes, the lower first
abbrev pub add_unlinked : DegreeTable → List ℕ → ℕ → ℕ → AddAnswer
add_unlinked t g v w =
    let k = vertex_class t v in
    let l = vertex_class t w in
    unless (is_short (vertices t) (vertex_class t) t.cells (edge g) k l) (Refused (refuse CellNotShort (min k l) (max k l)))
    (Added (join_switches (vertices t) (vertex_class t) g v w))

-- on two different vertices of a valid laid state: the checks 15, 16
abbrev pub add_pair : State → ℕ → ℕ → AddAnswer
add_pair s v w =
    unless (eqb (edge s.adjacency v w) 0) (Refused (refuse EdgePresent 0 0))
    (add_unlinked (table_of s.journal) s.adjacency v w)

-- on a valid laid state: the checks 13, 14, then these
abbrev pub add_laid : State → ℕ → ℕ → AddAnswer
add_laid s v w = unless_stopped (pair_verdict (vertex_count s) v w) Refused (add_pair s v w)

-- the checks 1, 2, 3 before them
abbrev pub add_answer : Loan → ℕ → ℕ → AddAnswer
add_answer b v w = unless_stopped (laid_verdict b) Refused (add_laid b.state v w)

-- what was lent, afterwards: the vertices are joined, and the log is empty
abbrev pub after_add : AddAnswer → Loan → ℕ → ℕ → Loan
after_add (Added switches) b v w = altered b (join_bytes (vertex_count b.state) (class_at b.state) b.state.adjacency v w)
after_add (Refused r) b v w = b

abbrev pub add_after : Loan → ℕ → ℕ → Loan
add_after b v w = after_add (add_answer b v w) b v w
