-- Demand 3, over every list of calls (document 01, "Demand 3, over a whole list of calls").
-- Assumes nothing.
use Rattle.std.specs.Prelude.{◌≡◌, true, false, List, ◌↔◌, ◌≢◌, ℕ, ◌+◌, ◌*◌, ◌≤◌, ◌<◌, length}
use Rattle.finite.specs.Range.{sum_to}
use Rattle.graph.specs.Graph.{edges, DegreeTable}
use Rattle.graph.specs.Tests.{most_classes, row_sum, vertices, vertex_class}
use Rattle.graph.specs.Theorems.{Realized}
use Rattle.answer.specs.Numbers.{lay_out_numbers}
use Rattle.answer.specs.Refusals.{refuse}
use Rattle.answer.specs.declared.Cause.TheVariants.{OutputTooShort}
use Rattle.answer.specs.declared.switches.Switches.{Switches}
use Rattle.answer.specs.declared.AddAnswer.TheVariants.{Added}
use Rattle.answer.specs.declared.CompleteAnswer.TheVariants.{Completed, Refused}
use Rattle.answer.specs.declared.Choice.{Choice}
use Rattle.adjacency.specs.Adjacency.{edge}
use Rattle.state.specs.State.{State}
use Rattle.swap_log.specs.Log.{empty_log}
use Rattle.loan.specs.Loan.{Loan, cleared_loan}
use Rattle.loan.specs.Valid.{loan_lengths_ok, loan_valid}
use Rattle.lay_out.specs.LayOut.{lay_out_answer}
use Rattle.add_edge.specs.Add.{add_answer, add_after}
use Rattle.join_records.specs.Record.{join_record_size}
use Rattle.completion.specs.Complete.{log_after}
use Rattle.shuffled_completion.specs.Outcome.{choice_answer, choice_after}
use Rattle.demands.specs.Calls.{Call, after_all}
use Rattle.demands.specs.Matrix.{ShortFor, HasTable}
use Rattle.demands.specs.Tally.{Tally, no_tally, missing_edges, tally_all}

-- laying out is refused for want of a graph: with 9, 10 or 11
abbrev pub RefusedForWantOfAGraph : State → Type 0
RefusedForWantOfAGraph s =
    (9 ≤ (lay_out_numbers (lay_out_answer s)).number)
    × ((lay_out_numbers (lay_out_answer s)).number ≤ 11)

-- the edges of the matrix on the vertices of the table t
abbrev pub edges_laid : DegreeTable → State → ℕ
edges_laid t s = edges (vertices t) (edge s.adjacency)

-- two different vertices below N, not linked, whose cell is short
pub record OpenPair (t : DegreeTable) (s : State) (v w : ℕ) : Type 0 where
  pub first : v < vertices t
  pub second : w < vertices t
  pub different : v ≢ w
  pub unlinked : edge s.adjacency v w ≢ 1
  pub short : ShortFor t s (vertex_class t v) (vertex_class t w)

-- joining v and w is not refused; afterwards state and log have their lengths and are valid ("the bench is sound"), the pair is linked, there is exactly
-- one edge more, and the log is empty
pub record CanBeJoined (t : DegreeTable) (s : Loan) (v w : ℕ) : Type 0 where
  pub switches : Switches
  pub answer : add_answer s v w ≡ Added switches
  pub lengths : loan_lengths_ok (add_after s v w) ≡ true
  pub is_valid : loan_valid (add_after s v w) ≡ true
  pub linked : edge (add_after s v w).state.adjacency v w ≡ 1
  pub one_more : edges_laid t (add_after s v w).state ≡ edges_laid t s.state + 1
  pub no_log : (add_after s v w).log ≡ empty_log

-- Completing into the output is not refused; its joins and the tally's edges together are half the sum of all cells of T; the matrix then holds
-- exactly that many edges more and, as a simple graph, has T in every cell and as many vertices without an edge as the tally's isolated ones. Its first join empties the log.
pub record Completes (t : Tally) (s : Loan) (f : Choice) (out : List ℕ) : Type 0 where
  pub joins : ℕ
  pub switches : ℕ
  pub answer : choice_answer f s (length out) ≡ Completed joins switches (join_record_size * joins)
  pub missing : 2 * (t.edges + joins) ≡ sum_to most_classes (row_sum t.table.cells)
  pub more : edges_laid t.table (choice_after f s (length out)).state ≡ edges_laid t.table s.state + joins
  pub has_table : HasTable t.table (choice_after f s (length out)).state
  pub log-after : (choice_after f s (length out)).log ≡ log_after joins s.log

-- the output has room for a record of each missing edge (document 02, P2: "the mission's finishing is one with that much room")
abbrev pub HasRoom : Tally → List ℕ → Type 0
HasRoom t out = join_record_size * missing_edges t ≤ length out

-- completing into a shorter output is refused with 18, and nothing changes
pub record RefusedShort (s : Loan) (f : Choice) (out : List ℕ) : Type 0 where
  pub answer : choice_answer f s (length out) ≡ Refused (refuse OutputTooShort 0 0)
  pub unchanged : choice_after f s (length out) ≡ s

-- not laid: refused with 9, 10 or 11 if and only if no simple graph of any size has T (isolated vertices hinder no graph)
pub record NotLaid (t : Tally) (s : State) : Type 0 where
  pub honest : RefusedForWantOfAGraph s ↔ (Realized t.table.cells → ⊥)

-- laid: no dead end
pub record Laid (t : Tally) (s : Loan) : Type 0 where
  pub joinable : (v w : ℕ) → OpenPair t.table s.state v w → CanBeJoined t.table s v w × CanBeJoined t.table s w v
  pub pair : (k l : ℕ) → ShortFor t.table s.state k l → (v w : ℕ) × OpenPair t.table s.state v w
  pub completes : (f : Choice) (out : List ℕ) → HasRoom t out → Completes t s f out
  pub refuses : (f : Choice) (out : List ℕ) → (HasRoom t out → ⊥) → RefusedShort s f out

-- after every list of calls from a cleared state
abbrev pub Demand3 : Type 0
Demand3 =
    (calls : List Call) →
    let s = after_all cleared_loan calls in
    let t = tally_all cleared_loan no_tally calls in
    (t.laid ≡ false → NotLaid t s.state) × (t.laid ≡ true → Laid t s)
