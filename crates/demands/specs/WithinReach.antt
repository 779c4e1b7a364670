-- Every replica within reach (document 02, P6): "for every simple graph on the laid boards with the table and the boards' degrees, joining its
-- links onto an empty grid in any order is never refused, makes no switch, and ends in that graph; and .. lifting all links first allows this
-- from every laid bench." With any valid log, which the first of these calls empties. A graph is any function with `Simple`; nothing is computed.
-- Assumes nothing.
use Rattle.std.specs.Prelude.{◌≡◌, true, ◌&&◌, cond, List, [], ◌∷◌, ◌++◌, map, ◌⊎◌, ℕ, ◌+◌, ◌-◌, ◌/◌, ◌%◌, ◌≤◌, ◌<◌, ltb, length}
use Rattle.finite.specs.Range.{cat_to}
use Rattle.graph.specs.Graph.{Graph, Simple, degree, edges, own_jdm, at_edge, DegreeTable}
use Rattle.graph.specs.Tests.{vertices, vertex_class, class_degree}
use Rattle.answer.specs.declared.switches.Switches.TheVariants.{None}
use Rattle.answer.specs.declared.AddAnswer.{AddAnswer}
use Rattle.answer.specs.declared.AddAnswer.TheVariants as Add
use Rattle.answer.specs.declared.RemoveAnswer.TheVariants.{Removed}
use Rattle.answer.specs.declared.CompleteAnswer.TheVariants.{Completed}
use Rattle.answer.specs.declared.Choice.{Choice}
use Rattle.journal.specs.Journal.{table_of}
use Rattle.adjacency.specs.Adjacency.{side, adjacency_size, edge}
use Rattle.state.specs.State.{with_matrix, empty_matrix}
use Rattle.state.specs.Laid.{vertex_count}
use Rattle.swap_log.specs.Log.{empty_log}
use Rattle.loan.specs.Loan.{Loan, cleared_loan}
use Rattle.loan.specs.Valid.{LaidLoan}
use Rattle.edge_lists.specs.EdgeList.{list_of}
use Rattle.add_edge.specs.Add.{add_answer, add_after}
use Rattle.remove_edge.specs.Remove.{remove_answer, remove_after}
use Rattle.shuffled_completion.specs.Outcome.{choice_answer, choice_after}
use Rattle.demands.specs.Calls.{add, remove, Call, changes, after_all}
use Rattle.demands.specs.Tally.{no_tally, missing_edges, tally_all}

-- "every simple graph on the laid boards with the table and the boards' degrees": on the N vertices of the table t, each with the degree laid out
-- for it, and t in every cell by equation (1)
pub record Replica (t : DegreeTable) (H : Graph) : Type 0 where
  pub simple : Simple (vertices t) H
  pub degrees : (v : ℕ) → v < vertices t → degree (vertices t) H v ≡ class_degree (vertex_class t v)
  pub table : (k l : ℕ) → own_jdm (vertices t) H k l ≡ t.cells k l

-- an edge, its ends named in either direction
abbrev pub Pair : Type 0
Pair = ℕ × ℕ

-- how often the pairs name the edge v – w, in one direction or the other
abbrev pub named : List Pair → Graph
named [] v w = 0
named (p ∷ ps) v w = at_edge p.0 p.1 v w + named ps v w

-- "in any order": the pairs name each edge of H once, and nothing else
pub record Order (n : ℕ) (H : Graph) (ps : List Pair) : Type 0 where
  pub once : (v w : ℕ) → v < n → w < n → named ps v w ≡ H v w
  pub no_other : (v w : ℕ) → (n ≤ v) ⊎ (n ≤ w) → named ps v w ≡ 0

-- one order there always is: that of an edge list, read two bytes at a time
abbrev pub pairs_in : List ℕ → List Pair
pairs_in [] = []
pairs_in (v ∷ []) = []
pairs_in (v ∷ w ∷ e) = (v, w) ∷ pairs_in e

abbrev pub ascending : ℕ → Graph → List Pair
ascending n H = pairs_in (list_of n H)

-- "joining its links", "lifting all links": one call a pair
abbrev pub adds : List Pair → List Call
adds = map (λ p. changes (add p.0 p.1))

abbrev pub removes : List Pair → List Call
removes = map (λ p. changes (remove p.0 p.1))

-- "is never refused, makes no switch": added, and the answer has no triples
abbrev pub AddedAlone : AddAnswer → Type 0
AddedAlone (Add.Added switches) = switches ≡ None
AddedAlone (Add.Refused r) = ⊥

-- so is every pair, one after the other
abbrev pub AllAdded : Loan → List Pair → Type 0
AllAdded s [] = Unit {0}
AllAdded s (p ∷ ps) = AddedAlone (add_answer s p.0 p.1) × AllAdded (add_after s p.0 p.1) ps

-- no pair is refused when it is removed, one after the other
abbrev pub AllRemoved : Loan → List Pair → Type 0
AllRemoved s [] = Unit {0}
AllRemoved s (p ∷ ps) = (remove_answer s p.0 p.1 ≡ Removed) × AllRemoved (remove_after s p.0 p.1) ps

-- the matrix that is H, byte for byte: byte v × 200 + w is H's for two of the n vertices, and 0 elsewhere
abbrev pub bytes_of : ℕ → Graph → List ℕ
bytes_of n H =
    let byte : ℕ → ℕ → ℕ = λ v w. cond (ltb v n && ltb w n) (H v w) 0 in
    cat_to adjacency_size (λ i. byte (i / side) (i % side) ∷ [])

-- the log after one call a pair: the first empties it
abbrev pub log_behind : List Pair → List ℕ → List ℕ
log_behind [] l = l
log_behind (p ∷ ps) l = empty_log

-- the loan with the matrix g, after one call a pair
abbrev pub drawn_loan : Loan → List ℕ → List Pair → Loan
drawn_loan s g ps = record { state = with_matrix s.state g; log = log_behind ps s.log }

-- completing makes no join and changes nothing
pub record NothingToComplete (s : Loan) : Type 0 where
  pub no_joins : (f : Choice) (out : List ℕ) → choice_answer f s (length out) ≡ Completed 0 0 0
  pub unchanged : (f : Choice) (out : List ℕ) → choice_after f s (length out) ≡ s

-- adding the pairs is never refused, makes no switch and ends in H; the log is then empty, unless there is no pair
pub record Drawn (s : Loan) (H : Graph) (ps : List Pair) : Type 0 where
  pub added : AllAdded s ps
  pub exactly : after_all s (adds ps) ≡ drawn_loan s (bytes_of (vertex_count s.state) H) ps
  pub complete : NothingToComplete (after_all s (adds ps))

-- removing the pairs first, which is never refused either
pub record Redrawn (s : Loan) (H : Graph) (qs ps : List Pair) : Type 0 where
  pub removed : AllRemoved s qs
  pub drawn : Drawn (after_all s (removes qs)) H ps
  pub exactly : after_all s (removes qs ++ adds ps) ≡ drawn_loan s (bytes_of (vertex_count s.state) H) (qs ++ ps)

-- removing the pairs is never refused and ends in the empty matrix of the same journal
pub record Emptied (s : Loan) (qs : List Pair) : Type 0 where
  pub removed : AllRemoved s qs
  pub empty : after_all s (removes qs) ≡ drawn_loan s empty_matrix qs

-- the edges of E that H does not have
abbrev pub lacking : Graph → Graph → Graph
lacking H E v w = E v w - H v w

pub record EveryReplicaWithinReach : Type 0 where
  -- There always is such a graph: what completing ends in is one.
  pub some : (s : Loan) (f : Choice) (out : List ℕ) (joins switches m : ℕ) →
      choice_answer f s (length out) ≡ Completed joins switches m →
      Replica (table_of s.state.journal) (edge (choice_after f s (length out)).state.adjacency)
  -- An order is as long as the graph has edges.
  pub order_length : (n : ℕ) (H : Graph) → Simple n H → (ps : List Pair) → Order n H ps → length ps ≡ edges n H
  -- 1. from the empty matrix ("an empty grid"), in any order
  pub from_empty : (s : Loan) → LaidLoan s → s.state.adjacency ≡ empty_matrix →
      (H : Graph) → Replica (table_of s.state.journal) H → (ps : List Pair) → Order (vertex_count s.state) H ps → Drawn s H ps
  -- 2. to the empty matrix, in any order; so H is reached from every valid laid state ..
  pub to_empty : (s : Loan) → LaidLoan s → (qs : List Pair) → Order (vertex_count s.state) (edge s.state.adjacency) qs → Emptied s qs
  pub from_anywhere : (s : Loan) → LaidLoan s → (H : Graph) → Replica (table_of s.state.journal) H → (qs ps : List Pair) →
      Order (vertex_count s.state) (edge s.state.adjacency) qs → Order (vertex_count s.state) H ps → Redrawn s H qs ps
  -- .. by these calls: remove the edges as they are listed, then add those of H as they would be
  pub reached : (s : Loan) → LaidLoan s → (H : Graph) → Replica (table_of s.state.journal) H →
      let n = vertex_count s.state in
      let E = edge s.state.adjacency in
      Order n E (ascending n E) × Order n H (ascending n H) × Redrawn s H (ascending n E) (ascending n H)
  -- It is enough to remove what H lacks and to add what the matrix lacks.
  pub differences : (s : Loan) → LaidLoan s → (H : Graph) → Replica (table_of s.state.journal) H → (qs ps : List Pair) →
      let n = vertex_count s.state in
      let E = edge s.state.adjacency in
      Order n (lacking H E) qs → Order n (lacking E H) ps →
      Redrawn s H qs ps
  -- 3. After every list of calls from a cleared state that is laid out: the tally agrees that nothing is missing then.
  pub tallied : (calls : List Call) →
      let s = after_all cleared_loan calls in
      let t = tally_all cleared_loan no_tally calls in
      t.laid ≡ true → (H : Graph) → Replica t.table H → (qs ps : List Pair) →
      Order (vertices t.table) (edge s.state.adjacency) qs → Order (vertices t.table) H ps →
      let list = calls ++ (removes qs ++ adds ps) in
      (missing_edges (tally_all cleared_loan no_tally list) ≡ 0) × NothingToComplete (after_all cleared_loan list)
