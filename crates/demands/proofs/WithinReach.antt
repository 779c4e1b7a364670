-- Every replica within reach (specs/WithinReach.antt), from what lists of calls do to a matrix (proofs/Drawing.antt) and what the tally counts
-- (proofs/Demand3.antt).
-- Assumes nothing.
use mathlib.Core.Path.{◌≡◌, sym, ap, subst, ◌∙◌}
use mathlib.Core.Bool.{true}
use mathlib.Core.List.{List, ◌++◌}
use Prim.Native.Nat.{ℕ, ◌+◌, ◌*◌, ◌≤◌}
use native.Mathlib.Omega.{arith}
use lib.ListN.{length, replicate, length-replicate}
use Rattle.graph.specs.Graph.{Graph, DegreeTable}
use Rattle.graph.specs.Tests.{vertices}
use Rattle.answer.specs.declared.CompleteAnswer.TheVariants.{Completed}
use Rattle.answer.specs.declared.Choice.{Choice}
use Rattle.answer.specs.declared.Choice.TheVariants.{Lowest}
use Rattle.journal.specs.Journal.{phase, table_of}
use Rattle.adjacency.specs.Adjacency.{edge}
use Rattle.state.specs.Laid.{vertex_count}
use Rattle.join_records.specs.Record.{join_record_size}
use Rattle.completion.proofs.Entry.{completed-facts}
use Rattle.shuffled_completion.specs.Outcome.{outcome, choice_answer, choice_after}
use Rattle.shuffled_completion.proofs.Works.{outcome-works}
use Rattle.state.specs.State.{empty_matrix}
use Rattle.loan.specs.Loan.{Loan, cleared_loan}
use Rattle.loan.specs.Valid.{LaidLoan}
use Rattle.loan.proofs.Laid.{laid-state}
use Rattle.demands.specs.Calls.{Call, after_all}
use Rattle.demands.specs.Tally.{no_tally, missing_edges, tally_all}
use Rattle.demands.specs.Demand3.{Completes}
use Rattle.demands.specs.WithinReach.{Replica, Pair, Order, ascending, adds, removes, NothingToComplete, Drawn, Redrawn, lacking, EveryReplicaWithinReach}
use Rattle.demands.proofs.Choices.{after-choice}
use Rattle.demands.specs.Reach.{Reach}
use Rattle.demands.proofs.Reach.{reach, laid-tally, reached_laid, after-append}
use Rattle.demands.proofs.Demand3.{demand_3}
use Rattle.demands.proofs.Orders.{order_length}
use Rattle.demands.proofs.Ascending.{ascending-order}
use Rattle.demands.proofs.Bytes.{empty-edge}
use Rattle.demands.proofs.Drawing.{laid, drawn, redrawn, emptied}

-- what completing ends in
some : (s : Loan) (f : Choice) (out : List ℕ) (joins switches m : ℕ)
    → choice_answer f s (length out) ≡ Completed joins switches m
    → Replica (table_of s.state.journal) (edge (choice_after f s (length out)).state.adjacency)
some s f out joins switches m e =
    let x = outcome-works f s.state (laid-state s (completed-facts s (outcome f s.state) (length out) joins switches m e).loan) in
    subst (λ (b : Loan). Replica (table_of s.state.journal) (edge b.state.adjacency)) (sym (after-choice s f out joins switches m e))
    (record { simple = x.simple; degrees = x.degrees_exact; table = x.table })

-- the statement's hypotheses, on any valid laid state with any valid log
module _ (s : Loan) (v : LaidLoan s) (H : Graph) (drawing : Replica (table_of s.state.journal) H) where
  abbrev E : Graph
  E = edge s.state.adjacency

  abbrev n : ℕ
  n = vertex_count s.state

  from_empty : s.state.adjacency ≡ empty_matrix → (ps : List Pair) → Order n H ps → Drawn s H ps
  from_empty e ps o =
      drawn s.state.journal H drawing ps s.state.adjacency s.log v
      (λ x y l m. omega (arith, ap (λ (g : List ℕ). edge g x y) e, empty-edge x y, o.once x y l m)) o.no_other

  -- the edges of A removed and those of B added
  redraw : (A B : Graph) → ((x y : ℕ) → A x y ≤ E x y) → ((x y : ℕ) → E x y + B x y ≡ H x y + A x y) → (qs ps : List Pair)
      → Order n A qs → Order n B ps → Redrawn s H qs ps
  redraw A B h e qs ps o q =
      redrawn s.state.journal H drawing qs ps s.state.adjacency s.log v (λ x y l m. omega (arith, o.once x y l m, h x y)) o.no_other
      (λ x y l m. omega (arith, o.once x y l m, q.once x y l m, e x y)) q.no_other

  from_anywhere : (qs ps : List Pair) → Order n E qs → Order n H ps → Redrawn s H qs ps
  from_anywhere = redraw E H (λ x y. omega arith) (λ x y. omega arith)

  differences : (qs ps : List Pair) → Order n (lacking H E) qs → Order n (lacking E H) ps → Redrawn s H qs ps
  differences = redraw (lacking H E) (lacking E H) (λ x y. omega arith) (λ x y. omega arith)

  reached : Order n E (ascending n E) × Order n H (ascending n H) × Redrawn s H (ascending n E) (ascending n H)
  reached =
      let l = laid s.state.journal s.state.adjacency s.log v in
      let a = ascending-order n E l.vertices-le l.partial.simple in
      let b = ascending-order n H l.vertices-le drawing.simple in
      (a, b, from_anywhere (ascending n E) (ascending n H) a b)

-- Where completing a laid state has nothing to do, the tally misses nothing: demand 3 says that its joins are those missing.
none_missing : (calls : List Call) → (tally_all cleared_loan no_tally calls).laid ≡ true → NothingToComplete (after_all cleared_loan calls)
    → missing_edges (tally_all cleared_loan no_tally calls) ≡ 0
none_missing calls e d = go (((demand_3 calls).1 e).completes Lowest out (omega (arith, length-replicate {A = ℕ} room 0)))
  where
    room : ℕ
    room = join_record_size * missing_edges (tally_all cleared_loan no_tally calls)

    out : List ℕ
    out = replicate (join_record_size * missing_edges (tally_all cleared_loan no_tally calls)) 0

    go : Completes (tally_all cleared_loan no_tally calls) (after_all cleared_loan calls) Lowest out
        → missing_edges (tally_all cleared_loan no_tally calls) ≡ 0
    go c =
        let none : c.joins ≡ 0 = cc (c.answer, d.no_joins Lowest out) in
        omega (arith, none, c.missing)

-- after every list of calls
module _ (calls : List Call) (e : (tally_all cleared_loan no_tally calls).laid ≡ true) (H : Graph) (drawing : Replica (tally_all cleared_loan no_tally calls).table H)
    (qs ps : List Pair) (o : Order (vertices (tally_all cleared_loan no_tally calls).table) (edge (after_all cleared_loan calls).state.adjacency) qs)
    (q : Order (vertices (tally_all cleared_loan no_tally calls).table) H ps) where
  abbrev s : Loan
  s = after_all cleared_loan calls

  r : Reach (after_all cleared_loan calls) (tally_all cleared_loan no_tally calls)
  r = reach calls

  laid-loan : LaidLoan (after_all cleared_loan calls)
  laid-loan = reached_laid (after_all cleared_loan calls) (tally_all cleared_loan no_tally calls) r e

  again : Redrawn (after_all cleared_loan calls) H qs ps
  again =
      let t = sym r.table in
      from_anywhere s laid-loan H (subst (λ (t : DegreeTable). Replica t H) t drawing) qs ps
      (subst (λ (t : DegreeTable). Order (vertices t) (edge s.state.adjacency) qs) t o) (subst (λ (t : DegreeTable). Order (vertices t) H ps) t q)

  whole : after_all cleared_loan (calls ++ (removes qs ++ adds ps)) ≡ after_all (after_all s (removes qs)) (adds ps)
  whole = after-append calls (removes qs ++ adds ps) cleared_loan ∙ after-append (removes qs) (adds ps) s

  none_left : NothingToComplete (after_all cleared_loan (calls ++ (removes qs ++ adds ps)))
  none_left = subst NothingToComplete (sym whole) again.drawn.complete

  still-laid : (tally_all cleared_loan no_tally (calls ++ (removes qs ++ adds ps))).laid ≡ true
  still-laid =
      laid-tally _ _ (reach (calls ++ (removes qs ++ adds ps)))
      (ap (λ (x : Loan). phase x.state.journal) (after-append calls (removes qs ++ adds ps) cleared_loan ∙ again.exactly) ∙ laid-loan.phased)

  tallied : (missing_edges (tally_all cleared_loan no_tally (calls ++ (removes qs ++ adds ps))) ≡ 0) × NothingToComplete (after_all cleared_loan (calls ++ (removes qs ++ adds ps)))
  tallied = (none_missing (calls ++ (removes qs ++ adds ps)) still-laid none_left, none_left)

pub every_replica_within_reach : EveryReplicaWithinReach
every_replica_within_reach =
    record {
      some = some;
      order_length = order_length;
      from_empty = λ s v e H d. from_empty s v H d e;
      to_empty = λ s v qs. emptied s.state.journal qs s.state.adjacency s.log v;
      from_anywhere = from_anywhere;
      reached = reached;
      differences = differences;
      tallied = tallied;
    }
