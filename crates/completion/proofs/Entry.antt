-- Completing, on the definitions: from every valid laid state, into an output with room for the missing joins' records, it is not refused, makes
-- exactly the joins that are missing, writes a record of each, leaves the state valid, and the matrix then holds a simple graph with the summed table;
-- into a shorter output it is refused.
-- Assumes nothing.
use mathlib.Core.Path.{◌≡◌, sym, subst}
use mathlib.Core.List.{List}
use Prim.Native.Nat.{ℕ, ◌+◌, ◌*◌, ◌≤◌, ◌<◌}
use native.Mathlib.Omega.{arith}
use lib.Dec.{leb}
use lib.ListN.{length}
use borrow.Author.Tests.{leb-true, le-leb, lt-leb}
use Rattle.answer.specs.Refusals.{refuse}
use Rattle.answer.specs.declared.Cause.TheVariants.{OutputTooShort}
use Rattle.answer.specs.declared.Refusal.{Refusal}
use Rattle.answer.specs.declared.CompleteAnswer.{CompleteAnswer}
use Rattle.answer.specs.declared.CompleteAnswer.TheVariants.{Completed, Refused}
use Rattle.answer.proofs.Checks.{unless_passed, unless_stopped_passed}
use Rattle.finite.specs.Range.{sum_to}
use Rattle.graph.specs.Graph.{Simple, degree, own_jdm, isolated}
use Rattle.graph.specs.Tests.{most_classes, row_sum, Table, class_degree, Passed}
use Rattle.graph.proofs.Complete.{complete-is_exact}
use Rattle.graph.proofs.Passes.{passes-passed}
use Rattle.graph.proofs.Realizability.{has_table, has_isolated}
use Rattle.journal.specs.Journal.{jdm_of, isolated_of, table_of}
use Rattle.journal.proofs.Table.{jdm-table}
use Rattle.adjacency.specs.Clauses.{ZeroOutside}
use Rattle.adjacency.specs.Adjacency.{edge}
use Rattle.state.specs.State.{State, with_matrix}
use Rattle.state.specs.Valid.{ValidLaid}
use Rattle.state.specs.Laid.{vertex_count, class_at}
use Rattle.state.proofs.Facts.{edge_total, StateFacts, Laid, valid-facts, lengths_both}
use Rattle.state.proofs.Graph.{laid-valid}
use Rattle.loan.specs.Loan.{Loan}
use Rattle.loan.specs.Valid.{LaidLoan}
use Rattle.loan.specs.Checks.{laid_verdict}
use Rattle.loan.proofs.Laid.{laid-passed, laid-go}
use Rattle.join_records.specs.Record.{join_record_size}
use Rattle.completion.specs.Complete.{Ran, most_edges, fresh, completed, missing, ran_laid, ran_answer}
use Rattle.completion.proofs.Works.{few_edges, Good, CompletedRun, completes}
use Rattle.completion.proofs.Records.{Recorded, completed-length}

abbrev IsCompleted : CompleteAnswer → Type 0
IsCompleted (Completed joins switches n) = Unit {0}
IsCompleted (Refused r) = ⊥

pub refused-not_completed : (joins switches n : ℕ) (r : Refusal) → Refused r ≡ Completed joins switches n → ⊥
refused-not_completed joins switches n r e = subst IsCompleted (sym e) tt

-- the work ends in r, whichever pairs it joins; by the room that an output of m bytes has
module _ (s : State) (r : Ran) (m : ℕ) where
  pub laid-roomy : join_record_size * missing s ≤ m → ran_laid r s m ≡ Completed r.joins r.switches (length r.records)
  laid-roomy h = rw (le-leb (join_record_size * missing s) m h)

  pub laid-short : m < join_record_size * missing s → ran_laid r s m ≡ Refused (refuse OutputTooShort 0 0)
  laid-short h = rw (lt-leb (join_record_size * missing s) m h)

module _ (b : Loan) where
  module _ (r : Ran) where
    abbrev lent : State
    lent = b.state

    -- what an answer Completed for an output of m bytes says
    pub record CompletedFacts (m joins switches n : ℕ) : Type 0 where
      pub loan : LaidLoan b
      pub room : join_record_size * missing lent ≤ m
      pub joins_are : joins ≡ r.joins
      pub switches_are : switches ≡ r.switches
      pub length-is : n ≡ length r.records

    pub completed-facts : (m joins switches n : ℕ) → ran_answer r b m ≡ Completed joins switches n → CompletedFacts m joins switches n
    completed-facts m joins switches n e =
        let no = refused-not_completed joins switches n in
        let p = unless_stopped_passed (laid_verdict b) Refused _ (Completed joins switches n) no e in
        let h = unless_passed (leb (join_record_size * missing lent) m) _ _ (Completed joins switches n) (no _) p.1 in
        record {
          loan = laid-passed b p.0;
          room = leb-true (join_record_size * missing lent) m h.0;
          joins_are = cc h.1;
          switches_are = cc h.1;
          length-is = cc h.1;
        }

    module _ (m : ℕ) where
      pub facts_completed : LaidLoan b → join_record_size * missing lent ≤ m
          → ran_answer r b m ≡ Completed r.joins r.switches (length r.records)
      facts_completed f h = rw (laid-go b f) (laid-roomy lent r m h)

      pub short_refused : LaidLoan b → m < join_record_size * missing lent → ran_answer r b m ≡ Refused (refuse OutputTooShort 0 0)
      short_refused f h = rw (laid-go b f) (laid-short lent r m h)

module _ (s : State) where
  -- a valid laid state is where a run may begin
  pub good_start : ValidLaid s → Good (vertex_count s) (class_at s) (jdm_of s.journal) (fresh s.adjacency)
  good_start f =
      let facts = valid-facts s f.lengths f.is_valid in
      let laid = facts.laid f.phased in
      (record { sized = facts.adjacency_length; few = laid.vertices-le; target = laid.target; partial = laid.partial }, laid.outside)

  -- no layout misses more edges than it can have
  pub missing-most : ValidLaid s → missing s ≤ most_edges
  missing-most f =
      let filling = (good_start f).0 in
      omega (arith, few_edges (vertex_count s) (class_at s) (jdm_of s.journal) filling.target filling.few)

  -- after it, in r
  pub record CompleteWorks (r : Ran) : Type 0 where
    pub state : ValidLaid (with_matrix s r.adjacency)
    pub more : edge_total (with_matrix s r.adjacency) ≡ edge_total s + r.joins
    pub made : r.joins ≡ missing s
    pub written : length r.records ≡ join_record_size * r.joins
    pub all : sum_to most_classes (row_sum (jdm_of s.journal)) ≡ 2 * edge_total (with_matrix s r.adjacency)
    pub simple : Simple (vertex_count s) (edge r.adjacency)
    pub outside : ZeroOutside (vertex_count s) r.adjacency
    pub table : (k l : ℕ) → own_jdm (vertex_count s) (edge r.adjacency) k l ≡ jdm_of s.journal k l
    pub no_edge : isolated (vertex_count s) (edge r.adjacency) ≡ isolated_of s.journal
    pub degrees_exact : (v : ℕ) → v < vertex_count s → degree (vertex_count s) (edge r.adjacency) v ≡ class_degree (class_at s v)

  pub completed-works : ValidLaid s → (r : Ran) → CompletedRun (vertex_count s) (class_at s) (jdm_of s.journal) s.adjacency r → Recorded r
      → CompleteWorks r
  completed-works f r end recorded =
      record {
        state =
            record {
              lengths = lengths_both (with_matrix s g') facts.journal_length end.filling.sized;
              is_valid = laid-valid s laid g' f.phased facts.journal-ok end.filling.sized end.filling.partial end.outside;
              phased = f.phased;
            };
        more = omega (arith, end.counted);
        made = omega (arith, end.counted, end.missing);
        written = recorded;
        all = end.missing;
        simple = end.filling.partial.simple;
        outside = end.outside;
        table = has_table (table_of s.journal) summed passed (edge g') end.filling.partial end.full;
        no_edge = has_isolated (table_of s.journal) summed passed (edge g') end.filling.partial end.full;
        degrees_exact =
            complete-is_exact (vertex_count s) most_classes (class_at s) class_degree (jdm_of s.journal) (edge g') laid.target
            end.filling.partial end.full;
      }
    where
      facts : StateFacts s
      facts = valid-facts s f.lengths f.is_valid

      laid : Laid s
      laid = facts.laid f.phased

      summed : Table (jdm_of s.journal)
      summed = jdm-table s.journal facts.journal-ok

      passed : Passed (jdm_of s.journal)
      passed = (passes-passed (jdm_of s.journal)).0 laid.passed

      g' : List ℕ
      g' = r.adjacency

  pub complete-works : ValidLaid s → CompleteWorks (completed s)
  complete-works f =
      completed-works f (completed s)
      (completes (vertex_count s) (class_at s) (jdm_of s.journal) s.adjacency (good_start f).0 (good_start f).1) (completed-length s)
