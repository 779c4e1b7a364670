-- Demand 3 (specs/Demand3.antt), over every list of calls, from what every reached state is (proofs/Reach.antt).
-- Assumes nothing.
use mathlib.Core.Path.{◌≡◌, sym, ap, subst, ◌∙◌}
use mathlib.Core.Bool.{true, false}
use mathlib.Core.List.{List}
use mathlib.Core.Logic.{◌↔◌}
use Prim.Native.Nat.{ℕ, ◌+◌, ◌-◌, ◌*◌, ◌<◌}
use native.Mathlib.Omega.{arith}
use lib.ListN.{length}
use Rattle.graph.specs.Graph.{Simple, DegreeTable}
use Rattle.graph.specs.Target.{Open}
use Rattle.graph.specs.Tests.{most_classes, class_degree}
use Rattle.graph.specs.Theorems.{Realized}
use Rattle.graph.proofs.OpenPair.{short_has_open_pair}
use Rattle.graph.proofs.Necessary.{necessary_always}
use Rattle.answer.specs.declared.AddAnswer.{AddAnswer}
use Rattle.answer.specs.declared.AddAnswer.TheVariants.{Added}
use Rattle.answer.specs.declared.CompleteAnswer.{CompleteAnswer}
use Rattle.answer.specs.declared.CompleteAnswer.TheVariants.{Completed}
use Rattle.answer.specs.declared.Choice.{Choice}
use Rattle.layout.specs.Layout.{wanted}
use Rattle.journal.specs.Journal.{jdm_of, table_of}
use Rattle.journal.proofs.Table.{jdm-table}
use Rattle.adjacency.specs.Adjacency.{edge}
use Rattle.state.specs.State.{State, with_matrix}
use Rattle.state.specs.Laid.{vertex_count, class_at}
use Rattle.state.proofs.Facts.{edge_total, StateFacts, Laid}
use Rattle.swap_log.specs.Log.{empty_log}
use Rattle.loan.specs.Loan.{Loan, altered, cleared_loan}
use Rattle.loan.specs.Valid.{loan_lengths_ok, loan_valid, LaidLoan}
use Rattle.loan.proofs.Laid.{laid-state, laid-facts, laid-laid}
use Rattle.lay_out.proofs.LayOut.{lay_out_honest}
use Rattle.add_edge.specs.Add.{add_answer, after_add, add_after}
use Rattle.add_edge.proofs.Add.{AddFacts, facts_added, AddWorks, add-works}
use Rattle.join_bytes.specs.Join.{join_bytes, join_switches}
use Rattle.join_records.specs.Record.{join_record_size}
use Rattle.completion.specs.Complete.{Ran, missing, after_ran}
use Rattle.completion.proofs.Entry.{short_refused, CompleteWorks}
use Rattle.shuffled_completion.specs.Outcome.{outcome, choice_answer}
use Rattle.shuffled_completion.proofs.Works.{outcome-works}
use Rattle.demands.specs.Calls.{after_all}
use Rattle.demands.specs.Tally.{Tally, no_tally, missing_edges, tally_all}
use Rattle.demands.specs.Matrix.{ShortFor}
use Rattle.demands.specs.Demand3 as D
use Rattle.demands.proofs.Choices.{outcome-answer, after-choice, choice_has, choice_log}
use Rattle.demands.specs.Reach.{Reach}
use Rattle.demands.proofs.Reach.{reach, phase-0, reached_lengths, reached_valid, reached_laid}

-- Everything is first said of the journal's own table, which is the tally's.
module _ (b : Loan) (checked : LaidLoan b) where
  abbrev s : State
  s = b.state

  facts : StateFacts s
  facts = laid-facts b checked

  laid : Laid s
  laid = laid-laid b checked

  simple : Simple (vertex_count s) (edge s.adjacency)
  simple = laid.partial.simple

  open-pair : (v w : ℕ) → D.OpenPair (table_of s.journal) s v w → Open (vertex_count s) (class_at s) (jdm_of s.journal) (edge s.adjacency) v w
  open-pair v w o =
      record {
        first = o.first;
        second = o.second;
        distinct = o.different;
        unlinked = omega (arith, simple.binary v w o.first o.second, o.unlinked);
        short = o.short;
      }

  -- the pair named the other way round
  turn : (v w : ℕ) → D.OpenPair (table_of s.journal) s v w → D.OpenPair (table_of s.journal) s w v
  turn v w o =
      record {
        first = o.second;
        second = o.first;
        different = λ e. o.different (sym e);
        unlinked = λ e. o.unlinked (simple.symmetric v w o.first o.second ∙ e);
        short =
            omega (
              arith,
              o.short,
              (necessary_always (vertex_count s) most_classes (class_at s) (edge s.adjacency) simple laid.target.classed).symmetric
                  (class_at s v) (class_at s w),
              (jdm-table s.journal facts.journal-ok).symmetric (class_at s v) (class_at s w),
            );
      }

  joins : (v w : ℕ) → D.OpenPair (table_of s.journal) s v w → D.CanBeJoined (table_of s.journal) b v w
  joins v w o = go (facts_added b v w f) (add-works b v w f)
    where
      f : AddFacts b v w
      f = record { loan = checked; pair = open-pair v w o }

      to : add_answer b v w ≡ Added (join_switches (vertex_count s) (class_at s) s.adjacency v w)
          → add_after b v w ≡ altered b (join_bytes (vertex_count s) (class_at s) s.adjacency v w)
      to e = ap (λ (a : AddAnswer). after_add a b v w) e

      go : add_answer b v w ≡ Added (join_switches (vertex_count s) (class_at s) s.adjacency v w)
          → AddWorks b v w (altered b (join_bytes (vertex_count s) (class_at s) s.adjacency v w))
          → D.CanBeJoined (table_of s.journal) b v w
      go e x =
          record {
            switches = join_switches (vertex_count s) (class_at s) s.adjacency v w;
            answer = e;
            lengths = subst (λ (y : Loan). loan_lengths_ok y ≡ true) (sym (to e)) x.loan.lengths;
            is_valid = subst (λ (y : Loan). loan_valid y ≡ true) (sym (to e)) x.loan.is_valid;
            linked = subst (λ (y : Loan). edge y.state.adjacency v w ≡ 1) (sym (to e)) x.linked;
            one_more = subst (λ (y : Loan). D.edges_laid (table_of s.journal) y.state ≡ edge_total s + 1) (sym (to e)) x.one_more;
            no_log = ap (λ (y : Loan). y.log) (to e);
          }

  -- a short cell has an open pair; no cell past the classes is short
  some_pair : (k l : ℕ) → ShortFor (table_of s.journal) s k l → (v w : ℕ) × D.OpenPair (table_of s.journal) s v w
  some_pair k l h =
      let o = short_has_open_pair (vertex_count s) most_classes (class_at s) class_degree (jdm_of s.journal) (edge s.adjacency) laid.target
      laid.partial k l (below k l h) (below l k (mirrored k l h)) h in (
        o.0,
        o.1,
        record {
          first = o.5.first;
          second = o.5.second;
          different = o.5.distinct;
          unlinked = λ e. omega (arith, e, o.5.unlinked);
          short = o.5.short;
        },
      )
    where
      below : (k l : ℕ) → ShortFor (table_of s.journal) s k l → k < most_classes
      below k l h = go (native.Mathlib.Decide.dec_lt k most_classes)
        where
          go : Dec (k < most_classes) → k < most_classes
          go (yes p) = p
          go (no p) = absurd (omega (arith, h, (jdm-table s.journal facts.journal-ok).none_above k l (omega arith)))

      mirrored : (k l : ℕ) → ShortFor (table_of s.journal) s k l → ShortFor (table_of s.journal) s l k
      mirrored k l h =
          omega (
            arith,
            h,
            (necessary_always (vertex_count s) most_classes (class_at s) (edge s.adjacency) simple laid.target.classed).symmetric k l,
            (jdm-table s.journal facts.journal-ok).symmetric k l,
          )

  -- Completing. The tally t has the journal's table and the matrix's edges, and so the edges missing.
  module _ (t : Tally) (same : table_of s.journal ≡ t.table) (counted : edge_total s ≡ t.edges) (f : Choice) (out : List ℕ) where
    abbrev r : Ran
    r = outcome f s

    same-missing : missing_edges t ≡ missing s
    same-missing = rw (← counted) (ap (λ (u : DegreeTable). wanted u.cells - edge_total s) (sym same))

    completes : D.HasRoom t out → D.Completes t b f out
    completes room =
        subst (λ (u : DegreeTable). D.Completes (record { blocks = t.blocks; table = u; laid = t.laid; edges = t.edges }) b f out) same
        (own (outcome-works f s (laid-state b checked))
        (outcome-answer b f checked (length out) (omega (arith, same-missing, room))))
      where
        own : CompleteWorks s r
            → choice_answer f b (length out) ≡ Completed r.joins r.switches (join_record_size * r.joins)
            → D.Completes (record { blocks = t.blocks; table = table_of s.journal; laid = t.laid; edges = t.edges }) b f out
        own x a =
            record {
              joins = r.joins;
              switches = r.switches;
              answer = a;
              missing = omega (arith, x.all, x.more, counted);
              more =
                  subst (λ (y : Loan). D.edges_laid (table_of s.journal) y.state ≡ edge_total s + r.joins)
                  (sym (after-choice b f out r.joins r.switches (join_record_size * r.joins) a)) x.more;
              has_table = choice_has b f out r.joins r.switches (join_record_size * r.joins) a (laid-state b checked);
              log-after = choice_log b f out r.joins r.switches (join_record_size * r.joins) a;
            }

    refuses : (D.HasRoom t out → ⊥) → D.RefusedShort b f out
    refuses no_room =
        let e = short_refused b r (length out) checked (omega (arith, same-missing, no_room)) in
        record {
          answer = e;
          unchanged = ap (λ (a : CompleteAnswer). after_ran a r b) e;
        }

pub demand_3 : D.Demand3
demand_3 calls = (not-laid, laid_out)
  where
    s : Loan
    s = after_all cleared_loan calls

    t : Tally
    t = tally_all cleared_loan no_tally calls

    r : Reach (after_all cleared_loan calls) (tally_all cleared_loan no_tally calls)
    r = reach calls

    not-laid : (tally_all cleared_loan no_tally calls).laid ≡ false → D.NotLaid (tally_all cleared_loan no_tally calls) (after_all cleared_loan calls).state
    not-laid e =
        record {
          honest =
              subst (λ (u : DegreeTable). D.RefusedForWantOfAGraph (after_all cleared_loan calls).state ↔ (Realized u.cells → ⊥)) r.table
              (lay_out_honest (after_all cleared_loan calls).state (reached_lengths s t r) (reached_valid s t r) (phase-0 s t r e));
        }

    laid_out : (tally_all cleared_loan no_tally calls).laid ≡ true → D.Laid (tally_all cleared_loan no_tally calls) (after_all cleared_loan calls)
    laid_out e =
        record {
          joinable = λ v w o.
              let p = subst (λ (u : DegreeTable). D.OpenPair u (after_all cleared_loan calls).state v w) (sym r.table) o in (
                subst (λ (u : DegreeTable). D.CanBeJoined u (after_all cleared_loan calls) v w) r.table
                    (joins (after_all cleared_loan calls) laid-loan v w p),
                subst (λ (u : DegreeTable). D.CanBeJoined u (after_all cleared_loan calls) w v) r.table
                    (joins (after_all cleared_loan calls) laid-loan w v (turn (after_all cleared_loan calls) laid-loan v w p)),
              );
          pair = λ k l h.
              let q = some_pair (after_all cleared_loan calls) laid-loan k l
              (subst (λ (u : DegreeTable). ShortFor u (after_all cleared_loan calls).state k l) (sym r.table) h) in
              (q.0, q.1, subst (λ (u : DegreeTable). D.OpenPair u (after_all cleared_loan calls).state q.0 q.1) r.table q.2);
          completes = completes (after_all cleared_loan calls) laid-loan (tally_all cleared_loan no_tally calls) r.table r.counted;
          refuses = refuses (after_all cleared_loan calls) laid-loan (tally_all cleared_loan no_tally calls) r.table r.counted;
        }
      where
        laid-loan : LaidLoan (after_all cleared_loan calls)
        laid-loan = reached_laid (after_all cleared_loan calls) (tally_all cleared_loan no_tally calls) (reach calls) e
