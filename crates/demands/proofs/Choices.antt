-- What holds of completing by every choice (crates/shuffled_completion/specs/Outcome.antt), whichever pairs it joins:
-- the laws of completing by any choice of open pairs, at the two that there are.
-- Assumes nothing.
use mathlib.Core.Path.{◌≡◌, refl, sym, ap, subst, ◌∙◌}
use mathlib.Core.Bool.{true}
use mathlib.Core.List.{List}
use mathlib.Core.Logic.{◌⊎◌, inl, inr, ⊎_elim}
use Prim.Native.Nat.{ℕ, ◌*◌, ◌≤◌, ◌<◌}
use native.Mathlib.Decide.{ℕ_discrete}
use native.Mathlib.Omega.{arith}
use borrow.Author.Tests.{ne_eqb}
use lib.ListN.{length}
use Rattle.finite.specs.Range.{iterate}
use Rattle.finite.proofs.Fold.{iterate-keeps}
use Rattle.answer.specs.declared.CompleteAnswer.{CompleteAnswer}
use Rattle.answer.specs.declared.CompleteAnswer.TheVariants.{Completed}
use Rattle.answer.specs.declared.Choice.{Choice}
use Rattle.answer.specs.declared.Choice.TheVariants.{Lowest, Picked}
use Rattle.graph.specs.Tests.{least_class, most_classes, class_count}
use Rattle.graph.proofs.Numbering.{class_of-rises}
use Rattle.journal.specs.Journal.{jdm_of, table_of}
use Rattle.state.specs.State.{State, with_matrix}
use Rattle.state.specs.Valid.{ValidLaid}
use Rattle.state.specs.Laid.{vertex_count, class_at}
use Rattle.state.proofs.Facts.{cell_at}
use Rattle.loan.specs.Loan.{Loan}
use Rattle.loan.specs.Valid.{LaidLoan}
use Rattle.loan.proofs.Laid.{laid-state, altered-laid}
use Rattle.join_records.specs.Record.{join_record_size}
use Rattle.completion.specs.Complete.{Ran, fresh, most_edges, missing, log_after, after_ran}
use Rattle.completion.proofs.Works.{Good, Chooser, short, lowest-pair, next-rising}
use Rattle.completion.proofs.Full.{full_run}
use Rattle.completion.proofs.Entry.{completed-facts, facts_completed}
use Rattle.shuffled_completion.specs.Shuffle.{Shuffled}
use Rattle.shuffled_completion.proofs.Works.{shuffled-pair, shuffled-rises, outcome-works}
use Rattle.shuffled_completion.specs.Outcome.{outcome, choice_answer, choice_after}
use Rattle.demands.specs.Matrix.{HasTable}

-- r is what one way to choose pairs, each named lower vertex first, ends in from the state's matrix
pub record By (s : State) (r : Ran) : Type 1 where
  pub S : Type 0
  pub way : Chooser (vertex_count s) (class_at s) (jdm_of s.journal) S
  pub rises : (x : S) → Good (vertex_count s) (class_at s) (jdm_of s.journal) (way.ran x) → short (vertex_count s) (class_at s) (jdm_of s.journal) way x ≡ true
      → way.v x < way.w x
  pub start : S
  pub begins : way.ran start ≡ fresh s.adjacency
  pub ends : r ≡ way.ran (iterate most_edges (short (vertex_count s) (class_at s) (jdm_of s.journal) way) way.next start)

module _ (s : State) where
  pub by : (f : Choice) → By s (outcome f s)
  by Lowest =
      record {
        S = Ran;
        way = lowest-pair (vertex_count s) (class_at s) (jdm_of s.journal);
        rises = next-rising (vertex_count s) (class_at s) (jdm_of s.journal) (class_of-rises most_classes (class_count (table_of s.journal)));
        start = fresh s.adjacency;
        begins = refl;
        ends = refl;
      }
  by (Picked x) =
      record {
        S = Shuffled;
        way = shuffled-pair (vertex_count s) (class_at s) (jdm_of s.journal);
        rises = shuffled-rises (vertex_count s) (class_at s) (jdm_of s.journal);
        start = record { ran = fresh s.adjacency; x = x };
        begins = refl;
        ends = refl;
      }

  module _ (f : Choice) where
    -- Where every cell is full, no join is missing: none is made, and the matrix stays as it is.
    pub full_outcome : ((k l : ℕ) → least_class ≤ k → k < most_classes → k ≤ l → l < most_classes → jdm_of s.journal k l ≤ cell_at s k l)
        → outcome f s ≡ fresh s.adjacency
    full_outcome full =
        let b = by f in
        b.ends
        ∙ ap b.way.ran (full_run (vertex_count s) (class_at s) (jdm_of s.journal) b.way b.start (rw b.begins full) most_edges)
        ∙ b.begins

    -- Where no join was made, nothing was done.
    pub no_joins : (outcome f s).joins ≡ 0 → outcome f s ≡ fresh s.adjacency
    no_joins none = ⊎_elim (λ h. absurd (omega (arith, h, none, ap (λ (r : Ran). r.joins) b.ends))) (λ e. b.ends ∙ ap b.way.ran e ∙ b.begins) ended
      where
        b : By s (outcome f s)
        b = by f

        Moved : (by f).S → Type 0
        Moved x = (0 < ((by f).way.ran x).joins) ⊎ (x ≡ (by f).start)

        ended : (0 < ((by f).way.ran (iterate most_edges (short (vertex_count s) (class_at s) (jdm_of s.journal) (by f).way) (by f).way.next (by f).start)).joins)
            ⊎ (iterate most_edges (short (vertex_count s) (class_at s) (jdm_of s.journal) (by f).way) (by f).way.next (by f).start ≡ (by f).start)
        ended =
            iterate-keeps Moved (short (vertex_count s) (class_at s) (jdm_of s.journal) b.way) b.way.next most_edges b.start (inr refl)
            (λ x h t. inl (omega (arith, ap (λ (r : Ran). r.joins) (b.way.joins x))))

-- the loan that a completing which was not refused leaves
module _ (s : Loan) (f : Choice) where
  abbrev pub ended : Ran
  ended = outcome f s.state

  abbrev pub completed_loan : Loan
  completed_loan = record { state = with_matrix s.state ended.adjacency; log = log_after ended.joins s.log }

  pub outcome-has : ValidLaid s.state → HasTable (table_of s.state.journal) (with_matrix s.state ended.adjacency)
  outcome-has laid =
      let x = outcome-works f s.state laid in
      record { simple = x.simple; exact = x.table; exact_isolated = x.no_edge; outside = x.outside }

  module _ (out : List ℕ) (joins switches n : ℕ) (e : choice_answer f s (length out) ≡ Completed joins switches n) where
    pub after-choice : choice_after f s (length out) ≡ completed_loan
    after-choice =
        ap (λ (a : CompleteAnswer). after_ran a ended s) e
        ∙ ap (λ (j : ℕ). record { state = with_matrix s.state ended.adjacency; log = log_after j s.log })
        (completed-facts s ended (length out) joins switches n e).joins_are

    pub choice_log : (choice_after f s (length out)).log ≡ log_after joins s.log
    choice_log = ap (λ (a : CompleteAnswer). (after_ran a ended s).log) e

    pub choice_has : ValidLaid s.state → HasTable (table_of s.state.journal) (choice_after f s (length out)).state
    choice_has laid = subst (λ (b : Loan). HasTable (table_of s.state.journal) b.state) (sym after-choice) (outcome-has laid)

  module _ (laid : LaidLoan s) where
    -- the answer, for an output of m bytes with room
    pub outcome-answer : (m : ℕ) → join_record_size * missing s.state ≤ m
        → choice_answer f s m ≡ Completed ended.joins ended.switches (join_record_size * ended.joins)
    outcome-answer m h =
        facts_completed s ended m laid h ∙ ap (Completed ended.joins ended.switches) (outcome-works f s.state (laid-state s laid)).written

    -- the answer where every cell is full, whatever the output
    pub full_answer : outcome f s.state ≡ fresh s.state.adjacency → (m : ℕ) → choice_answer f s m ≡ Completed 0 0 0
    full_answer full m =
        let none = ap (λ (r : Ran). r.joins) full in
        outcome-answer m (omega (arith, none, (outcome-works f s.state (laid-state s laid)).made))
        ∙ ap (λ (r : Ran). Completed r.joins r.switches (join_record_size * r.joins)) full

    -- it is valid: the log is empty where a join was made, and where none was made the matrix is as it was
    pub completed-laid : LaidLoan completed_loan
    completed-laid = go (ℕ_discrete ended.joins 0)
      where
        go : Dec (ended.joins ≡ 0) → LaidLoan completed_loan
        go (yes z) = rw (no_joins s.state f z) laid
        go (no z) = rw (ne_eqb ended.joins 0 z) (altered-laid s ended.adjacency (outcome-works f s.state (laid-state s laid)).state)
