-- What a verdict of a loan that goes says, and back; what a valid loan is; and the empty log beside any state.
-- Assumes nothing.
use mathlib.Core.Path.{◌≡◌, refl, sym, ap, subst, ◌∙◌}
use mathlib.Core.Bool.{Bool, true, false, ◌&&◌, cond}
use mathlib.Core.List.{List}
use Prim.Native.Nat.{ℕ}
use lib.Dec.{eqb}
use lib.ListN.{length, get_or}
use borrow.Author.Tests.{eqb-true, eq-eqb}
use Rattle.finite.proofs.All.{and_left, and_right, and_both}
use Rattle.answer.specs.Refusals.{Go}
use Rattle.answer.proofs.Checks.{unless_go, unless_stopped_go}
use Rattle.slices.specs.Slices.{all_zero}
use Rattle.slices.proofs.Zero.{all_zero-at, zeros-all_zero}
use Rattle.journal.specs.Journal.{phase_taking, phase_laid, phase}
use Rattle.state.specs.State.{State, with_matrix}
use Rattle.state.specs.Checks.{phase_verdict}
use Rattle.state.specs.Valid.{lengths_ok, valid, ValidLaid}
use Rattle.state.specs.Laid.{vertex_count, class_at}
use Rattle.state.proofs.Checks.{laid-goes}
use Rattle.state.proofs.Facts.{StateFacts, Laid, valid-facts}
use Rattle.swapping.specs.Theorems.{Matrix}
use Rattle.swap_log.specs.Log.{log_size, empty_log, zero_after, log_ok}
use Rattle.swap_log.specs.Theorems.{ValidLog}
use Rattle.swap_log.proofs.Valid.{zero_log, empty_log-zero, empty_log-length, zero_is_empty, log_zero_after}
use Rattle.loan.specs.Loan.{Loan, altered}
use Rattle.loan.specs.Valid.{loan_lengths_ok, log_valid, loan_valid, ValidLoan, LaidLoan}
use Rattle.loan.specs.Checks.{loan_verdict, laid_verdict}

-- any log that is all zero is valid beside any state
pub zero_valid : (s : State) (l : List ℕ) → ((p : ℕ) → get_or l p 0 ≡ 0) → log_valid s l ≡ true
zero_valid s l z = go (eqb (phase s.journal) phase_taking)
  where
    go : (t : Bool) → cond t (all_zero l) (log_ok (vertex_count s) (class_at s) s.adjacency l) ≡ true
    go true = zeros-all_zero l (λ i h. z i)
    go false = zero_log (vertex_count s) (class_at s) s.adjacency l z

pub empty-valid : (s : State) → log_valid s empty_log ≡ true
empty-valid s = zero_valid s empty_log empty_log-zero

module _ (b : Loan) where
  pub loan_lengths : loan_lengths_ok b ≡ true → (lengths_ok b.state ≡ true) × (length b.log ≡ log_size)
  loan_lengths h = (
    and_left (lengths_ok b.state) (eqb (length b.log) log_size) h,
    eqb-true (length b.log) log_size (and_right (lengths_ok b.state) (eqb (length b.log) log_size) h),
  )

  pub lengths_loan : lengths_ok b.state ≡ true → length b.log ≡ log_size → loan_lengths_ok b ≡ true
  lengths_loan a l = and_both (lengths_ok b.state) (eqb (length b.log) log_size) a (eq-eqb (length b.log) log_size l)

  pub loan-valid : loan_valid b ≡ true → (valid b.state ≡ true) × (log_valid b.state b.log ≡ true)
  loan-valid h = (and_left (valid b.state) (log_valid b.state b.log) h, and_right (valid b.state) (log_valid b.state b.log) h)

  pub valid-loan : valid b.state ≡ true → log_valid b.state b.log ≡ true → loan_valid b ≡ true
  valid-loan = and_both (valid b.state) (log_valid b.state b.log)

  -- while blocks are taken the log is the empty one
  pub taking_empty : ValidLoan b → phase b.state.journal ≡ phase_taking → b.log ≡ empty_log
  taking_empty v e =
      zero_is_empty b.log (loan_lengths v.lengths).1
      (all_zero-at b.log
      (subst (λ (t : Bool). cond t (all_zero b.log) (log_ok (vertex_count b.state) (class_at b.state) b.state.adjacency b.log) ≡ true)
      (eq-eqb (phase b.state.journal) phase_taking e) (loan-valid v.is_valid).1))

  -- the verdicts
  pub loan_passed : loan_verdict b ≡ Go → ValidLoan b
  loan_passed e =
      let l = unless_go (loan_lengths_ok b) _ _ e in
      record { lengths = l.0; is_valid = (unless_go (loan_valid b) _ _ l.1).0 }

  pub laid-passed : laid_verdict b ≡ Go → LaidLoan b
  laid-passed e =
      let r = unless_stopped_go (loan_verdict b) _ e in
      let v = loan_passed r.0 in
      record {
        lengths = v.lengths;
        is_valid = v.is_valid;
        phased = eqb-true (phase b.state.journal) phase_laid (unless_go (eqb (phase b.state.journal) phase_laid) _ _ r.1).0;
      }

  pub laid-go : LaidLoan b → laid_verdict b ≡ Go
  laid-go v = rw (v.lengths, v.is_valid, eq-eqb (phase b.state.journal) phase_laid v.phased)

  -- a laid loan's state, and its log
  module _ (v : LaidLoan b) where
    pub laid-state : ValidLaid b.state
    laid-state = record { lengths = (loan_lengths v.lengths).0; is_valid = (loan-valid v.is_valid).0; phased = v.phased }

    pub laid-facts : StateFacts b.state
    laid-facts = valid-facts b.state laid-state.lengths laid-state.is_valid

    pub laid-laid : Laid b.state
    laid-laid = laid-facts.laid v.phased

    pub laid-matrix : Matrix (vertex_count b.state) b.state.adjacency
    laid-matrix =
        record {
          sized = laid-facts.adjacency_length;
          few = laid-laid.vertices-le;
          simple = laid-laid.partial.simple;
          outside = laid-laid.outside;
        }

    pub laid-log : ValidLog (vertex_count b.state) (class_at b.state) b.state.adjacency b.log
    laid-log =
        record {
          matrix = laid-matrix;
          sized = (loan_lengths v.lengths).1;
          is_valid = rw v.phased at (loan-valid v.is_valid).1;
        }

  -- the log can be emptied
  pub laid-emptied : laid_verdict b ≡ Go → (length b.log ≡ log_size) × (zero_after b.log ≡ true)
  laid-emptied e =
      let l = laid-log (laid-passed e) in
      (l.sized, log_zero_after (vertex_count b.state) (class_at b.state) b.state.adjacency b.log l.is_valid)

  -- its verdict goes on only where the state's does
  pub verdict_state : laid_verdict b ≡ Go → phase_verdict phase_laid b.state ≡ Go
  verdict_state e = laid-goes b.state (laid-state (laid-passed e))

  -- a state that stays valid beside the empty log, and beside one that its records allow
  pub altered-laid : (g : List ℕ) → ValidLaid (with_matrix b.state g) → LaidLoan (altered b g)
  altered-laid g v =
      record {
        lengths = and_both (lengths_ok (with_matrix b.state g)) _ v.lengths (eq-eqb (length empty_log) log_size empty_log-length);
        is_valid = and_both (valid (with_matrix b.state g)) _ v.is_valid (empty-valid (with_matrix b.state g));
        phased = v.phased;
      }

-- a laid state and a valid log beside it
pub laid_both : (s : State) (l : List ℕ) → ValidLaid s → ValidLog (vertex_count s) (class_at s) s.adjacency l → LaidLoan (record { state = s; log = l })
laid_both s l v w =
    record {
      lengths = and_both (lengths_ok s) _ v.lengths (eq-eqb (length l) log_size w.sized);
      is_valid = and_both (valid s) _ v.is_valid (rw v.phased w.is_valid);
      phased = v.phased;
    }
