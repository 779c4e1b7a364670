-- A loan passes the checks 1 and 2 if and only if each clause holds of it (specs/Clauses.antt).
-- Assumes nothing.
use mathlib.Core.Path.{◌≡◌}
use mathlib.Core.Bool.{true}
use mathlib.Core.Logic.{⊎_elim}
use Prim.Native.Nat.{ℕ, ◌<◌}
use native.Mathlib.Decide.{dec_lt}
use native.Mathlib.Omega.{arith}
use lib.ListN.{length, get_or, get_or-eq_default}
use borrow.Author.Tests.{eq-eqb}
use Rattle.slices.proofs.Zero.{all_zero-at, zeros-all_zero}
use Rattle.journal.specs.Journal.{phase_taking, phase}
use Rattle.state.specs.Laid.{vertex_count, class_at}
use Rattle.state.proofs.Clauses.{valid_by_clauses}
use Rattle.swap_log.specs.Log.{log_size}
use Rattle.swap_log.proofs.Clauses.{log_by_clauses}
use Rattle.loan.specs.Loan.{Loan}
use Rattle.loan.specs.Valid.{log_valid, loan_valid}
use Rattle.loan.specs.Clauses.{LoanLengths, LoanClauses, LoanByClauses}
use Rattle.loan.proofs.Laid.{loan_lengths, lengths_loan, loan-valid, valid-loan}

module _ (b : Loan) (size : LoanLengths b) where
  valid-clauses : loan_valid b ≡ true → LoanClauses b
  valid-clauses h =
      let v = loan-valid b h in
      record {
        state_clauses = (valid_by_clauses.is_valid b.state size.state_lengths).0 v.0;
        taking = λ e p l. all_zero-at b.log (rw (eq-eqb (phase b.state.journal) phase_taking e) at v.1) p;
        laid = λ e.
            (log_by_clauses (vertex_count b.state) (class_at b.state) b.state.adjacency b.log size.log_length).0 (rw e at v.1);
      }

  clauses-valid : LoanClauses b → loan_valid b ≡ true
  clauses-valid c =
      valid-loan b ((valid_by_clauses.is_valid b.state size.state_lengths).1 c.state_clauses)
      (⊎_elim
      (λ e. rw (eq-eqb (phase b.state.journal) phase_taking e) (zeros-all_zero b.log (λ p h. c.taking e p (omega (arith, h, size.log_length)))))
      (λ e. rw e ((log_by_clauses (vertex_count b.state) (class_at b.state) b.state.adjacency b.log size.log_length).1 (c.laid e)))
      c.state_clauses.journal_clauses.phase_byte)

pub loan_by_clauses : LoanByClauses
loan_by_clauses =
    record {
      lengths = λ b. (
        λ h. let l = loan_lengths b h in record { state_lengths = (valid_by_clauses.lengths b.state).0 l.0; log_length = l.1 },
        λ l. lengths_loan b ((valid_by_clauses.lengths b.state).1 l.state_lengths) l.log_length,
      );
      is_valid = λ b size. (valid-clauses b size, clauses-valid b size);
    }
