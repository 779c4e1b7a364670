-- Clearing gives one and the same loan, which is valid, in phase 0, with the empty table and the empty log.
-- Assumes nothing.
use mathlib.Core.Path.{◌≡◌, refl, ◌∙◌}
use mathlib.Core.Bool.{true}
use mathlib.Core.List.{List}
use Prim.Native.Nat.{ℕ}
use lib.ListN.{replicate, length-replicate}
use Rattle.answer.specs.declared.ClearAnswer.TheVariants.{Cleared}
use Rattle.slices.proofs.Zero.{get_or-zeros}
use Rattle.journal.specs.Journal.{journal_size}
use Rattle.journal.proofs.Empty.{phase-empty, blocks-empty, table_empty, valid-empty}
use Rattle.adjacency.specs.Adjacency.{adjacency_size}
use Rattle.state.specs.State.{state_of}
use Rattle.state.proofs.Facts.{lengths_journal, lengths_adjacency, lengths_both, facts_valid_0}
use Rattle.swap_log.proofs.Valid.{empty_log-length}
use Rattle.loan.specs.Loan.{Loan, cleared_loan}
use Rattle.loan.specs.Valid.{loan_lengths_ok, ValidLoan}
use Rattle.loan.proofs.Laid.{empty-valid, loan_lengths, lengths_loan, valid-loan}
use Rattle.clear.specs.Clear.{clear_answer, clear_after, ClearedState, ClearingClears}

-- the lengths are variables here, so that no list is written out
zeros-cleared : (m n : ℕ) → m ≡ journal_size → n ≡ adjacency_size → ClearedState (state_of (replicate m 0) (replicate n 0))
zeros-cleared m n a b =
    let j : List ℕ = replicate m 0 in
    let s = state_of j (replicate n 0) in
    record {
      lengths = lengths_both s (length-replicate {A = ℕ} m 0 ∙ a) (length-replicate {A = ℕ} n 0 ∙ b);
      is_valid = facts_valid_0 s (phase-empty j (get_or-zeros m)) (valid-empty j (get_or-zeros m)) (get_or-zeros n);
      taking = phase-empty j (get_or-zeros m);
      no_blocks = blocks-empty j (get_or-zeros m);
      no_table = table_empty j (get_or-zeros m);
    }

pub cleared-state : ClearedState cleared_loan.state
cleared-state = zeros-cleared journal_size adjacency_size refl refl

-- the empty log is valid beside it
pub cleared-loan : ValidLoan cleared_loan
cleared-loan =
    record {
      lengths = lengths_loan cleared_loan cleared-state.lengths empty_log-length;
      is_valid = valid-loan cleared_loan cleared-state.is_valid (empty-valid cleared_loan.state);
    }

-- clearing any three lists of the right lengths gives that loan
module _ (b : Loan) (l : loan_lengths_ok b ≡ true) where
  pub clear-answer : clear_answer b ≡ Cleared
  clear-answer = rw l

  pub clear-after : clear_after b ≡ cleared_loan
  clear-after =
      let s = loan_lengths b l in
      rw (l, lengths_journal b.state s.0, lengths_adjacency b.state s.0, s.1)

pub clearing_clears : ClearingClears
clearing_clears = (λ b l. (clear-answer b l, clear-after b l), cleared-state, cleared-loan)
