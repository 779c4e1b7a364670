-- Clearing (document 01): it looks only at the lengths, of journal, matrix and log, and sets every byte to zero (document 02, P8: "clearing is given it and
-- empties it always").
-- Assumes nothing.
use Rattle.std.specs.Prelude.{◌≡◌, true, length, replicate}
use Rattle.graph.specs.Graph.{empty_table}
use Rattle.answer.specs.Refusals.{refuse, unless}
use Rattle.answer.specs.declared.Cause.TheVariants.{WrongLength}
use Rattle.answer.specs.declared.ClearAnswer.{ClearAnswer}
use Rattle.answer.specs.declared.ClearAnswer.TheVariants.{Cleared, Refused}
use Rattle.journal.specs.Journal.{phase_taking, phase, blocks, table_of}
use Rattle.state.specs.State.{State}
use Rattle.state.specs.Valid.{lengths_ok, valid}
use Rattle.loan.specs.Loan.{Loan, loan_of, cleared_loan}
use Rattle.loan.specs.Valid.{loan_lengths_ok, ValidLoan}

abbrev pub clear_answer : Loan → ClearAnswer
clear_answer b = unless (loan_lengths_ok b) (Refused (refuse WrongLength 0 0)) Cleared

-- what was lent, afterwards
abbrev pub after_clear : ClearAnswer → Loan → Loan
after_clear Cleared b =
    loan_of (replicate (length b.state.journal) 0) (replicate (length b.state.adjacency) 0) (replicate (length b.log) 0)
after_clear (Refused r) b = b

abbrev pub clear_after : Loan → Loan
clear_after b = after_clear (clear_answer b) b

-- a state just cleared
pub record ClearedState (s : State) : Type 0 where
  pub lengths : lengths_ok s ≡ true
  pub is_valid : valid s ≡ true
  pub taking : phase s.journal ≡ phase_taking
  pub no_blocks : blocks s.journal ≡ 0
  pub no_table : table_of s.journal ≡ empty_table

-- What is proved of clearing (proofs/Cleared.antt): any three lists of the right lengths become the same valid loan, with no blocks and an empty log.
abbrev pub ClearingClears : Type 0
ClearingClears =
    ((b : Loan) → loan_lengths_ok b ≡ true → (clear_answer b ≡ Cleared) × (clear_after b ≡ cleared_loan))
    × ClearedState cleared_loan.state
    × ValidLoan cleared_loan
