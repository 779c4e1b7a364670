-- The checks with which entries begin, as verdicts.
-- Assumes nothing.
use Rattle.std.specs.Prelude.{not, ℕ, eqb, ltb}
use Rattle.answer.specs.Refusals.{Verdict, Go, Stop, stopped, unless, unless_stopped}
use Rattle.answer.specs.declared.Cause.TheVariants.{WrongLength, InvalidState, WrongPhase, NoSuchVertex, SameVertex}
use Rattle.journal.specs.Journal.{phase}
use Rattle.state.specs.State.{State}
use Rattle.state.specs.Valid.{lengths_ok, valid}

-- the checks 1 and 2 of document 01's table, with which every entry that reads a state begins
abbrev pub state_verdict : State → Verdict
state_verdict s = unless (lengths_ok s) (stopped WrongLength) (unless (valid s) (stopped InvalidState) Go)

-- and 3, for a call that needs phase p
abbrev pub phase_verdict : ℕ → State → Verdict
phase_verdict p s = unless_stopped (state_verdict s) Stop (unless (eqb (phase s.journal) p) (stopped WrongPhase) Go)

-- the check 13 of a vertex, among n of them
abbrev pub vertex_verdict : ℕ → ℕ → Verdict
vertex_verdict n v = unless (ltb v n) (stopped NoSuchVertex) Go

-- the checks 13 and 14 of a pair
abbrev pub pair_verdict : ℕ → ℕ → ℕ → Verdict
pair_verdict n v w =
    unless_stopped (vertex_verdict n v) Stop
    (unless_stopped (vertex_verdict n w) Stop
    (unless (not (eqb v w)) (stopped SameVertex) Go))
