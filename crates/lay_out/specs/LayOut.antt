-- Laying out (document 01).
-- Assumes nothing.
use Rattle.std.specs.Prelude.{ℕ}
use Rattle.answer.specs.Refusals.{Verdict, unless_stopped}
use Rattle.answer.specs.declared.LayOutAnswer.{LayOutAnswer}
use Rattle.answer.specs.declared.LayOutAnswer.TheVariants.{LaidOut, Refused}
use Rattle.graph.specs.Tests.{vertices}
use Rattle.layout.specs.Layout.{layout_verdict}
use Rattle.journal.specs.Journal.{phase_taking, table_of, laid}
use Rattle.state.specs.State.{State, with_journal}
use Rattle.state.specs.Checks.{phase_verdict}

-- after the tests 9 to 12: N, or the refusal they gave
abbrev pub laid_out : Verdict → ℕ → LayOutAnswer
laid_out v n = unless_stopped v Refused (LaidOut n)

-- the checks 1, 2, 3, then 9, 10, 11, 12
abbrev pub lay_out_answer : State → LayOutAnswer
lay_out_answer s =
    unless_stopped (phase_verdict phase_taking s) Refused (laid_out (layout_verdict (table_of s.journal)) (vertices (table_of s.journal)))

-- the state afterwards
abbrev pub after_lay_out : LayOutAnswer → State → State
after_lay_out (LaidOut n) s = with_journal s (laid s.journal)
after_lay_out (Refused r) s = s

abbrev pub lay_out_after : State → State
lay_out_after s = after_lay_out (lay_out_answer s) s
