-- The matrix after completing, by the answer.
-- Assumes nothing.
use Rattle.std.specs.Prelude.{List, ℕ}
use Rattle.answer.specs.declared.CompleteAnswer.{CompleteAnswer}
use Rattle.answer.specs.declared.CompleteAnswer.TheVariants.{Completed, Refused}
use Rattle.completion.specs.Complete.{Ran}

abbrev pub adjacency_ran : CompleteAnswer → Ran → List ℕ → List ℕ
adjacency_ran (Completed joins switches n) r g = r.adjacency
adjacency_ran (Refused x) r g = g
