-- The matrix after a removal.
-- Assumes nothing.
use Rattle.std.specs.Prelude.{List, ℕ}
use Rattle.answer.specs.declared.RemoveAnswer.{RemoveAnswer}
use Rattle.answer.specs.declared.RemoveAnswer.TheVariants.{Removed, Refused}
use Rattle.adjacency.specs.Adjacency.{set_edge}

abbrev pub removed_adjacency : RemoveAnswer → List ℕ → ℕ → ℕ → List ℕ
removed_adjacency Removed g v w = set_edge g v w 0
removed_adjacency (Refused r) g v w = g
