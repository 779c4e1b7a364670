-- Any partial graph of the summed table on the vertices of a laid state makes a valid state with its journal.
-- Assumes nothing.
use mathlib.Core.Path.{◌≡◌}
use mathlib.Core.Bool.{true}
use mathlib.Core.List.{List}
use Prim.Native.Nat.{ℕ}
use lib.ListN.{length}
use Rattle.graph.specs.Target.{Partial}
use Rattle.graph.specs.Tests.{most_classes, class_degree}
use Rattle.journal.specs.Journal.{phase_laid, phase, journal_ok, jdm_of}
use Rattle.adjacency.specs.Adjacency.{adjacency_size, edge}
use Rattle.adjacency.specs.Clauses.{ZeroOutside}
use Rattle.adjacency.proofs.Facts.{facts_adjacency}
use Rattle.state.specs.State.{State, with_matrix}
use Rattle.state.specs.Valid.{valid}
use Rattle.state.specs.Laid.{vertex_count, class_at}
use Rattle.state.proofs.Facts.{Laid, facts_valid_1}

-- another partial graph on the vertices of a laid state
pub laid-valid : (s : State) → Laid s → (g : List ℕ) → phase s.journal ≡ phase_laid → journal_ok s.journal ≡ true → length g ≡ adjacency_size
    → Partial (vertex_count s) most_classes (class_at s) class_degree (jdm_of s.journal) (edge g) → ZeroOutside (vertex_count s) g
    → valid (with_matrix s g) ≡ true
laid-valid s laid g phased ok sized partial outside =
    facts_valid_1 (with_matrix s g) phased ok laid.passed laid.vertices-le
    (facts_adjacency (vertex_count s) (class_at s) (jdm_of s.journal) g sized laid.vertices-le
    (record { simple = partial.simple; outside = outside; room = partial.room; within = partial.within }))
