-- The vertex of an edge list that check 20 names.
-- Assumes nothing.
use Rattle.std.specs.Prelude.{List, ℕ, ltb}
use Rattle.finite.specs.Range.{lowest}
use Rattle.graph.specs.Graph.{degree}
use Rattle.graph.specs.Tests.{most_degree}
use Rattle.edge_lists.specs.EdgeList.{graph_of}

-- the lowest vertex whose degree is over 40; the total where there is none
abbrev pub first_above : List ℕ → ℕ → ℕ
first_above e total = lowest 0 total (λ v. ltb most_degree (degree total (graph_of e) v))
