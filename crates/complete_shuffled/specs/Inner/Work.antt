-- What shuffled completing keeps from join to join: what is tracked, and for each class a vertex before which all are saturated.
-- Assumes nothing.
use Rattle.std.specs.Prelude.{◌≡◌, List, ℕ, ◌+◌, ◌≤◌, ◌<◌, ltb, length, get_or}
use Rattle.finite.specs.Range.{lowest}
use Rattle.graph.specs.Graph.{edges}
use Rattle.graph.specs.Tests.{most_classes, class_degree}
use Rattle.table.specs.Inner.Cells.{matrix_of}
use Rattle.layout.specs.Layout.{wanted}
use Rattle.adjacency.specs.Adjacency.{edge}
use Rattle.classes.specs.Inner.Block.{class_from}
use Rattle.adjacency.specs.Inner.Degrees.{degrees_of}
use Rattle.completion.specs.Complete.{Ran, fresh, most_edges}
use Rattle.progress.specs.Inner.Work.{Saturated, ValidRun, ran}
use Rattle.shuffled_completion.specs.Shuffle.{Shuffled}
use Rattle.complete_shuffled.specs.declared.step.Shuffle.{Shuffle}
use Rattle.tracking.specs.Inner.Track.{Tracked}

-- before low k, all vertices of class k are saturated
pub record Lows (n : ℕ) (starts g low : List ℕ) : Type 0 where
  pub sized : length low ≡ length starts
  pub from : (k : ℕ) → k < most_classes → get_or starts k 0 ≤ get_or low k 0
  pub to : (k : ℕ) → k < most_classes → get_or low k 0 ≤ get_or starts (k + 1) 0
  pub saturated : (k : ℕ) → k < most_classes → Saturated n (class_from starts) g k (get_or low k 0)

-- the matrix and the output, with what was done so far: a run, and x
abbrev pub shuffled_at : List ℕ → List ℕ → Shuffle → Shuffled
shuffled_at g out d = record { ran = ran g out d.totals; x = d.x }

-- what holds before each join and after it; the output has `room` bytes
pub record Shuffling (n : ℕ) (cells starts classes g have full pairs low degrees : List ℕ) (room : ℕ) (s : Ran) : Type 0 where
  pub tracked : Tracked n cells starts classes g have full pairs
  pub lows : Lows n starts g low
  pub is_valid : ValidRun n (class_from starts) (matrix_of cells) room s
  pub degrees_right : degrees ≡ degrees_of n g

-- the search for an unsaturated vertex of class k goes on from where it was
abbrev pub low_after : List ℕ → List ℕ → List ℕ → ℕ → ℕ
low_after degrees starts low k = lowest (get_or low k 0) (get_or starts (k + 1) 0) (λ i. ltb (get_or degrees i 0) (class_degree k))

-- m edges are missing, no more than a layout can have
abbrev pub Lacks : ℕ → List ℕ → List ℕ → ℕ → Type 0
Lacks n cells g m = (edges n (edge g) + m ≡ wanted (matrix_of cells)) × (m ≤ most_edges)

-- the matrix g, with nothing done yet
abbrev pub begins : List ℕ → ℕ → Shuffled
begins g x = record { ran = fresh g; x = x }
