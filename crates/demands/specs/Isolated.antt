-- Isolated vertices of a valid laid state (document 02, P1: idle boards): they are the first ones, and are left alone. Such a vertex has no edge;
-- no cell of it is short, so no pair with it is open; it stands in for no other vertex in a switch; and no swap that meets the rule names it. Whatever the log.
-- Assumes nothing.
use Rattle.std.specs.Prelude.{◌≡◌, true, false, ◌↔◌, ◌≢◌, ℕ, ◌<◌}
use Rattle.graph.specs.Switch.{can_substitute}
use Rattle.journal.specs.Journal.{isolated_of}
use Rattle.adjacency.specs.Adjacency.{edge}
use Rattle.state.specs.State.{State}
use Rattle.state.specs.Valid.{ValidLaid}
use Rattle.state.specs.Laid.{vertex_count, class_at, short_at}
use Rattle.graph.specs.Tests.{class_degree}
use Rattle.swapping.specs.declared.Swap.{Swap}
use Rattle.swapping.specs.Swap.{can_swap}

-- vertex v, isolated in the table
pub record Alone (s : State) (v : ℕ) : Type 0 where
  pub no_edge : (w : ℕ) → w < vertex_count s → edge s.adjacency v w ≡ 0
  pub no_cell : (w : ℕ) → (short_at s (class_at s v) (class_at s w) ≡ false) × (short_at s (class_at s w) (class_at s v) ≡ false)
  pub no_substitute : (a other : ℕ) → can_substitute (vertex_count s) (class_at s) class_degree (edge s.adjacency) a other v ≡ false
  pub no_swap : (x : Swap) → can_swap (vertex_count s) (class_at s) s.adjacency x ≡ true → (x.a ≢ v) × (x.b ≢ v) × (x.c ≢ v) × (x.d ≢ v)

abbrev pub IsolatedAlone : Type 0
IsolatedAlone =
    (s : State) → ValidLaid s → (v : ℕ) → v < vertex_count s →
    ((class_at s v ≡ 0) ↔ (v < isolated_of s.journal)) × (class_at s v ≡ 0 → Alone s v)
