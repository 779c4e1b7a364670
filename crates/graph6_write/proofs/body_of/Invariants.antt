-- `graph6_write::body_of` meets its contract: the bits of the edges before i are added.
use mathlib.Core.Path.{◌≡◌}
use Rattle.graph6_write.specs.Inner.Body.{body_to}
use Rattle.graph6_write.proofs.body_of.Given as goal

abbrev pub invariant-loop-v : goal.invariant-loop-v
invariant-loop-v l = l.body ≡ body_to l.edges l.v-index
