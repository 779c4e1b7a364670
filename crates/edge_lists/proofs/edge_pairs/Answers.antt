-- `edge_lists::edge_pairs` meets its contract.
use native.Mathlib.Omega.{arith}
use Rattle.edge_lists.specs.EdgeList.{listed}
use Rattle.edge_lists.proofs.Chunks.{chunk_at}
use Rattle.edge_lists.proofs.edge_pairs.Goals as goal

pub returns-clause-ends : goal.returns-clause-ends
returns-clause-ends c = λ i h. rw c.as_chunks.ensures.front (chunk_at (listed c.args.edges.now) i c.args.edges.now (omega arith) h)
