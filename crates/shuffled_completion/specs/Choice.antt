-- Which pair completing by shuffled choice joins next (document 02, P7). The open pairs are those v < w that are not linked and have their cell
-- short, over all cells together, ascending by v and then w.
-- n vertices of classes cls, the table T, the matrix g. Assumes nothing.
use Rattle.std.specs.Prelude.{Bool, ◌&&◌, List, ℕ, ◌+◌, ◌*◌, ◌/◌, ◌%◌, eqb, ltb}
use Rattle.finite.specs.Range.{bit, sum_to, lowest, fold_to}
use Rattle.graph.specs.Target.{is_short}
use Rattle.adjacency.specs.Adjacency.{edge}

-- x steps to x × 1,664,525 + 1,013,904,223, keeping the low 32 bits
abbrev pub next_x : ℕ → ℕ
next_x x = (x * 1664525 + 1013904223) % 4294967296

-- x after so many steps
abbrev pub steps_x : ℕ → ℕ → ℕ
steps_x m x = fold_to m (λ i. next_x) x

-- v – w is an open pair
abbrev pub is_open : ℕ → (ℕ → ℕ) → (ℕ → ℕ → ℕ) → List ℕ → ℕ → ℕ → Bool
is_open n cls T g v w = ltb v w && eqb (edge g v w) 0 && is_short n cls T (edge g) (cls v) (cls w)

-- how many of the pairs of v with the vertices before w are open
abbrev pub open_in_row : ℕ → (ℕ → ℕ) → (ℕ → ℕ → ℕ) → List ℕ → ℕ → ℕ → ℕ
open_in_row n cls T g v w = sum_to w (λ u. bit (is_open n cls T g v u))

-- how many of the pairs whose lower vertex is before v are
abbrev pub open_before : ℕ → (ℕ → ℕ) → (ℕ → ℕ → ℕ) → List ℕ → ℕ → ℕ
open_before n cls T g v = sum_to v (λ u. open_in_row n cls T g u n)

-- document 02's m: how many open pairs there are
abbrev pub open_count : ℕ → (ℕ → ℕ) → (ℕ → ℕ → ℕ) → List ℕ → ℕ
open_count n cls T g = open_before n cls T g n

-- v – w is the open pair at position q: so many stand before it
abbrev pub stands_at : ℕ → (ℕ → ℕ) → (ℕ → ℕ → ℕ) → List ℕ → ℕ → ℕ → ℕ → Bool
stands_at n cls T g q v w = is_open n cls T g v w && eqb (open_before n cls T g v + open_in_row n cls T g v w) q

-- its higher vertex, where v is the lower one, and its lower vertex: the one that has such a higher one
abbrev pub pair_w : ℕ → (ℕ → ℕ) → (ℕ → ℕ → ℕ) → List ℕ → ℕ → ℕ → ℕ
pair_w n cls T g q v = lowest 0 n (stands_at n cls T g q v)

abbrev pub pair_v : ℕ → (ℕ → ℕ) → (ℕ → ℕ → ℕ) → List ℕ → ℕ → ℕ
pair_v n cls T g q = lowest 0 n (λ v. ltb (pair_w n cls T g q v) n)

-- the position that x picks: (x / 65,536) mod m, both divisions rounded down
abbrev pub position : ℕ → (ℕ → ℕ) → (ℕ → ℕ → ℕ) → List ℕ → ℕ → ℕ
position n cls T g x = x / 65536 % open_count n cls T g
