-- The body as the code builds it: bytes of six zeros, to which each edge adds its bit.
-- Assumes nothing.
use Rattle.std.specs.Prelude.{List, [], ◌∷◌, ℕ, ◌+◌, ◌/◌, ◌%◌, get_or, set, replicate}
use Rattle.finite.specs.Range.{fold_to}
use Rattle.edge_lists.specs.EdgeList.{end_v, end_w}
use Rattle.graph6.specs.Format.{offset, column_start, body_most}

-- what the bit at each of six places is worth in its byte
abbrev pub weights : List ℕ
weights = 32 ∷ 16 ∷ 8 ∷ 4 ∷ 2 ∷ 1 ∷ []

abbrev pub weight_of : ℕ → ℕ
weight_of r = get_or weights r 0

-- where the bit of edge i stands
abbrev pub bit_place : List ℕ → ℕ → ℕ
bit_place e i = column_start (end_w e i) + end_v e i

-- the body with the bit at place q added
abbrev pub add_bit : ℕ → List ℕ → List ℕ
add_bit q b = set b (q / 6) (get_or b (q / 6) 0 + weight_of (q % 6))

-- the body of the first n edges
abbrev pub body_to : List ℕ → ℕ → List ℕ
body_to e n = fold_to n (λ i. add_bit (bit_place e i)) (replicate body_most offset)
