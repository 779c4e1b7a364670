-- McKay's graph6 (document 02, P5), for graphs of up to 200 vertices: the text of a graph, which texts are well formed, and the graph of one.
-- A text is the size, then the upper triangle of the matrix, column by column; six bits a byte, high bit first, plus 63.
-- Assumes nothing.
use Rattle.std.specs.Prelude.{Bool, ◌&&◌, ◌||◌, not, cond, List, [], ◌∷◌, ◌++◌, ℕ, ◌+◌, ◌-◌, ◌*◌, ◌/◌, ◌%◌, eqb, ltb, leb, length, get_or, drop}
use Rattle.finite.specs.Range.{all_to, cat_to}
use Rattle.graph.specs.Graph.{Graph}
use Rattle.slices.specs.Slices.{all_zero}
use Rattle.layout.specs.Layout.{most_vertices}

-- what is added to six bits to make them a byte
abbrev pub offset : ℕ
offset = 63

-- the byte of six ones, with which a long size begins
abbrev pub most_byte : ℕ
most_byte = 126

-- the largest size of one byte
abbrev pub short_most : ℕ
short_most = 62

-- Writing.

-- the size: one byte up to 62, then byte 126 and three bytes, six bits each, high bits first
abbrev pub size_bytes : ℕ → List ℕ
size_bytes n =
    cond (leb n short_most) ((n + offset) ∷ []) (most_byte ∷ (n / 4096 + offset) ∷ (n / 64 % 64 + offset) ∷ (n % 64 + offset) ∷ [])

-- the upper triangle, column by column: (0, 1), (0, 2), (1, 2), (0, 3) and on
abbrev pub triangle : ℕ → Graph → List ℕ
triangle n E = cat_to n (λ w. cat_to w (λ v. E v w ∷ []))

-- six bits from place 6 × p on as a number, high bit first; behind the last bit there are zeros
abbrev pub six_bits : List ℕ → ℕ → ℕ
six_bits x p =
    32 * get_or x (6 * p) 0 + 16 * get_or x (6 * p + 1) 0 + 8 * get_or x (6 * p + 2) 0 + 4 * get_or x (6 * p + 3) 0 + 2 * get_or x (6 * p + 4) 0
    + get_or x (6 * p + 5) 0

-- bits as bytes
abbrev pub packed : List ℕ → List ℕ
packed x = cat_to ((length x + 5) / 6) (λ p. (six_bits x p + offset) ∷ [])

-- the text of a graph on n vertices
abbrev pub graph6_text : ℕ → Graph → List ℕ
graph6_text n E = size_bytes n ++ packed (triangle n E)

-- Reading. A text reads 0 behind its end, which is no byte of a text.

-- where column w starts: behind the columns before it, of 0, 1, .., w - 1 bits. That of n is how many bits n vertices have.
unfoldable pub column_start : ℕ → ℕ
column_start w = w * (w - 1) / 2

-- the bytes that those take
abbrev pub body_length : ℕ → ℕ
body_length n = (column_start n + 5) / 6

-- those of 200 vertices, the most
abbrev pub most_bits : ℕ
most_bits = 19900

abbrev pub body_most : ℕ
body_most = 3317

-- the size that the first bytes say, and how many these are
abbrev pub is_long : List ℕ → Bool
is_long t = eqb (get_or t 0 0) most_byte

abbrev pub size_length : List ℕ → ℕ
size_length t = cond (is_long t) 4 1

abbrev pub long_size : List ℕ → ℕ
long_size t = (get_or t 1 0 - offset) * 4096 + (get_or t 2 0 - offset) * 64 + (get_or t 3 0 - offset)

abbrev pub size_of : List ℕ → ℕ
size_of t = cond (is_long t) (long_size t) (get_or t 0 0 - offset)

-- x is one of 63, .., m
abbrev pub up_to : ℕ → ℕ → Bool
up_to m x = leb offset x && leb x m

-- a size above 200 (answer 22), judged on the first two or four bytes: 126 and another 126, or three bytes of 63 to 125, 63 to 126 and 63 to 126
abbrev pub too_large : List ℕ → Bool
too_large t =
    is_long t
    && (eqb (get_or t 1 0) most_byte
    || (up_to 125 (get_or t 1 0) && up_to most_byte (get_or t 2 0) && up_to most_byte (get_or t 3 0) && ltb most_vertices (long_size t)))

-- the six bits of a number, and all bits of the body
abbrev pub bits_of : ℕ → List ℕ
bits_of x = x / 32 % 2 ∷ x / 16 % 2 ∷ x / 8 % 2 ∷ x / 4 % 2 ∷ x / 2 % 2 ∷ x % 2 ∷ []

abbrev pub unpacked : List ℕ → List ℕ
unpacked b = cat_to (length b) (λ p. bits_of (get_or b p 0 - offset))

abbrev pub body_bits : List ℕ → List ℕ
body_bits t = unpacked (drop (size_length t) t)

-- every byte is one of 63 to 126; the size is at most 200, and in its longer form only above 62; the length is what the size asks for
abbrev pub framed : List ℕ → Bool
framed t =
    all_to (length t) (λ i. up_to most_byte (get_or t i 0)) && leb (size_of t) most_vertices && (not (is_long t) || ltb short_most (size_of t))
    && eqb (length t) (size_length t + body_length (size_of t))

-- the bits behind the triangle are 0
abbrev pub zero_padded : List ℕ → Bool
zero_padded t = all_zero (drop (column_start (size_of t)) (body_bits t))

-- the texts of graphs on up to 200 vertices; the others are malformed (answer 21) or too large (22)
abbrev pub well_formed_text : List ℕ → Bool
well_formed_text t = framed t && zero_padded t

-- the bit of the pair v < w
abbrev pub bit_of : List ℕ → ℕ → ℕ → ℕ
bit_of t v w = get_or (body_bits t) (column_start w + v) 0

-- the graph of a text
abbrev pub text_graph : List ℕ → Graph
text_graph t v w = cond (ltb v w) (bit_of t v w) (cond (ltb w v) (bit_of t w v) 0)
