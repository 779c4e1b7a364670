-- The bits of a text in an array, one byte each, and a row of them.
-- Assumes nothing.
use Rattle.std.specs.Prelude.{◌≡◌, List, ℕ, ◌+◌, ◌*◌, ◌<◌, get_or, replicate}
use Rattle.std.proofs.lemmas.List.Edits.{sets}
use Rattle.graph.specs.Graph.{Graph}
use Rattle.answer.specs.Refusals.{refuse, unless}
use Rattle.answer.specs.declared.Cause.TheVariants.{Graph6Text}
use Rattle.answer.specs.declared.ReadAnswer.{ReadAnswer}
use Rattle.answer.specs.declared.ReadAnswer.TheVariants.{Refused}
use Rattle.graph6.specs.Format.{column_start, body_most, body_bits, zero_padded}
use Rattle.graph6_read.specs.Read.{read_fits}

-- the most bits of a body, the padding among them
abbrev pub bits_most : ℕ
bits_most = 6 * body_most

-- the bits of a text, and zeros behind them
abbrev pub bits_in : List ℕ → List ℕ
bits_in t = sets (replicate bits_most 0) 0 (body_bits t)

-- the graph of these bits, at v < w
abbrev pub rows_of : List ℕ → Graph
rows_of bits v w = get_or bits (column_start w + v) 0

-- the row of v among n vertices, read from the columns of the vertices behind it
abbrev pub HasRow : List ℕ → ℕ → ℕ → List ℕ → Type 0
HasRow bits n v row = (w : ℕ) → v < w → w < n → get_or row w 0 ≡ rows_of bits v w

-- of a text with the right frame, for an output of n bytes: the padding, then the check 18
abbrev pub read_framed : List ℕ → ℕ → ReadAnswer
read_framed t n = unless (zero_padded t) (Refused (refuse Graph6Text 0 0)) (read_fits t n)
