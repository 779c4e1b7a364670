-- Worked texts of graph6 (document 02, P5), as theorems about the definitions: document 004's four edges are `CN`; the sizes at which the form
-- changes; what is refused, with its number, and in which order.
-- Assumes nothing.
use Rattle.std.specs.Prelude.{◌≡◌, List, [], ◌∷◌, ℕ, suc}
use Rattle.finite.specs.Range.{cat_to}
use Rattle.answer.specs.Numbers.{Numbers, refused, done, written_numbers, read_numbers}
use Rattle.answer.specs.Refusals.{refuse}
use Rattle.answer.specs.declared.Cause.TheVariants.{BadEdgeList, DegreeTooHigh, OutputTooShort, Graph6Text, Graph6Size}
use Rattle.jdm_of_edges.specs.Survey.{survey_answer}
use Rattle.graph6.specs.Format.{size_bytes}
use Rattle.graph6_write.specs.Write.{write_text, write_answer}
use Rattle.graph6_read.specs.Read.{read_list, read_answer}

-- the edges that document 01 lists for document 004's table, and "CN"
abbrev pub links : List ℕ
links = 0 ∷ 3 ∷ 1 ∷ 2 ∷ 1 ∷ 3 ∷ 2 ∷ 3 ∷ []

abbrev pub CN : List ℕ
CN = 67 ∷ 78 ∷ []

-- a text read with room for three edges, in numbers
abbrev pub reading : List ℕ → Numbers
reading t = read_numbers (read_answer t 6)

abbrev pub too_large : Numbers
too_large = refused (refuse Graph6Size 0 0)

abbrev pub malformed : Numbers
malformed = refused (refuse Graph6Text 0 0)

-- vertex 0 linked to each of 1, .., n
abbrev pub star : ℕ → List ℕ
star n = cat_to n (λ i. 0 ∷ suc i ∷ [])

pub record Graph6Cases : Type 0 where
  -- document 004
  pub written : write_text links 4 ≡ CN
  pub read : read_list CN ≡ links
  pub fits : read_numbers (read_answer CN 8) ≡ done 8 4
  pub short : read_numbers (read_answer CN 7) ≡ refused (refuse OutputTooShort 0 0)
  pub written_short : written_numbers (write_answer links 4 1) ≡ refused (refuse OutputTooShort 0 0)
  -- of three vertices: (0, 1) is the first bit, (0, 2) the second, (1, 2) the third
  pub columns : (write_text (0 ∷ 1 ∷ []) 3 ≡ 66 ∷ 95 ∷ []) × (write_text (0 ∷ 2 ∷ []) 3 ≡ 66 ∷ 79 ∷ []) × (write_text (1 ∷ 2 ∷ []) 3 ≡ 66 ∷ 71 ∷ [])
  -- "?" is the graph of no vertices, "@" that of one, both without a body
  pub none : (write_text [] 0 ≡ 63 ∷ []) × (reading (63 ∷ []) ≡ done 0 0)
  pub one : (write_text [] 1 ≡ 64 ∷ []) × (reading (64 ∷ []) ≡ done 0 1)
  -- one byte up to 62, four from 63 to 200
  pub sizes : (size_bytes 62 ≡ 125 ∷ []) × (size_bytes 63 ≡ 126 ∷ 63 ∷ 63 ∷ 126 ∷ []) × (size_bytes 200 ≡ 126 ∷ 63 ∷ 66 ∷ 71 ∷ [])
  -- 22, judged on the first two or four bytes, whatever follows: another 126, and 201
  pub large : (reading (126 ∷ 126 ∷ []) ≡ too_large) × (reading (126 ∷ 126 ∷ 0 ∷ []) ≡ too_large) × (reading (126 ∷ 63 ∷ 66 ∷ 72 ∷ []) ≡ too_large)
      × (reading (126 ∷ 63 ∷ 66 ∷ 72 ∷ 10 ∷ []) ≡ too_large)
  -- 21: no byte; 62 in the long form; 200 without its body; a size cut short; a byte outside 63 to 126 in a size; a padding bit; a byte too few or too
  -- many; a line end; a header
  pub bad : (reading [] ≡ malformed) × (reading (126 ∷ 63 ∷ 63 ∷ 125 ∷ []) ≡ malformed) × (reading (126 ∷ 63 ∷ 66 ∷ 71 ∷ []) ≡ malformed)
      × (reading (126 ∷ 63 ∷ 66 ∷ []) ≡ malformed) × (reading (126 ∷ 63 ∷ 66 ∷ 127 ∷ []) ≡ malformed) × (reading (62 ∷ []) ≡ malformed)
      × (reading (65 ∷ 96 ∷ []) ≡ malformed) × (reading (65 ∷ []) ≡ malformed) × (reading (65 ∷ 95 ∷ 63 ∷ []) ≡ malformed)
      × (reading (65 ∷ 95 ∷ 10 ∷ []) ≡ malformed) × (reading (62 ∷ 62 ∷ 103 ∷ 114 ∷ 97 ∷ 112 ∷ 104 ∷ 54 ∷ 60 ∷ 60 ∷ 67 ∷ 78 ∷ []) ≡ malformed)
  -- 19 before 18, with a survey's places; and a degree of 41 is written, although a survey answers 20
  pub lists : (written_numbers (write_answer links 201 0) ≡ refused (refuse BadEdgeList 0 0))
      × (written_numbers (write_answer (0 ∷ 1 ∷ 2 ∷ []) 4 0) ≡ refused (refuse BadEdgeList 1 0))
      × (written_numbers (write_answer links 3 0) ≡ refused (refuse BadEdgeList 0 0))
  pub degree_41 : (written_numbers (survey_answer (star 41) 42 1000) ≡ refused (refuse DegreeTooHigh 0 0))
      × (written_numbers (write_answer (star 41) 42 1000) ≡ done 145 0) × (read_list (write_text (star 41) 42) ≡ star 41)
