-- What the program prints (document 01, "The program `replica`"), as bytes.
-- Assumes nothing.
use Rattle.std.specs.Prelude.{List, [], ◌∷◌, ◌++◌, ℕ, ◌+◌, ◌*◌, ◌/◌, ◌^◌, ltb, length, get_or}
use Rattle.io.specs.Digits.{last_digits}
use Rattle.finite.specs.Range.{lowest, cat_to}
use Rattle.answer.specs.Numbers.{number_of}
use Rattle.answer.specs.declared.Refusal.{Refusal}

-- a number below 10^20, as every 64-bit number is: its digits, the fewest that hold it, at least one
abbrev pub decimal_most : ℕ
decimal_most = 20

abbrev pub decimal : ℕ → List ℕ
decimal n = last_digits 10 (lowest 1 decimal_most (λ k. ltb n (10 ^ k))) n

-- " "
abbrev pub space : List ℕ
space = 32 ∷ []

-- every line ends with one newline
abbrev pub newline : List ℕ
newline = 10 ∷ []

-- "refused "
abbrev pub refused_word : List ℕ
refused_word = 114 ∷ 101 ∷ 102 ∷ 117 ∷ 115 ∷ 101 ∷ 100 ∷ 32 ∷ []

-- "boards "
abbrev pub boards_word : List ℕ
boards_word = 98 ∷ 111 ∷ 97 ∷ 114 ∷ 100 ∷ 115 ∷ 32 ∷ []

-- " links "
abbrev pub links_word : List ℕ
links_word = 32 ∷ 108 ∷ 105 ∷ 110 ∷ 107 ∷ 115 ∷ 32 ∷ []

-- " switches "
abbrev pub switches_word : List ℕ
switches_word = 32 ∷ 115 ∷ 119 ∷ 105 ∷ 116 ∷ 99 ∷ 104 ∷ 101 ∷ 115 ∷ 32 ∷ []

-- a word and the number behind it
abbrev pub field : List ℕ → ℕ → List ℕ
field word n = word ++ decimal n

-- "On a refusal it prints only `refused`, number and both places, as `refused 11 2 2`."
abbrev pub refused_line : Refusal → List ℕ
refused_line r = field refused_word (number_of r.cause) ++ field space r.first ++ field space r.second ++ newline

-- "The first line gives N, the links laid and the switches finish made": boards 4 links 4 switches 0
abbrev pub head_line : ℕ → ℕ → ℕ → List ℕ
head_line n links switches = field boards_word n ++ field links_word links ++ field switches_word switches ++ newline

-- "each later line is a link": 0 3
abbrev pub edge_line : ℕ → ℕ → List ℕ
edge_line v w = decimal v ++ field space w ++ newline

-- "in list order": the lines of an edge list of 2 bytes an edge
abbrev pub edge_line_at : List ℕ → ℕ → List ℕ
edge_line_at e i = edge_line (get_or e (2 * i) 0) (get_or e (2 * i + 1) 0)

abbrev pub edge_lines : List ℕ → List ℕ
edge_lines e = cat_to (length e / 2) (edge_line_at e)

-- the most bytes of a refusal or a first line, 85: its words and three numbers
abbrev pub head_most : ℕ
head_most = length (boards_word ++ links_word ++ switches_word ++ newline) + 3 * decimal_most

-- the most bytes of the line of two vertices below 1,000, 8
abbrev pub edge_most : ℕ
edge_most = 2 * (3 + length newline)
