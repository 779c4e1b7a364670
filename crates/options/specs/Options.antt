-- What the program's arguments ask for (document 02, P5 and P7): with none, the lines, and the lowest pair joined next; `--graph6`, one line of graph6;
-- `--shuffle X`, the pairs that x picks, from the number X on; both, in either order. Anything else is answered by a usage line.
-- Assumes nothing.
use Rattle.std.specs.Prelude.{Option, Some, None, Bool, ◌&&◌, cond, List, [], ◌∷◌, ℕ, ◌+◌, ◌-◌, ◌*◌, leb, ltb, length, get_or}
use Rattle.finite.specs.Range.{all_to, fold_to}
use Rattle.answer.specs.declared.Choice.{Choice}
use Rattle.answer.specs.declared.Choice.TheVariants.{Lowest, Picked}
use Rattle.slices.specs.Slices.{equal_bytes}
use Rattle.options.specs.declared.Form.{Form}
use Rattle.options.specs.declared.Form.TheVariants.{Lines, Graph6}
use Rattle.options.specs.declared.Request.{Request}

-- "--graph6"
abbrev pub graph6_word : List ℕ
graph6_word = 45 ∷ 45 ∷ 103 ∷ 114 ∷ 97 ∷ 112 ∷ 104 ∷ 54 ∷ []

-- "--shuffle"
abbrev pub shuffle_word : List ℕ
shuffle_word = 45 ∷ 45 ∷ 115 ∷ 104 ∷ 117 ∷ 102 ∷ 102 ∷ 108 ∷ 101 ∷ []

-- "0" to "9"
abbrev pub is_digit : ℕ → Bool
is_digit b = leb 48 b && leb b 57

-- x with the word's digit i behind it
abbrev pub with_digit : List ℕ → ℕ → ℕ → ℕ
with_digit word i x = x * 10 + (get_or word i 0 - 48)

-- the number that a word of digits says
abbrev pub value_of : List ℕ → ℕ
value_of word = fold_to (length word) (with_digit word) 0

-- numbers are below 2^32
abbrev pub number_end : ℕ
number_end = 4294967296

-- one digit or more, nothing else, and the number is small enough; zeros may stand before it
abbrev pub is_number : List ℕ → Bool
is_number word = leb 1 (length word) && all_to (length word) (λ i. is_digit (get_or word i 0)) && ltb (value_of word) number_end

abbrev pub word_number : List ℕ → Option ℕ
word_number word = cond (is_number word) (Some (value_of word)) None

-- a form and a choice of the pairs
abbrev pub show : Form → Choice → Option Request
show form choice = Some (record { form = form; choice = choice })

-- the form, shuffled from the word's number on
abbrev pub shuffled_by : Form → Option ℕ → Option Request
shuffled_by form (Some x) = show form (Picked x)
shuffled_by form None = None

-- `--graph6`
abbrev pub one_word : List ℕ → Option Request
one_word first = cond (equal_bytes first graph6_word) (show Graph6 Lowest) None

-- `--shuffle X`
abbrev pub two_words : List ℕ → List ℕ → Option Request
two_words first second = cond (equal_bytes first shuffle_word) (shuffled_by Lines (word_number second)) None

-- both, in either order
abbrev pub three_words : List ℕ → List ℕ → List ℕ → Option Request
three_words first second third =
    cond (equal_bytes first graph6_word && equal_bytes second shuffle_word) (shuffled_by Graph6 (word_number third))
    (cond (equal_bytes first shuffle_word && equal_bytes third graph6_word) (shuffled_by Graph6 (word_number second)) None)

-- of the words behind the program's name
abbrev pub request_of : List (List ℕ) → Option Request
request_of [] = show Lines Lowest
request_of (first ∷ []) = one_word first
request_of (first ∷ second ∷ []) = two_words first second
request_of (first ∷ second ∷ third ∷ []) = three_words first second third
request_of (first ∷ second ∷ third ∷ fourth ∷ rest) = None
