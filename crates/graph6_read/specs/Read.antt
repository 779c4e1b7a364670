-- Reading a graph6 text into an edge list and its total of vertices (document 02, P5).
-- Assumes nothing.
use Rattle.std.specs.Prelude.{not, List, ℕ, length}
use Rattle.std.proofs.lemmas.List.Edits.{sets}
use Rattle.answer.specs.Refusals.{refuse, unless, unless_too_short}
use Rattle.answer.specs.declared.Cause.TheVariants.{Graph6Text, Graph6Size}
use Rattle.answer.specs.declared.ReadAnswer.{ReadAnswer}
use Rattle.answer.specs.declared.ReadAnswer.TheVariants.{Read, Refused}
use Rattle.edge_lists.specs.EdgeList.{list_of}
use Rattle.graph6.specs.Format.{size_of, too_large, well_formed_text, text_graph}

-- the list of the edges of the text's graph, ascending by v then w, although the text goes by w then v
abbrev pub read_list : List ℕ → List ℕ
read_list t = list_of (size_of t) (text_graph t)

-- of a well-formed text, for an output of n bytes: the check 18
abbrev pub read_fits : List ℕ → ℕ → ReadAnswer
read_fits t n =
    unless_too_short (length (read_list t)) n Refused (Read (length (read_list t)) (size_of t))

-- the checks 22, 21, 18
abbrev pub read_answer : List ℕ → ℕ → ReadAnswer
read_answer t n =
    unless (not (too_large t)) (Refused (refuse Graph6Size 0 0))
    (unless (well_formed_text t) (Refused (refuse Graph6Text 0 0)) (read_fits t n))

-- the output afterwards: the list, and behind it what was there
abbrev pub read_output : ReadAnswer → List ℕ → List ℕ → List ℕ
read_output (Read n total) t out = sets out 0 (read_list t)
read_output (Refused r) t out = out
