-- The text of a completed state (document 01, "The program `replica`"), in the form asked for: lines, or one line of graph6 (document 02, P5).
-- Assumes nothing.
use Rattle.std.specs.Prelude.{◌≡◌, ◌&&◌, cond, List, [], ◌++◌, ℕ, ◌+◌, ◌*◌, ◌/◌, eqb, ltb, length}
use Rattle.finite.specs.Range.{cat_to}
use Rattle.graph.specs.Graph.{Simple, edges}
use Rattle.adjacency.specs.Adjacency.{edge}
use Rattle.state.specs.State.{State}
use Rattle.state.specs.Laid.{vertex_count}
use Rattle.completion.specs.Complete.{most_edges}
use Rattle.edge_list.specs.List.{list_bytes}
use Rattle.graph6.specs.Format.{graph6_text}
use Rattle.graph6_write.specs.Write.{write_text}
use Rattle.options.specs.declared.Form.{Form}
use Rattle.options.specs.declared.Form.TheVariants.{Lines, Graph6}
use Rattle.text.specs.Text.{newline, head_line, edge_line, edge_lines, head_most, edge_most}

-- the text of an edge list, with the N of laying out and the switches of completing: the first line, and a line for each edge; or, where graph6 is
-- asked for, one line of it
abbrev pub list_text : Form → ℕ → ℕ → List ℕ → List ℕ
list_text Lines n switches e = head_line n (length e / 2) switches ++ edge_lines e
list_text Graph6 n switches e = write_text e n ++ newline

-- the edges of a completed state
abbrev pub state_list : State → List ℕ
state_list s = list_bytes (vertex_count s) s.adjacency

-- the text of a completed state
abbrev pub state_text : Form → ℕ → ℕ → State → List ℕ
state_text form n switches s = list_text form n switches (state_list s)

-- no text is longer
abbrev pub text_most : ℕ
text_most = head_most + edge_most * most_edges

-- the line of the edge v – w, where it is one and v < w
abbrev pub edge_text : List ℕ → ℕ → ℕ → List ℕ
edge_text g v w = cond (ltb v w && eqb (edge g v w) 1) (edge_line v w) []

-- a matrix's graph on n vertices, shown: first N, its edges and the switches, then a line for each edge v – w, v < w, ascending by v then w; or one
-- line with its graph6 text
abbrev pub shown : Form → ℕ → ℕ → List ℕ → List ℕ
shown Lines n switches g = head_line n (edges n (edge g)) switches ++ cat_to n (λ v. cat_to n (edge_text g v))
shown Graph6 n switches g = graph6_text n (edge g) ++ newline

-- What is proved of the text (proofs/Shown.antt): it shows the state's graph, and nothing else.
abbrev pub StateShown : Type 0
StateShown =
    (form : Form) (switches : ℕ) (s : State) → Simple (vertex_count s) (edge s.adjacency)
    → state_text form (vertex_count s) switches s ≡ shown form (vertex_count s) switches s.adjacency
