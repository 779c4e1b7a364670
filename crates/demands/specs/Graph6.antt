-- Graph6 out and in (document 02, P5): "What is written reads as the same links and total, and every text accepted is what the writer gives for
-- the links and total read from it." The text's graph is the list's; and that of a laid state's list is the state's.
-- Assumes nothing.
use Rattle.std.specs.Prelude.{◌≡◌, true, List, ℕ, ◌≤◌, ◌<◌, length, take}
use Rattle.graph.specs.Graph.{Graph, Simple, SameOn}
use Rattle.answer.specs.Numbers.{number_of}
use Rattle.answer.specs.declared.Refusal.{Refusal}
use Rattle.answer.specs.Refusals.{Go}
use Rattle.answer.specs.declared.WrittenAnswer.TheVariants.{Written, Refused}
use Rattle.answer.specs.declared.ReadAnswer.TheVariants.{Read}
use Rattle.layout.specs.Layout.{most_vertices}
use Rattle.adjacency.specs.Adjacency.{edge}
use Rattle.state.specs.State.{State}
use Rattle.state.specs.Valid.{ValidLaid}
use Rattle.state.specs.Laid.{vertex_count}
use Rattle.edge_lists.specs.EdgeList.{list_verdict, graph_of}
use Rattle.edge_list.specs.List.{list_bytes}
use Rattle.jdm_of_edges.specs.Survey.{survey_answer}
use Rattle.graph6.specs.Format.{graph6_text, size_of, well_formed_text, bit_of, text_graph}
use Rattle.graph6_write.specs.Write.{write_text, write_answer, write_output}
use Rattle.graph6_read.specs.Read.{read_answer, read_output}

-- the n bytes written to an output
abbrev pub text_in : List ℕ → ℕ → List ℕ → ℕ → List ℕ
text_in e total out n = take n (write_output (write_answer e total (length out)) e total out)

abbrev pub list_in : List ℕ → List ℕ → ℕ → List ℕ
list_in t out n = take n (read_output (read_answer t (length out)) t out)

-- a list and its total were written as the text t
pub record Wrote (e : List ℕ) (total : ℕ) (t : List ℕ) : Type 0 where
  -- the bit of v < w is the edge v – w, and the text's graph is the list's
  pub bits : (v w : ℕ) → v < w → w < total → bit_of t v w ≡ graph_of e v w
  pub graph : SameOn total (graph_of e) (text_graph t)
  -- read into an output with room it is the same edges and total
  pub read : (out : List ℕ) → length e ≤ length out → read_answer t (length out) ≡ Read (length e) total
  pub same : (out : List ℕ) → length e ≤ length out → list_in t out (length e) ≡ e

-- the text t was read as a list and its total
pub record WasRead (t e : List ℕ) (total : ℕ) : Type 0 where
  -- the list is one that the writer does not refuse, and its graph is the text's
  pub passes : list_verdict e total ≡ Go
  pub graph : SameOn total (text_graph t) (graph_of e)
  -- written to an output with room it is the text, byte for byte
  pub written : (out : List ℕ) → length t ≤ length out → write_answer e total (length out) ≡ Written (length t)
  pub same : (out : List ℕ) → length t ≤ length out → text_in e total out (length t) ≡ t

pub record Graph6 : Type 0 where
  -- the well-formed texts are those of the simple graphs on up to 200 vertices, each the text of its own graph
  pub text_of_graph : (n : ℕ) (E : Graph) → n ≤ most_vertices → Simple n E → well_formed_text (graph6_text n E) ≡ true
  pub graph_of_text : (t : List ℕ) → well_formed_text t ≡ true →
      (size_of t ≤ most_vertices) × Simple (size_of t) (text_graph t) × (graph6_text (size_of t) (text_graph t) ≡ t)
  pub wrote : (e : List ℕ) (total : ℕ) (out : List ℕ) (n : ℕ) → write_answer e total (length out) ≡ Written n → Wrote e total (text_in e total out n)
  pub was_read : (t out : List ℕ) (n total : ℕ) → read_answer t (length out) ≡ Read n total → WasRead t (list_in t out n) total
  -- 19 exactly where a survey gives 19, with its places, whatever room the two are lent
  pub refused_as_survey : (e : List ℕ) (total m k : ℕ) (r : Refusal) → number_of r.cause ≡ 19 →
      write_answer e total m ≡ Refused r → survey_answer e total k ≡ Refused r
  pub survey_as_refused : (e : List ℕ) (total m k : ℕ) (r : Refusal) → number_of r.cause ≡ 19 →
      survey_answer e total k ≡ Refused r → write_answer e total m ≡ Refused r
  -- the list of a valid laid state, written with its N, is the text of the state's graph, and only a short output is refused
  pub laid : (s : State) → ValidLaid s →
      let n = vertex_count s in
      let e = list_bytes n s.adjacency in
      (write_text e n ≡ graph6_text n (edge s.adjacency)) × SameOn n (edge s.adjacency) (text_graph (write_text e n))
      × ((m : ℕ) → length (write_text e n) ≤ m → write_answer e n m ≡ Written (length (write_text e n)))
