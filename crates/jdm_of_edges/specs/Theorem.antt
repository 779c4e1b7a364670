-- What is proved of a survey (demand 2, its second half): it writes exactly the degree table of the list and its total.
-- The proof, `survey-exact`, stands in proofs/Survey.antt.
-- Assumes nothing.
use Rattle.std.specs.Prelude.{◌≡◌, true, List, ◌⊎◌, ℕ, ◌*◌, ◌%◌, ◌≤◌, ◌<◌, length, get_or, take, drop}
use Rattle.graph.specs.Graph.{Simple, edges, own_jdm, isolated}
use Rattle.graph.specs.Tests.{Table}
use Rattle.answer.specs.declared.WrittenAnswer.TheVariants.{Written}
use Rattle.table.specs.Block.{record_size, records, record_k, record_l, record_count, good_record, block_cell, block_isolated}
use Rattle.layout.specs.Layout.{most_vertices}
use Rattle.edge_lists.specs.EdgeList.{listed, first_bad_edge, graph_of}
use Rattle.jdm_of_edges.specs.Survey.{survey_records, survey_answer, survey_output}

-- bytes of whole records: each one good, with a count that is not 0, ascending by k and then l, so that no pair comes twice
pub record Ascending (b : List ℕ) : Type 0 where
  pub bytes : (p : ℕ) → get_or b p 0 < 256
  pub whole : length b ≡ record_size * records b
  pub good : (i : ℕ) → i < records b → good_record b i ≡ true
  pub counted : (i : ℕ) → i < records b → 0 < record_count b i
  pub rising : (i j : ℕ) → i < j → j < records b
      → (record_k b i < record_k b j) ⊎ ((record_k b i ≡ record_k b j) × (record_l b i < record_l b j))

-- the list e on a total of vertices, and the output after n bytes were written to it
pub record Surveyed (e : List ℕ) (total : ℕ) (out : List ℕ) (n : ℕ) (after : List ℕ) : Type 0 where
  -- the list is whole, well-formed edges among at most 200 vertices, and no edge comes twice
  pub few : total ≤ most_vertices
  pub even : length e % 2 ≡ 0
  pub well-formed : first_bad_edge e total ≡ listed e
  pub simple : Simple total (graph_of e)
  pub edge_count : edges total (graph_of e) ≡ listed e
  -- its matrix, equation (1) at its own degrees, is symmetric and 0 at degree 0 and above 40
  pub table : Table (own_jdm total (graph_of e))
  -- the n bytes are the records of the table, and the bytes behind them are as they were
  pub fits : n ≤ length out
  pub written : take n after ≡ survey_records e total
  pub behind : drop n after ≡ drop n out
  -- the records read back are the matrix in every cell, and the vertices that are in no edge
  pub ascending : Ascending (take n after)
  pub exact : (k l : ℕ) → block_cell (take n after) k l ≡ own_jdm total (graph_of e) k l
  pub exact_isolated : block_isolated (take n after) ≡ isolated total (graph_of e)

abbrev pub SurveyExact : Type 0
SurveyExact =
    (e : List ℕ) (total : ℕ) (out : List ℕ) (n : ℕ) → survey_answer e total (length out) ≡ Written n →
    Surveyed e total out n (survey_output (survey_answer e total (length out)) e total out)
