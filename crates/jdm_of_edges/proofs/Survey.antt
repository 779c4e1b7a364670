-- The outcomes of a survey, and that it writes exactly the degree table of its list and total.
-- Assumes nothing.
use mathlib.Core.Path.{◌≡◌}
use mathlib.Core.List.{List}
use Prim.Native.Nat.{ℕ, ◌≤◌, ◌<◌}
use native.Mathlib.Omega.{arith}
use lib.ListN.{length, take, replicate, length-replicate}
use lib.Seq.{sets}
use lib.Dec.{eqb, leb}
use borrow.Author.Tests.{eqb-true, leb-true}
use Rattle.answer.proofs.Checks.{unless_passed, unless_stopped_passed, refused-not_written, written-length}
use Rattle.answer.specs.declared.WrittenAnswer.TheVariants.{Written, Refused}
use Rattle.graph.specs.Graph.{degree, own_jdm, isolated, own_table}
use Rattle.graph.specs.Tests.{most_classes, Table}
use Rattle.graph.proofs.Matrix.{jdm-none, jdm-isolated}
use Rattle.graph.proofs.Necessary.{necessary_always}
use Rattle.slices.proofs.Part.{take-sets, drop-sets}
use Rattle.layout.specs.Layout.{most_vertices}
use Rattle.layout.specs.Inner.Arrays.{table_in}
use Rattle.edge_lists.specs.EdgeList.{listed, first_bad_edge, list_verdict, graph_of}
use Rattle.edge_lists.proofs.List.{Passed, verdict_passed, list-simple, edges-to}
use Rattle.table_records.specs.Records.{records_of}
use Rattle.table_records.specs.Inner.Bounds.{records_most}
use Rattle.table_records.proofs.Records.{records-cong, records-whole, records-shown, records-rise}
use Rattle.table_records.proofs.ReadBack.{records-bytes, records-good, records-exact, records-isolated}
use Rattle.degree_counts.specs.Above.{first_above}
use Rattle.degree_counts.proofs.Degrees.{degree-low, class_most}
use Rattle.cell_counts.specs.Inner.Cells.{HasCells}
use Rattle.cell_counts.proofs.Cells.{jdm-most, few_edges}
use Rattle.jdm_of_edges.specs.Survey.{survey_records, survey_listed, survey_answer}
use Rattle.jdm_of_edges.specs.Theorem.{Ascending, SurveyExact}

-- what the code counts has the records of the list's own table
pub own-records : (e : List ℕ) (total z : ℕ) (c : List ℕ) → z ≡ isolated total (graph_of e) → HasCells c total (degree total (graph_of e)) (graph_of e)
    → records_of (table_in c z) ≡ survey_records e total
own-records e total z c i h = records-cong (table_in c z) (own_table total (graph_of e)) i h

-- and those stand at the start of the bytes where the code writes them
pub records-written : (e : List ℕ) (total n : ℕ) → n ≡ length (survey_records e total) → n ≤ records_most
    → take n (sets (replicate records_most 0) 0 (survey_records e total)) ≡ survey_records e total
records-written e total n size fits =
    let zeros : List ℕ = replicate records_most 0 in
    rw size (take-sets zeros (survey_records e total) (rw (length-replicate {A = ℕ} records_most 0, ← size) fits))

-- The matrix of a list that is not refused is a table, and each count fits 16 bits.
module _ (e : List ℕ) (total : ℕ) (few : total ≤ most_vertices) (well : first_bad_edge e total ≡ listed e) (low : first_above e total ≡ total) where
  degree-below : (v : ℕ) → v < total → degree total (graph_of e) v < most_classes
  degree-below v h = omega (arith, degree-low e total well low v h)

  pub own-table : Table (own_jdm total (graph_of e))
  own-table =
      record {
        symmetric = (necessary_always total most_classes (degree total (graph_of e)) (graph_of e) (list-simple e total well) degree-below).symmetric;
        none_of_0 = λ l. jdm-isolated total (graph_of e) l;
        none_above = λ k l h. jdm-none total (degree total (graph_of e)) (graph_of e) k l (λ v p q. omega (arith, degree-low e total well low v p));
      }

  own-small : (k l : ℕ) → own_jdm total (graph_of e) k l < 65536
  own-small k l =
      omega (arith, jdm-most e total well (degree total (graph_of e)) k l (listed e) (omega arith), few_edges e total well low few)

  isolated-small : isolated total (graph_of e) < 65536
  isolated-small = omega (arith, class_most total (degree total (graph_of e)) 0)

  own-ascending : Ascending (survey_records e total)
  own-ascending =
      let t = own_table total (graph_of e) in
      record {
        bytes = records-bytes t isolated-small own-small;
        whole = records-whole t own-table;
        good = records-good t own-table;
        counted = λ i h. (records-shown t own-table i h).counted;
        rising = records-rise t own-table;
      }

-- what a survey that writes may go by
pub record Writes (e : List ℕ) (total m n : ℕ) : Type 0 where
  pub passed : Passed e total
  pub low : first_above e total ≡ total
  pub size : n ≡ length (survey_records e total)
  pub fits : n ≤ m

pub survey-writes : (e : List ℕ) (total m n : ℕ) → survey_answer e total m ≡ Written n → Writes e total m n
survey-writes e total m n h =
    let a = unless_stopped_passed (list_verdict e total) Refused (survey_listed e total m) (Written n) (λ r. refused-not_written r n) h in
    let b = unless_passed (eqb (first_above e total) total) _ _ (Written n) (refused-not_written _ n) a.1 in
    let c = unless_passed (leb (length (survey_records e total)) m) _ _ (Written n) (refused-not_written _ n) b.1 in
    let size = written-length (length (survey_records e total)) n c.1 in
    record {
      passed = verdict_passed e total a.0;
      low = eqb-true (first_above e total) total b.0;
      size = size;
      fits = rw size (leb-true (length (survey_records e total)) m c.0);
    }

pub survey-exact : SurveyExact
survey-exact e total out n h =
    let w = survey-writes e total (length out) n h in
    let t = own_table total (graph_of e) in
    let l : length (survey_records e total) ≤ length out = omega arith in
    let written : take n (sets out 0 (survey_records e total)) ≡ survey_records e total = rw w.size (take-sets out (survey_records e total) l) in
    let table = own-table e total w.passed.few w.passed.well w.low in
    rw h
    (record {
      few = w.passed.few;
      even = w.passed.even;
      well-formed = w.passed.well;
      simple = list-simple e total w.passed.well;
      edge_count = edges-to e total w.passed.well (listed e) (omega arith);
      table = table;
      fits = w.fits;
      written = written;
      behind = rw w.size (drop-sets out (survey_records e total) l);
      ascending = rw written (own-ascending e total w.passed.few w.passed.well w.low);
      exact = rw written (records-exact t table);
      exact_isolated = rw written (records-isolated t table);
    })
