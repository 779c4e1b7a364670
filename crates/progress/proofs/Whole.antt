-- The work on a valid laid state: the arrays of its check let it begin, and what it ends in is the state completed.
-- Assumes nothing.
use mathlib.Core.Path.{◌≡◌, refl, sym, ap, ap₂, subst, ◌∙◌}
use mathlib.Core.List.{List}
use Prim.Native.Nat.{ℕ, ◌-◌, ◌*◌, ◌≤◌}
use native.Mathlib.Omega.{arith}
use lib.ListN.{length, take}
use lib.Seq.{sets}
use Rattle.answer.specs.declared.CompleteAnswer.TheVariants.{Completed}
use Rattle.answer.specs.Refusals.{Go}
use Rattle.graph.specs.Graph.{DegreeTable, edges}
use Rattle.graph.specs.Theorems.{all_cells}
use Rattle.graph.specs.Numbering.{total}
use Rattle.graph.specs.Tests.{most_classes, vertices, vertex_class}
use Rattle.table.specs.Inner.Cells.{matrix_of}
use Rattle.layout.specs.Layout.{most_vertices, wanted}
use Rattle.layout.specs.Inner.Arrays.{count_in, table_in}
use Rattle.layout.proofs.Counted.{counted-total}
use Rattle.journal.specs.Journal.{phase_laid}
use Rattle.adjacency.specs.Adjacency.{edge}
use Rattle.adjacency.specs.Inner.Degrees.{degrees_of}
use Rattle.adjacency.specs.Clauses.{ZeroOutside}
use Rattle.state.specs.State.{State}
use Rattle.state.specs.Checks.{phase_verdict}
use Rattle.state.specs.Inner.Opened.{Opened}
use Rattle.state.proofs.Facts.{StateFacts, Laid}
use Rattle.state.proofs.Checks.{phase-facts}
use Rattle.state.proofs.Opened.{opened_edges}
use Rattle.classes.specs.Inner.Block.{starts_of, class_from}
use Rattle.classes.proofs.Blocks.{table_numbered, table_classes}
use Rattle.join_records.specs.Record.{join_record_size}
use Rattle.completion.specs.Complete.{Ran, fresh, run, most_edges, completed, missing, ran_laid, output_ran}
use Rattle.completion.specs.Inner.Cellwise.{Filling, fill_all}
use Rattle.completion.specs.Inner.Laid.{adjacency_ran}
use Rattle.progress.specs.Inner.Work.{WroteRecords, Working, Started}
use Rattle.progress.specs.declared.Start.{Start}
use Rattle.completion.proofs.Cellwise.{edges-within, fill-all}
use Rattle.progress.proofs.Output.{wrote_all}
use Rattle.completion.proofs.Works.{few_edges, completes}
use Rattle.completion.proofs.Entry.{CompleteWorks, laid-roomy, missing-most}
use Rattle.state.specs.Valid.{ValidLaid}

module _ (s : State) {cells counts degrees : List ℕ} (passed : phase_verdict phase_laid s ≡ Go) (o : Opened s cells counts degrees) where
  abbrev t : DegreeTable
  t = table_in cells (count_in counts 0)

  abbrev g : List ℕ
  g = s.adjacency

  facts : StateFacts s
  facts = (phase-facts phase_laid s passed).0

  pub laid : Laid s
  laid = facts.laid (phase-facts phase_laid s passed).1

  pub vertices-few : vertices t ≤ most_vertices
  vertices-few = subst (λ (u : DegreeTable). vertices u ≤ most_vertices) (sym o.said) laid.vertices-le

  pub total-few : total most_classes (count_in counts) ≤ most_vertices
  total-few = rw (counted-total cells counts o.counted) vertices-few

  outside : ZeroOutside (vertices t) g
  outside = subst (λ (u : DegreeTable). ZeroOutside (vertices u) g) (sym o.said) laid.outside

  filling : Filling (vertices t) (vertex_class t) t.cells g
  filling =
      subst (λ (u : DegreeTable). Filling (vertices u) (vertex_class u) u.cells g) (sym o.said)
      (record { sized = facts.adjacency_length; few = laid.vertices-le; target = laid.target; partial = laid.partial })

  -- the cells' sum is twice the edges wanted
  cells-sum : all_cells most_classes t.cells ≡ 2 * wanted t.cells
  cells-sum = omega (arith, (completes (vertices t) (vertex_class t) t.cells g filling outside).missing)

  -- the missing edges, as the code counts them
  module _ {n w e : ℕ} (en : n ≡ vertices t) (ew : w ≡ wanted (matrix_of cells)) (ee : e ≡ edges n (edge g)) where
    laid-edges : e ≡ edges (vertices t) (edge g)
    laid-edges = ee ∙ ap (λ (m : ℕ). edges m (edge g)) en

    pub wanted-enough : e ≤ w
    wanted-enough = omega (arith, laid-edges, cells-sum, edges-within (vertices t) (vertex_class t) t.cells g filling)

    pub wanted-most : w ≤ most_edges
    wanted-most = omega (arith, cells-sum, few_edges (vertices t) (vertex_class t) t.cells filling.target filling.few)

    pub missing-is : w - e ≡ missing s
    missing-is = ap₂ ◌-◌ ew laid-edges ∙ ap (λ (u : DegreeTable). wanted u.cells - edges (vertices u) (edge g)) o.said

  module _ {b : Start} (u : Started cells counts degrees b) where
    pub lacks_missing : b.missing ≡ missing s
    lacks_missing = u.lacks ∙ missing-is u.total refl (opened_edges s o laid u.total refl)

    pub lacks_few : b.missing ≤ most_edges
    lacks_few = omega (arith, u.lacks, wanted-most u.total refl refl)

  module _ {n : ℕ} {starts : List ℕ} (en : n ≡ vertices t) (es : starts ≡ starts_of counts) where
    classed-filling : Filling n (class_from starts) (matrix_of cells) g
    classed-filling = rw (en, table_classes cells o.counted es) filling

    pub working_start : (room : ℕ) → join_record_size * missing s ≤ room → Working n cells starts degrees room (fresh g)
    working_start room fits =
        record {
          arranged = record { few = omega (arith, vertices-few); numbered = rw en (table_numbered cells o.counted es) };
          is_valid =
              record {
                filling = classed-filling;
                joins_le = omega arith;
                switches_le = omega arith;
                records_fit = omega (arith, fits, cells-sum, missing-is en refl refl, wanted-enough en refl refl);
              };
          degrees_right = o.degrees_right ∙ ap (λ (m : ℕ). degrees_of m g) (sym (en ∙ ap vertices o.said));
        }

    pub working_end : (r : Ran) → r ≡ fill_all n (class_from starts) (matrix_of cells) (fresh g) → r ≡ completed s
    working_end r e =
        e
        ∙ sym (fill-all n (class_from starts) (matrix_of cells) most_edges (fresh g) refl
        (few_edges n (class_from starts) (matrix_of cells) classed-filling.target classed-filling.few) classed-filling)
        ∙ ap₂ (λ (m : ℕ) (cls : ℕ → ℕ). run most_edges m cls (matrix_of cells) (fresh g)) en (table_classes cells o.counted es)
        ∙ ap (λ (u : DegreeTable). run most_edges (vertices u) (vertex_class u) u.cells (fresh g)) o.said

-- the work done, in the run r; q is what it was to end in
module _ (s : State) (facts : ValidLaid s) {q : Ran} (works : CompleteWorks s q) {r : Ran} (e : r ≡ q) where
  made : r.joins ≡ missing s
  made = ap (λ (x : Ran). x.joins) e ∙ works.made

  pub joins_few : r.joins ≤ most_edges
  joins_few = omega (arith, made, missing-most s facts)

  -- its records stand at the start of the output out'
  pub work_done : (out out' : List ℕ) → join_record_size * missing s ≤ length out → WroteRecords 0 r.joins out out'
      → take (join_record_size * r.joins) out' ≡ r.records
      → (Completed r.joins r.switches (join_record_size * r.joins) ≡ ran_laid q s (length out))
      × ((r.adjacency ≡ adjacency_ran (ran_laid q s (length out)) q s.adjacency)
      × (out' ≡ output_ran (ran_laid q s (length out)) q out))
  work_done out out' fits recorded records =
      let whole = wrote_all r.joins out out' r.records recorded (omega (arith, made, fits)) records in
      rw (laid-roomy s q (length out) fits) (
        ap (Completed r.joins r.switches) whole.1 ∙ ap (λ (x : Ran). Completed x.joins x.switches (length x.records)) e,
        (
          ap (λ (x : Ran). x.adjacency) e,
          whole.0 ∙ ap (λ (x : Ran). sets out 0 x.records) e,
        ),
      )
