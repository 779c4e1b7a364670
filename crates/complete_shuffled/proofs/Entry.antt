-- The work on a valid laid state: the arrays of its check let it begin, and what it ends in is the state completed from x on.
-- Assumes nothing.
use mathlib.Core.Path.{◌≡◌, refl, sym, ap, ap₂, ◌∙◌}
use mathlib.Core.List.{List}
use Prim.Native.Nat.{ℕ, ◌*◌, ◌≤◌}
use native.Mathlib.Omega.{arith}
use lib.ListN.{length, get_or, take, replicate, length-replicate}
use Rattle.finite.proofs.Fold.{fill_to-at}
use Rattle.answer.specs.declared.ShuffleAnswer.TheVariants.{Completed}
use Rattle.answer.specs.Refusals.{Go}
use Rattle.graph.specs.Graph.{DegreeTable}
use Rattle.graph.specs.Tests.{vertices, vertex_class}
use Rattle.table.specs.Inner.Cells.{matrix_of}
use Rattle.layout.specs.Layout.{most_vertices}
use Rattle.layout.specs.Inner.Arrays.{count_in, table_in, classes_of}
use Rattle.journal.specs.Journal.{phase_laid}
use Rattle.state.specs.State.{State}
use Rattle.state.specs.Checks.{phase_verdict}
use Rattle.state.specs.Inner.Opened.{Opened}
use Rattle.classes.specs.Inner.Block.{starts_of, class_from}
use Rattle.classes.proofs.Blocks.{table_classes}
use Rattle.join_records.specs.Record.{join_record_size}
use Rattle.completion.specs.Complete.{fresh, most_edges, missing, ran_laid, output_ran}
use Rattle.completion.specs.Inner.Laid.{adjacency_ran}
use Rattle.progress.specs.Inner.Work.{Working, Started, WroteRecords}
use Rattle.progress.specs.declared.Start.{Start}
use Rattle.progress.proofs.Whole.{vertices-few, wanted-enough, missing-is, lacks_missing, lacks_few, working_start, joins_few, work_done}
use Rattle.shuffled_completion.specs.Shuffle.{Shuffled, run_shuffled, shuffled, with_x}
use Rattle.tracking.specs.Inner.Track.{ClassArray}
use Rattle.complete_shuffled.specs.Inner.Work.{Lacks, begins}
use Rattle.shuffled_completion.proofs.Works.{shuffled-works}
use Rattle.state.proofs.Checks.{laid-passed}

module _ (s : State) {cells counts degrees : List ℕ} (passed : phase_verdict phase_laid s ≡ Go) (o : Opened s cells counts degrees)
    {b : Start} (u : Started cells counts degrees b) {starts : List ℕ} (es : starts ≡ starts_of counts) where
  abbrev t : DegreeTable
  t = table_in cells (count_in counts 0)

  abbrev g : List ℕ
  g = s.adjacency

  pub begin_working : (room : ℕ) → join_record_size * missing s ≤ room → Working b.n cells starts degrees room (fresh s.adjacency)
  begin_working = working_start s passed o u.total es

  pub begin_classes : {classes : List ℕ} → classes ≡ classes_of (table_in cells (count_in counts 0)) → ClassArray b.n starts classes
  begin_classes ec v vn =
      ap (λ (l : List ℕ). get_or l v 0) ec
      ∙ fill_to-at (vertex_class t) (replicate most_vertices 0) (vertices t) v (rw length-replicate (vertices-few s passed o)) (omega (arith, u.total))
      ∙ ap (λ (cls : ℕ → ℕ). cls v) (sym (table_classes cells o.counted es))

  pub begin_lacks : Lacks b.n cells s.adjacency b.missing
  begin_lacks = (
    omega (arith, lacks_missing s passed o u, missing-is s passed o u.total refl refl, wanted-enough s passed o u.total refl refl),
    lacks_few s passed o u,
  )

  module _ (x : ℕ) {r : Shuffled} (e : r ≡ run_shuffled most_edges b.n (class_from starts) (matrix_of cells) (begins s.adjacency x)) where
    shuffled-is : r ≡ shuffled s x
    shuffled-is =
        e
        ∙ ap₂ (λ (m : ℕ) (cls : ℕ → ℕ). run_shuffled most_edges m cls (matrix_of cells) (begins g x)) u.total (table_classes cells o.counted es)
        ∙ ap (λ (d : DegreeTable). run_shuffled most_edges (vertices d) (vertex_class d) d.cells (begins g x)) o.said

    ran-is : r.ran ≡ (shuffled s x).ran
    ran-is = ap (λ (y : Shuffled). y.ran) shuffled-is

    pub end_few : r.ran.joins ≤ most_edges
    end_few = joins_few s (laid-passed s passed) (shuffled-works s x (laid-passed s passed)) ran-is

    -- the records stand at the start of the output out'
    pub end_done : (out out' : List ℕ) → join_record_size * missing s ≤ length out → WroteRecords 0 r.ran.joins out out'
        → take (join_record_size * r.ran.joins) out' ≡ r.ran.records
        → (Completed r.ran.joins r.ran.switches (join_record_size * r.ran.joins) r.x
        ≡ with_x (shuffled s x).x (ran_laid (shuffled s x).ran s (length out)))
        × ((r.ran.adjacency ≡ adjacency_ran (ran_laid (shuffled s x).ran s (length out)) (shuffled s x).ran s.adjacency)
        × (out' ≡ output_ran (ran_laid (shuffled s x).ran s (length out)) (shuffled s x).ran out))
    end_done out out' fits wrote records =
        let done = work_done s (laid-passed s passed) (shuffled-works s x (laid-passed s passed)) ran-is out out' fits wrote records in (
          ap (λ (y : ℕ). Completed r.ran.joins r.ran.switches (join_record_size * r.ran.joins) y) (ap (λ (y : Shuffled). y.x) shuffled-is)
              ∙ ap (with_x (shuffled s x).x) done.0,
          done.1,
        )
