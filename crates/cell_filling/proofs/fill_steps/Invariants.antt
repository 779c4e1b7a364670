-- `cell_filling::fill_steps` meets its contract: after i turns i joins are made, and the cursor has passed only what is done.
use mathlib.Core.Path.{◌≡◌}
use Rattle.finite.specs.Range.{fold_to}
use Rattle.classes.specs.Inner.Block.{class_from}
use Rattle.adjacency.specs.Inner.Degrees.{degrees_of}
use Rattle.completion.specs.Inner.Cellwise.{cell_step}
use Rattle.progress.specs.Inner.Work.{ran, WroteRecords}
use Rattle.cell_filling.specs.Inner.Work.{Resumes}
use Rattle.cell_filling.proofs.fill_steps.Given as goal

abbrev pub invariant-loop : goal.invariant-loop
invariant-loop st = (ran st.adjacency st.output st.sum ≡ fold_to st.counter (λ i. cell_step st.n (class_from st.starts) st.cell.k st.cell.l) (ran st.initial.adjacency st.initial.output st.initial.sum))
    × (st.degrees ≡ degrees_of st.n st.adjacency)
    × Resumes st.n (class_from st.starts) st.adjacency st.cell st.cursor
    × WroteRecords st.initial.sum.joins st.sum.joins st.initial.output st.output
