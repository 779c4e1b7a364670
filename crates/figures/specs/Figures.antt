-- Figures (document 01): phase, blocks, N, edges wanted, edges laid; the last three are 0 while blocks are taken.
-- Assumes nothing.
use Rattle.std.specs.Prelude.{Bool, true, false, eqb}
use Rattle.answer.specs.Refusals.{unless_stopped}
use Rattle.answer.specs.declared.Figures.{Figures}
use Rattle.answer.specs.declared.FiguresAnswer.{FiguresAnswer}
use Rattle.answer.specs.declared.FiguresAnswer.TheVariants.{Reported, Refused}
use Rattle.graph.specs.Graph.{edges}
use Rattle.layout.specs.Layout.{wanted}
use Rattle.journal.specs.Journal.{phase_taking, phase_laid, phase, blocks, jdm_of}
use Rattle.adjacency.specs.Adjacency.{edge}
use Rattle.state.specs.State.{State}
use Rattle.state.specs.Checks.{state_verdict}
use Rattle.state.specs.Laid.{vertex_count}

-- the figures of a state: the Bool tells whether blocks are still taken
abbrev pub figures_of : Bool → State → Figures
figures_of true s = record { phase = phase_taking; blocks = blocks s.journal; vertices = 0; wanted = 0; laid = 0 }
figures_of false s =
    record {
      phase = phase_laid;
      blocks = blocks s.journal;
      vertices = vertex_count s;
      wanted = wanted (jdm_of s.journal);
      laid = edges (vertex_count s) (edge s.adjacency);
    }

-- the checks 1, 2
abbrev pub figures_answer : State → FiguresAnswer
figures_answer s = unless_stopped (state_verdict s) Refused (Reported (figures_of (eqb (phase s.journal) phase_taking) s))
