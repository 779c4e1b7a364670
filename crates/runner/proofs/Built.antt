-- Every text is a refusal, of the first block that is refused or of laying out, or that of a graph with the input's table (specs/Theorems.antt
-- `ProgramSays`, `EndsFull`, `CompletesAlways`).
-- Assumes nothing.
use mathlib.Core.Path.{◌≡◌, refl, sym, ap, subst, ◌∙◌}
use mathlib.Core.Bool.{true}
use mathlib.Core.List.{List}
use mathlib.Core.Logic.{inl, inr}
use Prim.Native.Nat.{ℕ, ◌+◌, ◌≤◌}
use native.Mathlib.Omega.{arith}
use lib.ListN.{length}
use Rattle.graph.specs.Graph.{DegreeTable}
use Rattle.answer.specs.Refusals.{Verdict, Go, refuse}
use Rattle.answer.specs.declared.Cause.TheVariants.{JournalFull}
use Rattle.answer.specs.declared.LayOutAnswer.{LayOutAnswer}
use Rattle.answer.specs.declared.LayOutAnswer.TheVariants.{LaidOut, Refused as LayOutRefused}
use Rattle.answer.specs.declared.CompleteAnswer.{CompleteAnswer}
use Rattle.answer.specs.declared.CompleteAnswer.TheVariants.{Completed}
use Rattle.answer.specs.declared.Choice.{Choice}
use Rattle.table.specs.Block.{most_blocks, well_formed}
use Rattle.journal.specs.Journal.{table_of}
use Rattle.journal.proofs.Laid.{phase-laid}
use Rattle.state.specs.State.{State, with_matrix, cleared}
use Rattle.state.specs.Valid.{ValidLaid}
use Rattle.state.specs.Laid.{vertex_count}
use Rattle.state.proofs.Facts.{lengths_journal}
use Rattle.lay_out.specs.LayOut.{lay_out_answer, lay_out_after}
use Rattle.lay_out.proofs.LayOut.{LaidOutFacts, lay_out_facts, lay_out_same_table, lay_out_lengths, lay_out_valid}
use Rattle.clear.specs.Clear.{ClearedState}
use Rattle.clear.proofs.Cleared.{cleared-state}
use Rattle.completion.specs.Complete.{Ran, after_ran}
use Rattle.completion.proofs.Entry.{facts_completed, missing-most}
use Rattle.shuffled_completion.specs.Outcome.{outcome, choice_answer}
use Rattle.shuffled_completion.proofs.Works.{outcome-works}
use Rattle.text.specs.Text.{refused_line}
use Rattle.options.specs.declared.Form.{Form}
use Rattle.input_blocks.specs.Blocks.{blocks_in, block_in, Taking, take_all}
use Rattle.input_blocks.specs.Taken.{state_after, AllTaken}
use Rattle.input_blocks.proofs.Sent.{Sent, reached, sent, full_refused}
use Rattle.state_text.specs.StateText.{state_text}
use Rattle.state_text.proofs.Shown.{state_shown}
use Rattle.runner.specs.Program.{join_records_most, with_own_log, completed_text, laid_text, taken_text, text_from}
use Rattle.runner.specs.Theorems.{CompletesAlways, Built, SaysFrom, ProgramSays, EndsFull}
use Rattle.runner.proofs.Room.{own_laid, own_valid, laid-count}

-- completing a laid state is not refused: no layout has more edges than there is room for
laid-completes : (choice : Choice) (s : State) (n : ℕ) → lay_out_answer s ≡ LaidOut n
    → (joins switches written : ℕ) × (choice_answer choice (with_own_log (lay_out_after s)) join_records_most ≡ Completed joins switches written)
laid-completes choice s n e =
    (r.joins, r.switches, length r.records, facts_completed (with_own_log (lay_out_after s)) r join_records_most (own_laid (lay_out_after s) f) (omega (arith, missing-most (lay_out_after s) f)))
  where
    r : Ran
    r = outcome choice (lay_out_after s)

    was : LaidOutFacts s
    was = lay_out_facts s n e

    f : ValidLaid (lay_out_after s)
    f =
        record {
          lengths = lay_out_lengths s (lay_out_answer s) was.lengths;
          is_valid = lay_out_valid s was.lengths was.is_valid;
          phased = rw e (phase-laid s.journal (lengths_journal s was.lengths));
        }

-- a completed state's text
module _ (choice : Choice) (s : State) (n joins switches written : ℕ) (count : n ≡ vertex_count s)
    (e : choice_answer choice (with_own_log s) join_records_most ≡ Completed joins switches written) where
  built : (form : Form) → Built form (table_of s.journal) (state_text form n switches (with_matrix s (outcome choice s).adjacency))
  built form =
      let w = outcome-works choice s (own_valid choice s joins switches written e) in
      let x = with_matrix s (outcome choice s).adjacency in
      record {
        state = x;
        switches = switches;
        table = refl;
        simple = w.simple;
        has_table = w.table;
        has_isolated = w.no_edge;
        outside = w.outside;
        says = ap (λ (n : ℕ). state_text form n switches x) count ∙ state_shown form switches x w.simple;
      }

  built-laid : (form : Form) → Built form (table_of s.journal) (laid_text form choice (LaidOut n) s)
  built-laid form =
      subst (Built form (table_of s.journal))
      (ap (λ (a : CompleteAnswer). completed_text form a n (after_ran a (outcome choice s) (with_own_log s)).state) (sym e)) (built form)

-- a laid state's text
told-laid : (form : Form) (choice : Choice) (s : State) (n : ℕ) → lay_out_answer s ≡ LaidOut n
    → Built form (table_of s.journal) (laid_text form choice (LaidOut n) (lay_out_after s))
told-laid form choice s n e =
    let c = laid-completes choice s n e in
    subst (λ (t : DegreeTable). Built form t (laid_text form choice (LaidOut n) (lay_out_after s))) (lay_out_same_table s (lay_out_answer s))
    (built-laid choice (lay_out_after s) n c.0 c.1 c.2 (laid-count s n e) c.3 form)

module _ (form : Form) (choice : Choice) (s : State) (c : ClearedState s) (input : List ℕ) where
  -- the state after all blocks
  abbrev last : State
  last = state_after s input (blocks_in input)

  -- all blocks are taken
  told-taken : AllTaken s input (blocks_in input) → SaysFrom form s input (taken_text form choice Go last)
  told-taken all = go (lay_out_answer last) refl
    where
      go : (a : LayOutAnswer) → lay_out_answer last ≡ a → SaysFrom form s input (laid_text form choice a (lay_out_after last))
      go (LayOutRefused r) e = inr (inl (r, (all, e), refl))
      go (LaidOut n) e =
          inr (inr (
            n,
            (all, e),
            subst (λ (t : DegreeTable). Built form t (laid_text form choice (LaidOut n) (lay_out_after last))) (reached s c input (blocks_in input) all).table
                (told-laid form choice last n e),
          ))

  told : SaysFrom form s input (text_from form choice s input)
  told = go (sent s c input)
    where
      go : Sent s c input (blocks_in input) (take_all s input) → SaysFrom form s input (text_from form choice s input)
      go (inl w) =
          subst (SaysFrom form s input) (ap (λ (t : Taking). taken_text form choice t.verdict t.state) (sym w.0)) (told-taken w.1)
      go (inr z) = inl (z.0, z.1, ap (λ (v : Verdict). taken_text form choice v (take_all s input).state) z.2)

  -- 65 well-formed blocks
  told-full : most_blocks + 1 ≤ blocks_in input → ((i : ℕ) → i ≤ most_blocks → well_formed (block_in input i) ≡ true)
      → text_from form choice s input ≡ refused_line (refuse JournalFull 0 0)
  told-full many good = ap (λ (v : Verdict). taken_text form choice v (take_all s input).state) (full_refused s c input good many)

pub program_says : ProgramSays
program_says form choice input = told form choice cleared cleared-state input

pub ends_full : EndsFull
ends_full form choice input = told-full form choice cleared cleared-state input

pub completes_always : CompletesAlways
completes_always choice input n went e = laid-completes choice (take_all cleared input).state n e
