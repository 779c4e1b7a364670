-- The checks with which entries begin, cut where a laid matrix is looked at: what the front says, and what is left behind it.
-- Assumes nothing.
use mathlib.Core.Path.{◌≡◌, refl, ap, ◌∙◌}
use mathlib.Core.Bool.{Bool, true, false, ◌&&◌, cond}
use Prim.Native.Nat.{◌≤◌}
use native.Mathlib.Omega.{arith}
use lib.Dec.{eqb, leb}
use lib.ListN.{replicate}
use borrow.Author.Tests.{eqb-true, eqb-false, eq-eqb, ne_eqb, leb-true}
use Rattle.std.specs.Prelude.{Ok, Err}
use Rattle.finite.proofs.All.{and_left}
use Rattle.answer.specs.Refusals.{Verdict, Go, Stop, refuse, stopped, unless, unless_stopped}
use Rattle.answer.specs.declared.Cause.TheVariants.{WrongLength, InvalidState}
use Rattle.answer.specs.declared.Refusal.{Refusal}
use Rattle.answer.proofs.Checks.{unless_go, unless_stopped_go}
use Rattle.graph.specs.Tests.{most_classes}
use Rattle.slices.specs.Slices.{all_zero}
use Rattle.table.specs.Block.{most_blocks}
use Rattle.table.specs.Inner.Cells.{cells_size}
use Rattle.layout.specs.Layout.{most_vertices}
use Rattle.journal.specs.Journal.{phase_taking, phase_laid, phase, blocks, journal_ok, table_of}
use Rattle.state.specs.State.{State}
use Rattle.state.specs.Valid.{lengths_ok, laid_ok}
use Rattle.state.specs.Checks.{state_verdict, phase_verdict}
use Rattle.state.specs.Inner.Opened.{front_verdict, laid_front, Openable}
use Rattle.state.proofs.Facts.{lengths_journal, lengths_adjacency}

-- lengths, journal, phase 0, an empty matrix, a laid one: the checks over what these tests say
abbrev checks : Bool → Bool → Bool → Bool → Bool → Verdict
checks l k p z d = unless l (stopped WrongLength) (unless (k && cond p z d) (stopped InvalidState) Go)

stop_all : (l k p z d : Bool) (r : Refusal) → checks l k p z true ≡ Stop r → checks l k p z d ≡ Stop r
stop_all false k p z d r e = e
stop_all true false p z d r e = e
stop_all true true true z d r e = e
stop_all true true false z d r e = cc

go_taking : (l k p z d : Bool) → checks l k p z true ≡ Go → p ≡ true → checks l k p z d ≡ Go
go_taking l k true z d e h = e
go_taking l k false z d e h = cc

go_laid : (l k p z d : Bool) → checks l k p z true ≡ Go → p ≡ false → checks l k p z d ≡ unless d (stopped InvalidState) Go
go_laid false k p z d e h = cc
go_laid true false p z d e h = cc
go_laid true true true z d e h = cc
go_laid true true false z d e h = refl

module _ (s : State) where
  abbrev empty : Bool
  empty = eqb (phase s.journal) phase_taking

  abbrev laid : Bool
  laid = laid_ok (table_of s.journal) s.adjacency

  pub front-passed : front_verdict s ≡ Go → (lengths_ok s ≡ true) × (journal_ok s.journal ≡ true)
  front-passed e =
      let l = unless_go (lengths_ok s) _ _ e in
      let v = unless_go (journal_ok s.journal && cond empty (all_zero s.adjacency) true) _ _ l.1 in
      (l.0, and_left (journal_ok s.journal) (cond empty (all_zero s.adjacency) true) v.0)

  -- what the front has seen is what a laid matrix is looked at with
  pub openable : front_verdict s ≡ Go → Openable s (replicate cells_size 0) (replicate most_classes 0) (replicate most_vertices 0)
  openable e =
      let f = front-passed e in
      record {
        journal_length = lengths_journal s f.0;
        adjacency_length = lengths_adjacency s f.0;
        journal-ok = f.1;
        no_cells = refl;
        no_counts = refl;
        no_degrees = refl;
      }

  -- a journal that passes is taking or laid
  pub two_phases : journal_ok s.journal ≡ true → phase s.journal ≤ phase_laid
  two_phases ok =
      leb-true (phase s.journal) phase_laid
      (and_left (leb (phase s.journal) phase_laid) (leb (blocks s.journal) most_blocks)
      (and_left (leb (phase s.journal) phase_laid && leb (blocks s.journal) most_blocks) _ ok))

  -- the checks 1 and 2 by their front
  pub front-stop : (r : Refusal) → front_verdict s ≡ Stop r → state_verdict s ≡ Stop r
  front-stop = stop_all (lengths_ok s) (journal_ok s.journal) empty (all_zero s.adjacency) laid

  pub front-taking : front_verdict s ≡ Go → phase s.journal ≡ phase_taking → state_verdict s ≡ Go
  front-taking e h =
      go_taking (lengths_ok s) (journal_ok s.journal) empty (all_zero s.adjacency) laid e (eq-eqb (phase s.journal) phase_taking h)

  pub front-laid : front_verdict s ≡ Go → (phase s.journal ≡ phase_taking → ⊥) → state_verdict s ≡ unless laid (stopped InvalidState) Go
  front-laid e h =
      go_laid (lengths_ok s) (journal_ok s.journal) empty (all_zero s.adjacency) laid e (ne_eqb (phase s.journal) phase_taking h)

  -- and 3, for a call that needs a laid state
  pub laid_front-passed : laid_front s ≡ Go → (front_verdict s ≡ Go) × (phase s.journal ≡ phase_laid)
  laid_front-passed e =
      let f = unless_stopped_go (front_verdict s) _ e in
      (f.0, eqb-true (phase s.journal) phase_laid (unless_go (eqb (phase s.journal) phase_laid) _ _ f.1).0)

  pub laid-openable : laid_front s ≡ Go → Openable s (replicate cells_size 0) (replicate most_classes 0) (replicate most_vertices 0)
  laid-openable e = openable (laid_front-passed e).0

  pub laid_front-stop : (r : Refusal) → laid_front s ≡ Stop r → phase_verdict phase_laid s ≡ Stop r
  laid_front-stop r e = go (front_verdict s) refl (eqb (phase s.journal) phase_laid) refl
    where
      go : (f : Verdict) → front_verdict s ≡ f → (p : Bool) → eqb (phase s.journal) phase_laid ≡ p → phase_verdict phase_laid s ≡ Stop r
      go (Err q) h p i = rw (front-stop q h) (rw h at e)
      go (Ok _) h true i = let never : ◌≡◌ {A = Verdict} Go (Stop r) = rw (h, i) at e in cc
      go (Ok _) h false i =
          let f = front-passed h in
          let none : phase s.journal ≡ phase_taking = omega (arith, two_phases f.1, eqb-false (phase s.journal) phase_laid i) in
          rw (front-taking h none) (rw h at e)

  -- behind it the laid matrix is left
  behind : laid_front s ≡ Go → phase_verdict phase_laid s ≡ unless laid (stopped InvalidState) Go
  behind e =
      let f = laid_front-passed e in
      rw (front-laid f.0 (λ h. omega (arith, h, f.1)), f.1) (go laid)
    where
      go : (d : Bool) → unless_stopped (unless d (stopped InvalidState) Go) Stop Go ≡ unless d (stopped InvalidState) Go
      go true = refl
      go false = refl

  pub opened : laid_front s ≡ Go → laid ≡ true → phase_verdict phase_laid s ≡ Go
  opened e h = behind e ∙ ap (λ (d : Bool). unless d (stopped InvalidState) Go) h

  pub not_opened : laid_front s ≡ Go → laid ≡ false → phase_verdict phase_laid s ≡ Stop (refuse InvalidState 0 0)
  not_opened e h = behind e ∙ ap (λ (d : Bool). unless d (stopped InvalidState) Go) h
