-- The checks with which the calls begin that are lent a loan, cut where a laid matrix and its log are looked at.
-- Assumes nothing.
use mathlib.Core.Path.{◌≡◌, refl, sym, ap, ◌∙◌}
use mathlib.Core.Bool.{Bool, true, false, ◌&&◌, cond, true≢false}
use native.Mathlib.Omega.{arith}
use lib.Dec.{eqb}
use lib.ListN.{length}
use borrow.Author.Tests.{eqb-true, eqb-false, eq-eqb, ne_eqb}
use Rattle.answer.specs.Refusals.{Verdict, Go, Stop, refuse, stopped, unless, unless_stopped}
use Rattle.answer.specs.declared.Cause.TheVariants.{WrongLength, InvalidState, WrongPhase}
use Rattle.answer.specs.declared.Refusal.{Refusal}
use Rattle.slices.specs.Slices.{all_zero}
use Rattle.journal.specs.Journal.{phase_taking, phase_laid, phase, journal_ok, table_of}
use Rattle.state.specs.Valid.{lengths_ok, laid_ok}
use Rattle.state.specs.Laid.{vertex_count, class_at}
use Rattle.state.specs.Inner.Opened.{front_verdict}
use Rattle.state.proofs.Front.{two_phases, front-passed as state_passed}
use Rattle.swap_log.specs.Log.{log_size, log_ok}
use Rattle.loan.specs.Loan.{Loan}
use Rattle.loan.specs.Checks.{laid_verdict}
use Rattle.loan.specs.Inner.Opened.{loan_front, loan_opens}

-- The checks over what their tests say: the state's lengths, the log's, the journal, phase 0, an empty matrix, a laid one, an empty log, a valid one,
-- phase 1.
abbrev whole : Bool → Bool → Bool → Bool → Bool → Bool → Bool → Bool → Bool → Verdict
whole l m k p z d y e q =
    unless_stopped (unless (l && m) (stopped WrongLength) (unless ((k && cond p z d) && cond p y e) (stopped InvalidState) Go)) Stop
    (unless q (stopped WrongPhase) Go)

abbrev front : Bool → Bool → Bool → Bool → Bool → Bool → Bool → Verdict
front l m k p z y q =
    unless m (stopped WrongLength)
    (unless_stopped (unless l (stopped WrongLength) (unless (k && cond p z true) (stopped InvalidState) Go)) Stop
    (unless (cond p y true) (stopped InvalidState)
    (unless q (stopped WrongPhase) Go)))

-- a front that stops is the whole
stop_whole : (l m k p z d y e q : Bool) (r : Refusal) → (k ≡ true → p ≡ false → q ≡ true) → front l m k p z y q ≡ Stop r → whole l m k p z d y e q ≡ Stop r
stop_whole false false k p z d y e q r h s = s
stop_whole true false k p z d y e q r h s = s
stop_whole false true k p z d y e q r h s = s
stop_whole true true false p z d y e q r h s = s
stop_whole true true true true false d y e q r h s = s
stop_whole true true true true true d false e q r h s = s
stop_whole true true true true true d true e true r h s = s
stop_whole true true true true true d true e false r h s = s
stop_whole true true true false z d y e true r h s = cc
stop_whole true true true false z d y e false r h s = absurd (true≢false (sym (h refl refl)))

-- behind one that goes, the laid matrix and the log are left
go_whole : (l m k p z d y e q : Bool) → (p ≡ true → q ≡ false) → front l m k p z y q ≡ Go → whole l m k p z d y e q ≡ unless (d && e) (stopped InvalidState) Go
go_whole l false k p z d y e q h s = cc
go_whole false true k p z d y e q h s = cc
go_whole true true false p z d y e q h s = cc
go_whole true true true true false d y e q h s = cc
go_whole true true true true true d false e q h s = cc
go_whole true true true true true d true e true h s = absurd (true≢false (h refl))
go_whole true true true true true d true e false h s = cc
go_whole true true true false z d y e false h s = cc
go_whole true true true false z true y true true h s = refl
go_whole true true true false z true y false true h s = refl
go_whole true true true false z false y e true h s = refl

front-lengths : (l m k p z y q : Bool) → front l m k p z y q ≡ Go
    → (m ≡ true) × (unless l (stopped WrongLength) (unless (k && cond p z true) (stopped InvalidState) Go) ≡ Go)
front-lengths l false k p z y q s = (cc, cc)
front-lengths false true k p z y q s = (cc, cc)
front-lengths true true false p z y q s = (cc, cc)
front-lengths true true true true false y q s = (cc, cc)
front-lengths true true true true true y q s = (refl, refl)
front-lengths true true true false z y q s = (refl, refl)

module _ (b : Loan) where
  abbrev taking : Bool
  taking = eqb (phase b.state.journal) phase_taking

  abbrev phased : Bool
  phased = eqb (phase b.state.journal) phase_laid

  abbrev laid : Bool
  laid = laid_ok (table_of b.state.journal) b.state.adjacency

  abbrev logged : Bool
  logged = log_ok (vertex_count b.state) (class_at b.state) b.state.adjacency b.log

  abbrev sized : Bool
  sized = eqb (length b.log) log_size

  -- a journal that passes is taking or laid, and not both
  either : journal_ok b.state.journal ≡ true → taking ≡ false → phased ≡ true
  either ok t =
      eq-eqb (phase b.state.journal) phase_laid
      (omega (arith, two_phases b.state ok, eqb-false (phase b.state.journal) phase_taking t))

  not-both : taking ≡ true → phased ≡ false
  not-both t = ne_eqb (phase b.state.journal) phase_laid (λ e. omega (arith, e, eqb-true (phase b.state.journal) phase_taking t))

  pub front-stop : (r : Refusal) → loan_front b ≡ Stop r → laid_verdict b ≡ Stop r
  front-stop r =
      stop_whole (lengths_ok b.state) sized (journal_ok b.state.journal) taking (all_zero b.state.adjacency) laid (all_zero b.log) logged phased r either

  pub front-passed : loan_front b ≡ Go → (front_verdict b.state ≡ Go) × (length b.log ≡ log_size)
  front-passed e =
      let f = front-lengths (lengths_ok b.state) sized (journal_ok b.state.journal) taking (all_zero b.state.adjacency) (all_zero b.log) phased e in
      (f.1, eqb-true (length b.log) log_size f.0)

  behind : loan_front b ≡ Go → laid_verdict b ≡ unless (loan_opens b) (stopped InvalidState) Go
  behind =
      go_whole (lengths_ok b.state) sized (journal_ok b.state.journal) taking (all_zero b.state.adjacency) laid (all_zero b.log) logged phased not-both

  pub opened : loan_front b ≡ Go → loan_opens b ≡ true → laid_verdict b ≡ Go
  opened e h = behind e ∙ ap (λ (d : Bool). unless d (stopped InvalidState) Go) h

  pub not_opened : loan_front b ≡ Go → loan_opens b ≡ false → laid_verdict b ≡ Stop (refuse InvalidState 0 0)
  not_opened e h = behind e ∙ ap (λ (d : Bool). unless d (stopped InvalidState) Go) h

  -- the front, by the phase
  module _ (f : front_verdict b.state ≡ Go) (l : length b.log ≡ log_size) where
    pub front-laid : phase b.state.journal ≡ phase_laid → loan_front b ≡ Go
    front-laid p = rw (eq-eqb (length b.log) log_size l, f, p)

    pub front-taking : (phase b.state.journal ≡ phase_laid → ⊥)
        → loan_front b ≡ unless (all_zero b.log) (stopped InvalidState) (stopped WrongPhase)
    front-taking p =
        let z : phase b.state.journal ≡ phase_taking = omega (arith, two_phases b.state (state_passed b.state f).1, p) in
        rw (eq-eqb (length b.log) log_size l, f, z)

  -- what is left behind the front, by the matrix
  pub opens_not : laid ≡ false → loan_opens b ≡ false
  opens_not h = ap (λ (t : Bool). t && logged) h

  pub opens_log : laid ≡ true → loan_opens b ≡ logged
  opens_log h = ap (λ (t : Bool). t && logged) h
