-- The checks with which entries begin: what a verdict that goes says, and back.
-- Assumes nothing.
use mathlib.Core.Path.{◌≡◌}
use mathlib.Core.Bool.{true, not}
use mathlib.Core.Logic.{◌≢◌}
use Prim.Native.Nat.{ℕ, ◌<◌}
use lib.Dec.{eqb, ltb}
use borrow.Author.Tests.{eqb-true, eq-eqb, ltb-true, lt-ltb, not-true, eqb-false, ne_eqb}
use Rattle.answer.specs.Refusals.{Go}
use Rattle.answer.proofs.Checks.{unless_go, unless_stopped_go}
use Rattle.journal.specs.Journal.{phase_laid, phase}
use Rattle.state.specs.State.{State}
use Rattle.state.specs.Valid.{lengths_ok, valid, ValidLaid}
use Rattle.state.specs.Checks.{state_verdict, phase_verdict, vertex_verdict, pair_verdict}
use Rattle.state.proofs.Facts.{StateFacts, valid-facts}

module _ (s : State) where
  pub state_passed : state_verdict s ≡ Go → (lengths_ok s ≡ true) × (valid s ≡ true)
  state_passed e = let l = unless_go (lengths_ok s) _ _ e in (l.0, (unless_go (valid s) _ _ l.1).0)

  pub state_facts : state_verdict s ≡ Go → StateFacts s
  state_facts e = let p = state_passed e in valid-facts s p.0 p.1

  pub state_go : lengths_ok s ≡ true → valid s ≡ true → state_verdict s ≡ Go
  state_go l v = rw (l, v)

-- and with the phase p
module _ (p : ℕ) (s : State) where
  pub phase-passed : phase_verdict p s ≡ Go → (lengths_ok s ≡ true) × (valid s ≡ true) × (phase s.journal ≡ p)
  phase-passed e =
      let r = unless_stopped_go (state_verdict s) _ e in
      let a = state_passed s r.0 in
      (a.0, a.1, eqb-true (phase s.journal) p (unless_go (eqb (phase s.journal) p) _ _ r.1).0)

  pub phase-facts : phase_verdict p s ≡ Go → StateFacts s × (phase s.journal ≡ p)
  phase-facts e = let r = phase-passed e in (valid-facts s r.0 r.1, r.2)

  pub phase-go : lengths_ok s ≡ true → valid s ≡ true → phase s.journal ≡ p → phase_verdict p s ≡ Go
  phase-go l v e = rw (l, v, eq-eqb (phase s.journal) p e)

-- a valid laid state, both ways
pub laid-passed : (s : State) → phase_verdict phase_laid s ≡ Go → ValidLaid s
laid-passed s e = let p = phase-passed phase_laid s e in record { lengths = p.0; is_valid = p.1; phased = p.2 }

pub laid-goes : (s : State) → ValidLaid s → phase_verdict phase_laid s ≡ Go
laid-goes s v = phase-go phase_laid s v.lengths v.is_valid v.phased

-- the checks 13 and 14
module _ (n v w : ℕ) where
  pub pair-passed : pair_verdict n v w ≡ Go → (v < n) × (w < n) × (v ≢ w)
  pair-passed e =
      let a = unless_stopped_go (vertex_verdict n v) _ e in
      let b = unless_stopped_go (vertex_verdict n w) _ a.1 in (
        ltb-true v n (unless_go (ltb v n) _ _ a.0).0,
        ltb-true w n (unless_go (ltb w n) _ _ b.0).0,
        eqb-false v w (not-true (eqb v w) (unless_go (not (eqb v w)) _ _ b.1).0),
      )

  pub pair_goes : v < n → w < n → v ≢ w → pair_verdict n v w ≡ Go
  pair_goes p q d = rw (lt-ltb v n p, lt-ltb w n q, ne_eqb v w d)
