-- Taking the last swap back, on the definitions: what an answer Undone rests on, and when it comes.
-- Assumes nothing.
use mathlib.Core.Path.{◌≡◌, sym, subst, ◌∙◌}
use mathlib.Core.Logic.{◌≢◌}
use Prim.Native.Nat.{ℕ, ◌-◌, ◌≤◌, ◌<◌}
use native.Mathlib.Omega.{arith}
use lib.Dec.{ltb}
use lib.ListN.{length}
use borrow.Author.Tests.{ltb-true, lt-ltb}
use Rattle.answer.specs.Refusals.{Go, refuse}
use Rattle.answer.specs.declared.Cause.TheVariants.{LogEmpty}
use Rattle.answer.specs.declared.Refusal.{Refusal}
use Rattle.answer.specs.declared.UndoAnswer.{UndoAnswer}
use Rattle.answer.specs.declared.UndoAnswer.TheVariants.{Undone, Refused}
use Rattle.answer.proofs.Checks.{unless_passed, unless_stopped_passed}
use Rattle.adjacency.specs.Adjacency.{adjacency_size, side}
use Rattle.state.specs.Laid.{vertex_count, class_at}
use Rattle.swapping.specs.Swap.{undoing}
use Rattle.swapping.proofs.Bytes.{swap-inside}
use Rattle.swap_log.specs.Log.{most_swaps, log_size, swap_count, swap_at, last_swap}
use Rattle.swap_log.proofs.Valid.{log_facts, log_works}
use Rattle.loan.specs.Loan.{Loan}
use Rattle.loan.specs.Valid.{LaidLoan}
use Rattle.loan.specs.Checks.{laid_verdict}
use Rattle.loan.proofs.Laid.{laid-passed, laid-go, laid-matrix, laid-log}
use Rattle.undo_swap.specs.Undo.{undo_answer}

-- what the checks of taking back said
pub record UndoFacts (b : Loan) : Type 0 where
  pub loan : LaidLoan b
  pub some : 0 < swap_count b.log

abbrev IsUndone : UndoAnswer → Type 0
IsUndone Undone = Unit {0}
IsUndone (Refused r) = ⊥

refused-not_undone : (r : Refusal) → Refused r ≡ Undone → ⊥
refused-not_undone r e = subst IsUndone (sym e) tt

module _ (b : Loan) where
  pub undone-facts : undo_answer b ≡ Undone → UndoFacts b
  undone-facts e =
      let p = unless_stopped_passed (laid_verdict b) Refused _ Undone refused-not_undone e in
      let f = unless_passed (ltb 0 (swap_count b.log)) _ _ Undone (refused-not_undone _) p.1 in
      record { loan = laid-passed b p.0; some = ltb-true 0 (swap_count b.log) f.0 }

  pub facts_undone : UndoFacts b → undo_answer b ≡ Undone
  facts_undone f = rw (laid-go b f.loan, lt-ltb 0 (swap_count b.log) f.some)

-- what the code goes by on a valid laid loan, whose count is m
module _ (b : Loan) (go : laid_verdict b ≡ Go) {m : ℕ} (e : m ≡ swap_count b.log) where
  loan : LaidLoan b
  loan = laid-passed b go

  pub undo-length : length b.log ≡ log_size
  undo-length = (laid-log b loan).sized

  pub undo-few : m ≤ most_swaps
  undo-few = rw e (log_facts (vertex_count b.state) (class_at b.state) b.state.adjacency b.log (laid-log b loan).is_valid).few

  pub undo-none : m ≡ 0 → undo_answer b ≡ Refused (refuse LogEmpty 0 0)
  undo-none z = rw (go, sym e ∙ z)

  module _ (some : m ≢ 0) where
    rises : 0 < swap_count b.log
    rises = omega (arith, e, some)

    pub undo-some : undo_answer b ≡ Undone
    undo-some = facts_undone b (record { loan = loan; some = rises })

    -- the vertices of the last record are below 200
    pub undo-inside : let x = undoing (swap_at b.log (m - 1)) in
        (length b.state.adjacency ≡ adjacency_size) × (x.a < side) × (x.b < side) × (x.c < side) × (x.d < side)
    undo-inside =
        let n = vertex_count b.state in
        let w = log_works.undone n (class_at b.state) b.state.adjacency b.log (laid-log b loan) rises in
        let v = swap-inside n (class_at b.state) b.state.adjacency (undoing (last_swap b.log)) (laid-matrix b loan) w.allowed in
        rw e ((laid-matrix b loan).sized, v.0, v.1, v.2, v.3)
