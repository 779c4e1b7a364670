-- A log passes the check if and only if each clause of document 02 holds of it (specs/Clauses.antt).
-- Assumes nothing.
use mathlib.Core.Path.{◌≡◌, refl}
use mathlib.Core.Bool.{true}
use mathlib.Core.List.{List}
use Prim.Native.Nat.{ℕ, zero, suc, ◌<◌}
use native.Mathlib.Decide.{dec_lt}
use native.Mathlib.Omega.{arith}
use lib.ListN.{get_or, get_or-eq_default}
use Rattle.finite.proofs.All.{and_left, and_right, and_both}
use Rattle.swapping.specs.Swap.{can_swap, swap_bytes, undoing}
use Rattle.swapping.proofs.Rule.{rule_met, met_rule}
use Rattle.swap_log.specs.Log.{log_size, swap_at, swap_count, undo_all}
use Rattle.swap_log.specs.Clauses.{Undoable, LogByClauses}
use Rattle.swap_log.proofs.Valid.{log_facts, facts_log}

module _ (n : ℕ) (cls : ℕ → ℕ) (l : List ℕ) where
  legal-undoable : (m : ℕ) (g : List ℕ) → (undo_all n cls l m g).legal ≡ true → Undoable n cls l m g
  unfolding undo_all
  legal-undoable zero g h = tt
  legal-undoable (suc m) g h =
      let x = undoing (swap_at l m) in (
        rule_met x n cls g (and_left (can_swap n cls g x) (undo_all n cls l m (swap_bytes g x)).legal h),
        legal-undoable m (swap_bytes g x) (and_right (can_swap n cls g x) (undo_all n cls l m (swap_bytes g x)).legal h),
      )

  undoable-legal : (m : ℕ) (g : List ℕ) → Undoable n cls l m g → (undo_all n cls l m g).legal ≡ true
  unfolding undo_all
  undoable-legal zero g u = refl
  undoable-legal (suc m) g u =
      let x = undoing (swap_at l m) in
      and_both (can_swap n cls g x) (undo_all n cls l m (swap_bytes g x)).legal (met_rule x n cls g u.0) (undoable-legal m (swap_bytes g x) u.1)

pub log_by_clauses : LogByClauses
log_by_clauses n cls g l long = (
  λ h.
      let f = log_facts n cls g l h in
      record {
        low_byte = f.low;
        few = f.few;
        zero-after = λ p q r. f.zero p q;
        undoable = legal-undoable n cls l (swap_count l) g f.legal;
      },
  λ c.
      facts_log n cls g l
      (record {
        low = c.low_byte;
        few = c.few;
        zero = λ p q. zero p (c.zero-after p q) (dec_lt p log_size);
        legal = undoable-legal n cls l (swap_count l) g c.undoable;
      }),
)
  where
    -- past its end a list reads 0
    zero : (p : ℕ) → (p < log_size → get_or l p 0 ≡ 0) → Dec (p < log_size) → get_or l p 0 ≡ 0
    zero p z (yes q) = z q
    zero p z (no q) = get_or-eq_default l 0 (omega (arith, long))
