-- What flagging a cell does to the flags: those of class k and the vertices from, .., to - 1 are 1, all others stay.
-- Assumes nothing.
use mathlib.Core.Path.{◌≡◌, refl, ◌∙◌}
use mathlib.Core.List.{List}
use Prim.Native.Nat.{ℕ, ◌+◌, ◌-◌, ◌*◌, ◌≤◌, ◌<◌}
use native.Mathlib.Decide.{ℕ_discrete}
use native.Mathlib.Omega.{arith}
use lib.ListN.{length, get_or, set, length-set}
use lib.Seq.{get_or-set_same, get_or-set_other}
use Rattle.finite.proofs.Fold.{fold_to-keeps}
use Rattle.graph.specs.Tests.{most_classes}
use Rattle.adjacency.specs.Adjacency.{side}
use Rattle.open_pairs.specs.Inner.Rows.{flags_size}
use Rattle.open_pairs.specs.Inner.Refresh.{mark_full}

-- flags x that came of `full` when the vertices from, .., to - 1 were passed
record Marked (k : ℕ) (full : List ℕ) (from to : ℕ) (x : List ℕ) : Type 0 where
  pub sized : length x ≡ flags_size
  pub inside : (w : ℕ) → from ≤ w → w < to → get_or x (k * side + w) 0 ≡ 1
  pub outside : (j w : ℕ) → w < side → (j ≡ k → from ≤ w → w < to → ⊥) → get_or x (j * side + w) 0 ≡ get_or full (j * side + w) 0
  pub binary : ((p : ℕ) → get_or full p 0 ≤ 1) → (p : ℕ) → get_or x p 0 ≤ 1

module _ (k from to : ℕ) (full : List ℕ) (sized : length full ≡ flags_size) (kd : k < most_classes) (few : to ≤ side) where
  marked_next : (i : ℕ) (x : List ℕ) → i < to - from → Marked k full from (from + i) x → Marked k full from (from + (i + 1)) (set x (k * side + (from + i)) 1)
  marked_next i x h m =
      record {
        sized = length-set x (k * side + (from + i)) 1 ∙ m.sized;
        inside = λ w f t. inside w f t (ℕ_discrete w (from + i));
        outside = λ j w s o.
            get_or-set_other x (k * side + (from + i)) (j * side + w) 1 0 (λ e. o (omega arith) (omega arith) (omega arith))
            ∙ m.outside j w s (λ e f t. o e f (omega arith));
        binary = λ b p. binary b p (ℕ_discrete p (k * side + (from + i)));
      }
    where
      here : get_or (set x (k * side + (from + i)) 1) (k * side + (from + i)) 0 ≡ 1
      here = get_or-set_same x (k * side + (from + i)) 1 0 (omega (arith, m.sized))

      inside : (w : ℕ) → from ≤ w → w < from + (i + 1) → Dec (w ≡ from + i) → get_or (set x (k * side + (from + i)) 1) (k * side + w) 0 ≡ 1
      inside w f t (yes e) = rw e here
      inside w f t (no e) =
          get_or-set_other x (k * side + (from + i)) (k * side + w) 1 0 (λ d. e (omega arith)) ∙ m.inside w f (omega (arith, e))

      binary : ((p : ℕ) → get_or full p 0 ≤ 1) → (p : ℕ) → Dec (p ≡ k * side + (from + i)) → get_or (set x (k * side + (from + i)) 1) p 0 ≤ 1
      binary b p (yes e) = rw e (omega (arith, here))
      binary b p (no e) = omega (arith, get_or-set_other x (k * side + (from + i)) p 1 0 e, m.binary b p)

  marks : Marked k full from (from + (to - from)) (mark_full k from to full)
  marks =
      fold_to-keeps (λ i x. Marked k full from (from + i) x) (λ i f. set f (k * side + (from + i)) 1) full (to - from)
      (record {
        sized = sized;
        inside = λ w f t. absurd (omega arith);
        outside = λ j w s o. refl;
        binary = λ b. b;
      })
      marked_next

  pub marked_length : length (mark_full k from to full) ≡ flags_size
  marked_length = marks.sized

  pub marked_inside : (w : ℕ) → from ≤ w → w < to → get_or (mark_full k from to full) (k * side + w) 0 ≡ 1
  marked_inside w f t = marks.inside w f (omega arith)

  -- of another class, or of a vertex that is not between
  pub marked_outside : (j w : ℕ) → w < side → (j ≡ k → from ≤ w → w < to → ⊥)
      → get_or (mark_full k from to full) (j * side + w) 0 ≡ get_or full (j * side + w) 0
  marked_outside j w s o = marks.outside j w s (λ e f t. o e f (omega arith))

  pub marked_binary : ((p : ℕ) → get_or full p 0 ≤ 1) → (p : ℕ) → get_or (mark_full k from to full) p 0 ≤ 1
  marked_binary = marks.binary
