-- Records taken back, the last first: step by step, over the same records and the same classes, and made again.
-- Assumes nothing.
use mathlib.Core.Path.{◌≡◌, refl, sym, ap, ap₂, ◌∙◌}
use mathlib.Core.Bool.{Bool, true, false, ◌&&◌}
use mathlib.Core.List.{List}
use mathlib.Core.Logic.{◌≢◌}
use Prim.Native.Nat.{ℕ, zero, suc, ◌+◌, ◌-◌, ◌<◌}
use native.Mathlib.Numerals.{add-one}
use native.Mathlib.Omega.{arith}
use Rattle.finite.specs.Range.{fold_to}
use Rattle.finite.proofs.All.{and_left, and_right}
use Rattle.swapping.specs.declared.Swap.{Swap}
use Rattle.swapping.specs.Swap.{can_swap, swap_bytes, undoing}
use Rattle.swapping.specs.Theorems.{Matrix}
use Rattle.swapping.proofs.Rule.{rule_same}
use Rattle.swapping.proofs.Bytes.{swaps-work}
use Rattle.swap_log.specs.Log.{swap_at, Undone, undo_all, replay}

-- one step more
abbrev pub stepped : Bool → Undone → Undone
stepped t u = record { adjacency = u.adjacency; legal = t && u.legal }

module _ (n : ℕ) (cls : ℕ → ℕ) (l : List ℕ) where
  pub undo-none : (g : List ℕ) → undo_all n cls l 0 g ≡ record { adjacency = g; legal = true }
  unfolding undo_all
  undo-none g = refl

  pub undo-more : (m : ℕ) (g : List ℕ) → undo_all n cls l (m + 1) g
      ≡ stepped (can_swap n cls g (undoing (swap_at l m))) (undo_all n cls l m (swap_bytes g (undoing (swap_at l m))))
  unfolding undo_all
  undo-more m g = rw add-one

  -- the last of m records, where there is one: y takes it back
  module _ (m : ℕ) (g : List ℕ) (some : m ≢ 0) {y : Swap} (back : y ≡ undoing (swap_at l (m - 1))) where
    undo-last : (undo_all n cls l m g).legal ≡ can_swap n cls g y && (undo_all n cls l (m - 1) (swap_bytes g y)).legal
    undo-last =
        let e : m ≡ m - 1 + 1 = omega arith in
        ap (λ (k : ℕ). (undo_all n cls l k g).legal) e
        ∙ ap (λ (u : Undone). u.legal) (undo-more (m - 1) g)
        ∙ ap (λ (z : Swap). can_swap n cls g z && (undo_all n cls l (m - 1) (swap_bytes g z)).legal) (sym back)

    pub undo-refused : can_swap n cls g y ≡ false → (undo_all n cls l m g).legal ≡ false
    undo-refused h = undo-last ∙ ap (λ (t : Bool). t && (undo_all n cls l (m - 1) (swap_bytes g y)).legal) h

    pub undo-allowed : can_swap n cls g y ≡ true → (undo_all n cls l m g).legal ≡ (undo_all n cls l (m - 1) (swap_bytes g y)).legal
    undo-allowed h = undo-last ∙ ap (λ (t : Bool). t && (undo_all n cls l (m - 1) (swap_bytes g y)).legal) h

  -- a legal step, and the legal rest
  pub undo-legal : (m : ℕ) (g : List ℕ) → (undo_all n cls l (m + 1) g).legal ≡ true
      → (can_swap n cls g (undoing (swap_at l m)) ≡ true) × ((undo_all n cls l m (swap_bytes g (undoing (swap_at l m)))).legal ≡ true)
  undo-legal m g h =
      let e = sym (ap (λ (u : Undone). u.legal) (undo-more m g)) ∙ h in
      (and_left _ (undo_all n cls l m (swap_bytes g (undoing (swap_at l m)))).legal e, and_right (can_swap n cls g (undoing (swap_at l m))) _ e)

  -- the same records
  pub undo-cong : (l' : List ℕ) (m : ℕ) → ((i : ℕ) → i < m → swap_at l i ≡ swap_at l' i) → (g : List ℕ) → undo_all n cls l m g ≡ undo_all n cls l' m g
  unfolding undo_all
  undo-cong l' zero same g = refl
  undo-cong l' (suc m) same g =
      ap (λ (x : Swap). stepped (can_swap n cls g (undoing x)) (undo_all n cls l m (swap_bytes g (undoing x)))) (same m (omega arith))
      ∙ ap (stepped (can_swap n cls g (undoing (swap_at l' m)))) (undo-cong l' m (λ i h. same i (omega arith)) (swap_bytes g (undoing (swap_at l' m))))

  -- classes that agree on the vertices
  pub undo-same : (cls' : ℕ → ℕ) → ((v : ℕ) → v < n → cls v ≡ cls' v) → (m : ℕ) (g : List ℕ) → undo_all n cls l m g ≡ undo_all n cls' l m g
  unfolding undo_all
  undo-same cls' same zero g = refl
  undo-same cls' same (suc m) g =
      ap₂ stepped (rule_same (undoing (swap_at l m)) n cls cls' same g) (undo-same cls' same m (swap_bytes g (undoing (swap_at l m))))

  -- made again on what they leave, the records give the matrix of before
  pub redone : (m : ℕ) (g : List ℕ) → Matrix n g → (undo_all n cls l m g).legal ≡ true → replay l m (undo_all n cls l m g).adjacency ≡ g
  unfolding undo_all fold_to
  redone zero g b h = refl
  redone (suc m) g b h =
      let x = undoing (swap_at l m) in
      let w = swaps-work n cls g x b (and_left (can_swap n cls g x) (undo_all n cls l m (swap_bytes g x)).legal h) in
      let r = redone m (swap_bytes g x) w.matrix (and_right (can_swap n cls g x) (undo_all n cls l m (swap_bytes g x)).legal h) in
      ap (λ (y : List ℕ). swap_bytes y (swap_at l m)) r
      ∙ w.undone
