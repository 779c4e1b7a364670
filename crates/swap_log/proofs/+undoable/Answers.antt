-- `swap_log::undoable` meets its contract. Its measure is the number of records.
use mathlib.Core.Path.{◌≡◌, refl, sym, ap, ◌∙◌}
use mathlib.Core.List.{List}
use Prim.Native.Nat.{ℕ, ◌-◌}
use native.Mathlib.Omega.{arith}
use Rattle.layout.specs.Inner.Arrays.{class_in}
use Rattle.swapping.specs.declared.Swap.{Swap}
use Rattle.swapping.specs.Swap.{swap_bytes, undoing}
use Rattle.swapping.proofs.Bytes.{swap-inside, swaps-work}
use Rattle.swap_log.specs.Log.{undo_all}
use Rattle.swap_log.proofs.Undo.{undo-none, undo-refused, undo-allowed}
use Rattle.swap_log.proofs.+undoable.Goals as goal

pub returns-then-m-eq0-clause-value : goal.returns-then-m-eq0-clause-value
returns-then-m-eq0-clause-value t c = rw (c.if-m-eq0.true, undo-none) refl

pub returns-then-not-can_swap-clause-value : goal.returns-then-not-can_swap-clause-value
returns-then-not-can_swap-clause-value t c =
    let a = c.args in
    let back = c.undoing-back.ensures ∙ ap undoing c.swap_at-x.ensures in
    let can = sym c.can_swap.ensures ∙ c.if-not-can_swap.true in
    sym (undo-refused a.n (class_in a.classes.now) a.log.now a.m a.adjacency.now c.if-m-eq0.false back can)

pub swap_bytes-requires : goal.swap_bytes-requires
swap_bytes-requires t c =
    let a = c.args in
    let m = c.requires.0 in
    let can = sym c.can_swap.ensures ∙ c.if-not-can_swap.false in
    let v = swap-inside a.n (class_in a.classes.now) a.adjacency.now c.undoing-back.result m can in
    (m.sized, v.0, v.1, v.2, v.3)

pub undoable-legal-requires : goal.undoable-legal-requires
undoable-legal-requires t c =
    let a = c.args in
    let can = sym c.can_swap.ensures ∙ c.if-not-can_swap.false in
    let works = swaps-work a.n (class_in a.classes.now) a.adjacency.now c.undoing-back.result c.requires.0 can in
    (omega arith, (rw c.swap_bytes.ensures works.matrix, c.requires.1, omega arith))

pub swap_bytes-requires-2 : goal.swap_bytes-requires-2
swap_bytes-requires-2 t c =
    let a = c.args in
    let m = c.requires.0 in
    let can = sym c.can_swap.ensures ∙ c.if-not-can_swap.false in
    let v = rw c.undoing-back.ensures at (swap-inside a.n (class_in a.classes.now) a.adjacency.now c.undoing-back.result m can) in
    (c.undoable-legal.auto.adjacency ∙ c.swap_bytes.auto.adjacency ∙ m.sized, v.0, v.3, v.2, v.1)

pub returns-clause-value : goal.returns-clause-value
returns-clause-value t c =
    let a = c.args in
    let cls = class_in a.classes.now in
    let can = sym c.can_swap.ensures ∙ c.if-not-can_swap.false in
    let back = c.undoing-back.ensures ∙ ap undoing c.swap_at-x.ensures in
    c.undoable-legal.ensures.value
    ∙ ap (λ (h : List ℕ). (undo_all a.n cls a.log.now (a.m - 1) h).legal) c.swap_bytes.ensures
    ∙ sym (undo-allowed a.n cls a.log.now a.m a.adjacency.now c.if-m-eq0.false back can)

pub returns-clause-adjacency_unchanged : goal.returns-clause-adjacency_unchanged
returns-clause-adjacency_unchanged t c =
    let a = c.args in
    let g = a.adjacency.now in
    let x = c.swap_at-x.result in
    let back = c.undoing-back.result in
    let can = sym c.can_swap.ensures ∙ c.if-not-can_swap.false in
    let works = swaps-work a.n (class_in a.classes.now) g back c.requires.0 can in
    let again : swap_bytes (swap_bytes g back) x ≡ g =
    ap (λ (y : Swap). swap_bytes (swap_bytes g back) (undoing y)) (sym c.undoing-back.ensures) ∙ works.undone in
    c.swap_bytes-2.ensures
    ∙ ap (λ (h : List ℕ). swap_bytes h x) (c.undoable-legal.ensures.adjacency_unchanged ∙ c.swap_bytes.ensures)
    ∙ again
