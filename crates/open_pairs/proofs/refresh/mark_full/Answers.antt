-- `open_pairs::refresh::mark_full` meets its contract: the flags written at once are those written one by one.
use mathlib.Core.Path.{◌≡◌, sym, ap, ◌∙◌}
use mathlib.Core.List.{List, ◌++◌}
use Prim.Native.Nat.{ℕ, ◌+◌, ◌-◌, ◌*◌, ◌≤◌, ◌<◌}
use native.Mathlib.Omega.{arith}
use lib.ListN.{length, set, take, drop, replicate, length-drop, take-append-drop}
use lib.Seq.{length-take-le}
use Rattle.std.proofs.lemmas.List.{set-append_right}
use Rattle.std.proofs.lemmas.List.Edits.{fill_more}
use Rattle.finite.specs.Range.{fold_to}
use Rattle.finite.proofs.Fold.{fold_to-keeps}
use Rattle.adjacency.specs.Adjacency.{side}
use Rattle.slices.proofs.PartSum.{part_length}
use Rattle.open_pairs.proofs.refresh.mark_full.Goals as goal

-- n flags from the a-th on, of which i are set
set_to : List ℕ → ℕ → ℕ → List ℕ
set_to full a i = take a full ++ (replicate i 1 ++ drop i (drop a full))

set-next : (full : List ℕ) (k from n i : ℕ) → k * side + from + n ≤ length full → i < n → set (set_to full (k * side + from) i) (k * side + (from + i)) 1 ≡ set_to full (k * side + from) (i + 1)
unfolding set_to
set-next full k from n i h l =
    let a = k * side + from in
    let m : k * side + (from + i) - (k * side + from) ≡ i = omega arith in
    set-append_right (take a full) (replicate i 1 ++ drop i (drop a full)) a (k * side + (from + i)) 1 (length-take-le a full (omega arith)) (omega arith)
    ∙ rw m (ap (λ (l : List ℕ). take a full ++ l) (fill_more i 1 (drop a full) (rw length-drop (omega arith))))

set-all : (full : List ℕ) (k from n : ℕ) → k * side + from + n ≤ length full → fold_to n (λ i f. set f (k * side + (from + i)) 1) full ≡ set_to full (k * side + from) n
unfolding set_to
set-all full k from n h =
    fold_to-keeps (λ i x. x ≡ set_to full (k * side + from) i) (λ i f. set f (k * side + (from + i)) 1) full n
    (sym (take-append-drop (k * side + from) full))
    (λ i x l e. ap (λ (l : List ℕ). set l (k * side + (from + i)) 1) e ∙ set-next full k from n i h l)

pub returns : goal.returns
unfolding set_to
returns c =
    let full = c.args.full.now in
    let k = c.args.k in
    let from = c.args.from in
    let n = c.args.to - from in
    let e : k * side + c.args.to - (k * side + from) ≡ n = omega arith in
    let h : k * side + from + n ≤ length full = omega arith in
    rw (c.fill.ensures.after (λ y e. e), e, part_length full (k * side + from) n h) (sym (set-all full k from n h))
