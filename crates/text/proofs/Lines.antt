-- The lines of edge lists one behind another are their lines one behind another.
-- Assumes nothing.
use mathlib.Core.Path.{◌≡◌, sym, ap, ◌∙◌}
use mathlib.Core.Bool.{Bool, true, false, cond}
use mathlib.Core.List.{List, [], ◌∷◌, ◌++◌, append-nil, append_assoc}
use Prim.Native.Nat.{ℕ, zero, suc, ◌+◌, ◌*◌, ◌/◌, ◌<◌}
use native.Mathlib.Nat.{add-zero}
use native.Mathlib.Numerals.{add-one}
use native.Mathlib.Omega.{arith}
use lib.ListN.{length, length-append, get_or-append}
use lib.Seq.{get_or-append-add}
use Rattle.finite.specs.Range.{cat_to}
use Rattle.finite.proofs.Fold.{cat_to-none, cat_to-more, cat_to-cong}
use Rattle.text.specs.Text.{edge_line, edge_line_at, edge_lines}

cat_to-split : (f : ℕ → List ℕ) (m n : ℕ) → cat_to (m + n) f ≡ cat_to m f ++ cat_to n (λ i. f (m + i))
cat_to-split f m zero = rw (add-zero m, cat_to-none (λ i. f (m + i))) (sym (append-nil (cat_to m f)))
cat_to-split f m (suc n) =
    let q : m + suc n ≡ m + n + 1 = omega arith in
    rw (q, cat_to-more f (m + n), cat_to-split f m n, ← (add-one n), cat_to-more (λ i. f (m + i)) n)
    (append_assoc (cat_to m f) (cat_to n (λ i. f (m + i))) (f (m + n)))

module _ (a b : List ℕ) (m : ℕ) (h : length a ≡ 2 * m) where
  left : (i : ℕ) → i < m → edge_line_at (a ++ b) i ≡ edge_line_at a i
  left i l = rw (get_or-append a b 0 (2 * i) (omega arith), get_or-append a b 0 (2 * i + 1) (omega arith))

  right : (i : ℕ) → edge_line_at (a ++ b) (m + i) ≡ edge_line_at b i
  right i =
      let x : 2 * (m + i) ≡ length a + 2 * i = omega arith in
      let y : 2 * (m + i) + 1 ≡ length a + (2 * i + 1) = omega arith in
      rw (y, x, get_or-append-add a b (2 * i) 0, get_or-append-add a b (2 * i + 1) 0)

  lines-append : edge_lines (a ++ b) ≡ edge_lines a ++ edge_lines b
  lines-append =
      let x : length (a ++ b) / 2 ≡ m + length b / 2 = omega (arith, length-append a b) in
      let y : length a / 2 ≡ m = omega arith in
      ap (λ (k : ℕ). cat_to k (edge_line_at (a ++ b))) x
      ∙ cat_to-split (edge_line_at (a ++ b)) m (length b / 2)
      ∙ ap (λ (s : List ℕ). s ++ cat_to (length b / 2) (λ i. edge_line_at (a ++ b) (m + i))) (cat_to-cong (edge_line_at (a ++ b)) (edge_line_at a) m left)
      ∙ ap (λ (s : List ℕ). cat_to m (edge_line_at a) ++ s) (cat_to-cong (λ i. edge_line_at (a ++ b) (m + i)) (edge_line_at b) (length b / 2) (λ i l. right i))
      ∙ ap (λ (k : ℕ). cat_to k (edge_line_at a) ++ edge_lines b) (sym y)

-- whole edges in each list
pub lines_cat : (f : ℕ → List ℕ) (halves : ℕ → ℕ) → ((n : ℕ) → length (cat_to n f) ≡ 2 * halves n)
    → (n : ℕ) → edge_lines (cat_to n f) ≡ cat_to n (λ i. edge_lines (f i))
lines_cat f halves even zero = rw (cat_to-none f, cat_to-none (λ i. edge_lines (f i))) (cat_to-none (edge_line_at []))
lines_cat f halves even (suc n) =
    rw (← (add-one n), cat_to-more f n, cat_to-more (λ i. edge_lines (f i)) n)
    (lines-append (cat_to n f) (f n) (halves n) (even n) ∙ ap (λ (s : List ℕ). s ++ edge_lines (f n)) (lines_cat f halves even n))

-- one edge, or none
pub lines_one : (t : Bool) (v w : ℕ) → edge_lines (cond t (v ∷ w ∷ []) []) ≡ cond t (edge_line v w) []
lines_one true v w = cat_to-more (edge_line_at (v ∷ w ∷ [])) 0 ∙ rw (cat_to-none (edge_line_at (v ∷ w ∷ [])))
lines_one false v w = cat_to-none (edge_line_at [])
