-- What a matrix that passes the check is, and that such a matrix passes it (specs/Clauses.antt).
-- Assumes nothing.
use mathlib.Core.Path.{◌≡◌, ap, ◌∙◌}
use mathlib.Core.Bool.{Bool, true, ◌&&◌}
use mathlib.Core.List.{List}
use mathlib.Core.Logic.{inl, inr, ⊎_elim}
use Prim.Native.Nat.{ℕ, ◌+◌, ◌-◌, ◌*◌, ◌/◌, ◌%◌, ◌≤◌, ◌<◌}
use native.Mathlib.Decide.{dec_lt}
use native.Mathlib.Omega.{arith}
use lib.Dec.{leb}
use lib.ListN.{length, get_or, take, drop, length-take, length-drop}
use lib.Seq.{get_or-take, get_or-drop}
use borrow.Author.Tests.{leb-true, le-leb}
use Rattle.finite.specs.Range.{all_to}
use Rattle.finite.proofs.All.{and_left, and_right, and_both, all_to-at, all_to-holds}
use Rattle.graph.specs.Graph.{degree, jdm}
use Rattle.graph.specs.Tests.{most_classes}
use Rattle.slices.specs.Slices.{all_zero}
use Rattle.slices.proofs.Zero.{all_zero-at, zeros-all_zero}
use Rattle.adjacency.specs.Adjacency.{side, adjacency_size, edge, mirrored, zero_outside, degrees_within, cells_within, adjacency_ok}
use Rattle.adjacency.specs.Clauses.{ZeroOutside, MatrixClauses, MatrixByClauses}
use Rattle.adjacency.proofs.Mirrored.{mirrored-simple, simple_mirrored}

module _ (n : ℕ) (g : List ℕ) where
  -- the bytes of row v behind the first n, and the bytes of the rows from n on
  end : ℕ → List ℕ
  end v = take (side - n) (drop (v * side + n) g)

  pub zero-outside : zero_outside n g ≡ true → ZeroOutside n g
  unfolding end
  zero-outside h v w vs ws o = go (dec_lt v n)
    where
      column : v < n → n ≤ w → edge g v w ≡ 0
      column l m =
          let e : v * side + w ≡ (v * side + n) + (w - n) = omega arith in
          let k : w - n < side - n = omega arith in
          rw (e, ← (get_or-drop (v * side + n) g (w - n) 0), ← (get_or-take (side - n) (drop (v * side + n) g) (w - n) 0 k))
          (all_zero-at (end v) (all_to-at (λ v. all_zero (end v)) n (and_left _ (all_zero (drop (n * side) g)) h) v l) (w - n))

      row : n ≤ v → edge g v w ≡ 0
      row m =
          let e : v * side + w ≡ n * side + (v * side + w - n * side) = omega arith in
          rw (e, ← (get_or-drop (n * side) g (v * side + w - n * side) 0))
          (all_zero-at (drop (n * side) g) (and_right (all_to n (λ v. all_zero (end v))) _ h) (v * side + w - n * side))

      go : Dec (v < n) → edge g v w ≡ 0
      go (yes l) = column l (⊎_elim (λ m. omega arith) (λ m. m) o)
      go (no l) = row (omega arith)

  pub outside_zero : length g ≡ adjacency_size → n ≤ side → ZeroOutside n g → zero_outside n g ≡ true
  unfolding end
  outside_zero long small f =
      and_both _ _ (all_to-holds (λ v. all_zero (end v)) n (λ v l. zeros-all_zero (end v) (column v l))) (zeros-all_zero (drop (n * side) g) row)
    where
      column : (v : ℕ) → v < n → (i : ℕ) → i < length (end v) → get_or (end v) i 0 ≡ 0
      column v l i m =
          let k : i < side - n = omega (arith, length-take (side - n) (drop (v * side + n) g)) in
          let e : (v * side + n) + i ≡ v * side + (n + i) = omega arith in
          rw (get_or-take (side - n) (drop (v * side + n) g) i 0 k, get_or-drop (v * side + n) g i 0, e)
          (f v (n + i) (omega arith) (omega arith) (inr (omega arith)))

      row : (i : ℕ) → i < length (drop (n * side) g) → get_or (drop (n * side) g) i 0 ≡ 0
      row i m =
          let j : ℕ = n * side + i in
          let k : j < adjacency_size = omega (arith, length-drop (n * side) g) in
          let e : j ≡ j / side * side + j % side = omega arith in
          get_or-drop (n * side) g i 0 ∙ ap (λ (p : ℕ). get_or g p 0) e ∙ f (j / side) (j % side) (omega arith) (omega arith) (inl (omega arith))

module _ (n : ℕ) (cls : ℕ → ℕ) (T : ℕ → ℕ → ℕ) (g : List ℕ) where
  pub adjacency_facts : adjacency_ok n cls T g ≡ true → MatrixClauses n cls T g
  adjacency_facts h =
      record {
        simple = mirrored-simple n g (and_left _ (zero_outside n g) mz);
        outside = zero-outside n g (and_right (mirrored n g) _ mz);
        room = λ v l. leb-true (degree n (edge g) v) (cls v) (all_to-at (λ v. leb (degree n (edge g) v) (cls v)) n room v l);
        within = λ k l p q. leb-true (jdm n cls (edge g) k l) (T k l) (all_to-at (at k) most_classes (row k p) l q);
      }
    where
      at : ℕ → ℕ → Bool
      at k l = leb (jdm n cls (edge g) k l) (T k l)

      mzd : mirrored n g && zero_outside n g && degrees_within n cls g ≡ true
      mzd = and_left _ (cells_within n cls T g) h

      mz : mirrored n g && zero_outside n g ≡ true
      mz = and_left _ (degrees_within n cls g) mzd

      room : degrees_within n cls g ≡ true
      room = and_right (mirrored n g && zero_outside n g) _ mzd

      within : cells_within n cls T g ≡ true
      within = and_right (mirrored n g && zero_outside n g && degrees_within n cls g) _ h

      row : (k : ℕ) → k < most_classes → all_to most_classes (at k) ≡ true
      row = all_to-at (λ k. all_to most_classes (at k)) most_classes within

  pub facts_adjacency : length g ≡ adjacency_size → n ≤ side → MatrixClauses n cls T g → adjacency_ok n cls T g ≡ true
  facts_adjacency long small f =
      and_both _ _
      (and_both _ _ (and_both _ _ (simple_mirrored n g f.simple) (outside_zero n g long small f.outside))
      (all_to-holds (λ v. leb (degree n (edge g) v) (cls v)) n (λ v l. le-leb (degree n (edge g) v) (cls v) (f.room v l))))
      (all_to-holds (λ k. all_to most_classes (λ l. leb (jdm n cls (edge g) k l) (T k l))) most_classes
      (λ k p. all_to-holds (λ l. leb (jdm n cls (edge g) k l) (T k l)) most_classes (λ l q. le-leb (jdm n cls (edge g) k l) (T k l) (f.within k l p q))))

pub matrix_by_clauses : MatrixByClauses
matrix_by_clauses n cls T g long small = (adjacency_facts n cls T g, facts_adjacency n cls T g long small)
