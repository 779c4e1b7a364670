-- Which pair completing joins next (document 01: finish): the lowest short cell (k, l), k ≤ l, lowest k first; in it the lowest v
-- of class k, then the lowest w of class l, not linked to v and not v; for k = l, v < w.
-- n vertices of classes cls, the table T, the matrix g. Assumes nothing.
use Rattle.std.specs.Prelude.{Bool, ◌&&◌, not, cond, List, ℕ, eqb, ltb}
use Rattle.finite.specs.Range.{lowest}
use Rattle.graph.specs.Target.{is_short}
use Rattle.graph.specs.Tests.{least_class, most_classes}
use Rattle.adjacency.specs.Adjacency.{edge}

-- the lowest l from k on with (k, l) short, and the lowest k that has one; past the classes where there is none
abbrev pub short_l : ℕ → (ℕ → ℕ) → (ℕ → ℕ → ℕ) → List ℕ → ℕ → ℕ
short_l n cls T g k = lowest k most_classes (is_short n cls T (edge g) k)

abbrev pub short_k : ℕ → (ℕ → ℕ) → (ℕ → ℕ → ℕ) → List ℕ → ℕ
short_k n cls T g = lowest least_class most_classes (λ k. ltb (short_l n cls T g k) most_classes)

-- w is of class l, is not linked to v and is not v; for k = l it is above v
abbrev pub open_column : (ℕ → ℕ) → List ℕ → ℕ → ℕ → ℕ → ℕ → Bool
open_column cls g k l v w = eqb (cls w) l && eqb (edge g v w) 0 && cond (eqb k l) (ltb v w) (not (eqb v w))

abbrev pub open_w : ℕ → (ℕ → ℕ) → List ℕ → ℕ → ℕ → ℕ → ℕ
open_w n cls g k l v = lowest 0 n (open_column cls g k l v)

-- the lowest v of class k that still has such a w
abbrev pub open_v : ℕ → (ℕ → ℕ) → List ℕ → ℕ → ℕ → ℕ
open_v n cls g k l = lowest 0 n (λ v. eqb (cls v) k && ltb (open_w n cls g k l v) n)
