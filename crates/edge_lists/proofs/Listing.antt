-- The list of a graph's edges: where a row begins, how long the list is, and that a graph without edges has none.
-- Assumes nothing.
use mathlib.Core.Path.{◌≡◌, refl, sym, ap, ◌∙◌}
use mathlib.Core.Bool.{Bool, true, false, ◌&&◌, cond}
use mathlib.Core.List.{[], ◌∷◌}
use Prim.Native.Nat.{ℕ, ◌+◌, ◌*◌, ◌≤◌, ◌<◌}
use native.Mathlib.Decide.{ℕ_discrete, dec_lt}
use native.Mathlib.Omega.{arith}
use lib.Dec.{ltb}
use lib.ListN.{length}
use borrow.Author.Tests.{lt-ltb, le-ltb, eq-eqb, ne_eqb}
use Rattle.finite.specs.Range.{sum_to, cat_to}
use Rattle.finite.proofs.Sum.{sum_to-cong, sum_to-const, sum_to-mono, sum_to-mirror, sum_to-cong_lower, sum_to-scale_lower}
use Rattle.finite.proofs.Fold.{cat_to-cong, cat_to-empty, cat_to-length}
use Rattle.graph.specs.Graph.{Graph, Simple, edges}
use Rattle.layout.specs.Layout.{most_vertices}
use Rattle.edge_lists.specs.EdgeList.{edge_bytes, row_bytes, list_of}

-- an edge is written at its lower end
pub edge-below : (row : ℕ → ℕ) (v w : ℕ) → w ≤ v → edge_bytes row v w ≡ []
edge-below row v w h = rw (le-ltb v w h)

pub edge-there : (row : ℕ → ℕ) (v w : ℕ) → v < w → row w ≡ 1 → edge_bytes row v w ≡ v ∷ w ∷ []
edge-there row v w h e = rw (lt-ltb v w h, eq-eqb (row w) 1 e)

pub edge_none : (row : ℕ → ℕ) (v w : ℕ) → (row w ≡ 1 → ⊥) → edge_bytes row v w ≡ []
edge_none row v w e = rw (ne_eqb (row w) 1 e) (go (ltb v w))
  where
    go : (t : Bool) → cond (t && false) (v ∷ w ∷ []) [] ≡ []
    go true = refl
    go false = refl

-- row v has nothing up to its diagonal
pub row_starts : (row : ℕ → ℕ) (v : ℕ) → cat_to (v + 1) (edge_bytes row v) ≡ []
row_starts row v = cat_to-empty (edge_bytes row v) (v + 1) (λ w h. edge-below row v w (omega arith))

-- equal rows have equal bytes
pub row_cong : (n v : ℕ) (f g : ℕ → ℕ) → ((w : ℕ) → v < w → w < n → f w ≡ g w) → row_bytes n f v ≡ row_bytes n g v
row_cong n v f g same = cat_to-cong (edge_bytes f v) (edge_bytes g v) n (λ w l. go w l (dec_lt v w))
  where
    go : (w : ℕ) → w < n → Dec (v < w) → edge_bytes f v w ≡ edge_bytes g v w
    go w l (yes h) = rw (same w h l)
    go w l (no h) = edge-below f v w (omega arith) ∙ sym (edge-below g v w (omega arith))

-- and graphs with the same edges v – w, v < w, have the same list
pub list-cong : (n : ℕ) (E E' : Graph) → ((v w : ℕ) → v < w → w < n → E v w ≡ E' v w) → list_of n E ≡ list_of n E'
list-cong n E E' same =
    cat_to-cong (λ v. row_bytes n (E v) v) (λ v. row_bytes n (E' v) v) n (λ v l. row_cong n v (E v) (E' v) (λ w h m. same v w h m))

-- a graph without edges has none to list
pub list-none : (n : ℕ) (E : Graph) → ((v w : ℕ) → E v w ≡ 0) → list_of n E ≡ []
list-none n E none =
    cat_to-empty (λ v. row_bytes n (E v) v) n
    (λ v l. cat_to-empty (edge_bytes (E v) v) n (λ w m. edge_none (E v) v w (λ e. absurd (omega (arith, e, none v w)))))

-- 2 bytes an edge
edge-length : (row : ℕ → ℕ) (v w : ℕ) → v < w → row w ≤ 1 → length (edge_bytes row v w) ≡ 2 * row w
edge-length row v w h b = go (ℕ_discrete (row w) 1)
  where
    go : Dec (row w ≡ 1) → length (edge_bytes row v w) ≡ 2 * row w
    go (yes e) = rw (edge-there row v w h e, e)
    go (no e) = let z : row w ≡ 0 = omega arith in rw (edge_none row v w e, z)

pub list_length : (n : ℕ) (E : Graph) → Simple n E → length (list_of n E) ≡ 2 * edges n E
unfolding edges
list_length n E s =
    cat_to-length (λ v. row_bytes n (E v) v) n
    ∙ sum_to-cong n (λ v. length (row_bytes n (E v) v)) (λ v. sum_to n (λ w. length (edge_bytes (E v) v w))) (λ v l. cat_to-length (edge_bytes (E v) v) n)
    ∙ sum_to-mirror n (λ v w. length (edge_bytes (E v) v w)) (λ v l. ap length (edge-below (E v) v v (omega arith)))
    ∙ sum_to-cong_lower n (λ v w. length (edge_bytes (E v) v w) + length (edge_bytes (E w) w v)) (λ v w. 2 * E v w) both
    ∙ sum_to-scale_lower 2 n E
  where
    both : (v w : ℕ) → v < n → w < v → length (edge_bytes (E v) v w) + length (edge_bytes (E w) w v) ≡ 2 * E v w
    both v w l m =
        rw (edge-below (E v) v w (omega arith), edge-length (E w) w v m (s.binary w v (omega arith) l), s.symmetric w v (omega arith) l) (omega arith)

-- a vertex has at most one edge to each lower one
pub edges_few : (n : ℕ) (E : Graph) → n ≤ most_vertices → Simple n E → edges n E ≤ most_vertices * most_vertices
unfolding edges
edges_few n E few s = omega (arith, sum_to-mono n (λ v. sum_to v (E v)) (λ v. most_vertices) row, sum_to-const most_vertices n)
  where
    row : (v : ℕ) → v < n → sum_to v (E v) ≤ most_vertices
    row v l = omega (arith, sum_to-mono v (E v) (λ w. 1) (λ w m. s.binary v w l (omega arith)), sum_to-const 1 v)
