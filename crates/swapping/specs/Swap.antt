-- The swap of document 003 (document 02, P8): "links a–b and c–d become a–d and b–c, where both old links exist, the four boards are distinct, a and c
-- have equal degree, and neither new link exists." On the bytes of the matrix g, with n vertices of classes cls.
-- Assumes nothing.
use Rattle.std.specs.Prelude.{Bool, ◌&&◌, not, List, ℕ, eqb, ltb}
use Rattle.adjacency.specs.Adjacency.{edge, set_edge}
use Rattle.swapping.specs.declared.Swap.{Swap}

-- the four vertices, as they are named
abbrev pub swap_of : ℕ → ℕ → ℕ → ℕ → Swap
swap_of a b c d = record { a = a; b = b; c = c; d = d }

-- all four are below n
abbrev pub are_vertices : ℕ → Swap → Bool
are_vertices n x = ltb x.a n && ltb x.b n && ltb x.c n && ltb x.d n

-- "both old links exist"
abbrev pub have_edges : List ℕ → Swap → Bool
have_edges g x = eqb (edge g x.a x.b) 1 && eqb (edge g x.c x.d) 1

-- "the four boards are distinct"
abbrev pub are_distinct : Swap → Bool
are_distinct x =
    not (eqb x.a x.b) && not (eqb x.a x.c) && not (eqb x.a x.d) && not (eqb x.b x.c) && not (eqb x.b x.d)
    && not (eqb x.c x.d)

-- "neither new link exists"
abbrev pub are_free : List ℕ → Swap → Bool
are_free g x = eqb (edge g x.a x.d) 0 && eqb (edge g x.b x.c) 0

-- the rule for four vertices; "a and c have equal degree": the same class
abbrev pub is_allowed : (ℕ → ℕ) → List ℕ → Swap → Bool
is_allowed cls g x = have_edges g x && are_distinct x && eqb (cls x.a) (cls x.c) && are_free g x

-- the whole rule
abbrev pub can_swap : ℕ → (ℕ → ℕ) → List ℕ → Swap → Bool
can_swap n cls g x = are_vertices n x && is_allowed cls g x

-- "links a–b and c–d become a–d and b–c"
abbrev pub swap_bytes : List ℕ → Swap → List ℕ
swap_bytes g x =
    let g' = set_edge (set_edge g x.a x.b 0) x.c x.d 0 in
    set_edge (set_edge g' x.a x.d 1) x.b x.c 1

-- the swap that takes it back: a–d and b–c become a–b and c–d
abbrev pub undoing : Swap → Swap
undoing x = swap_of x.a x.d x.c x.b
