-- What is proved of a swap: on functions (proofs/Swap.antt), for any classes; and on the bytes of a matrix (proofs/Bytes.antt).
-- Assumes nothing.
use Rattle.std.specs.Prelude.{◌≡◌, true, List, ◌≢◌, ℕ, ◌≤◌, ◌<◌, length}
use Rattle.graph.specs.Graph.{Graph, Simple, degree, edges, jdm, AddsEdge, SameOn}
use Rattle.adjacency.specs.Adjacency.{adjacency_size, side, edge}
use Rattle.adjacency.specs.Clauses.{ZeroOutside}
use Rattle.swapping.specs.declared.Swap.{Swap}
use Rattle.swapping.specs.Swap.{can_swap, swap_bytes, undoing}

-- both old edges are there, the four are distinct vertices, a and c have one class, neither new edge is there
pub record CanSwap (n : ℕ) (cls : ℕ → ℕ) (E : Graph) (x : Swap) : Type 0 where
  pub a_vertex : x.a < n
  pub b_vertex : x.b < n
  pub c_vertex : x.c < n
  pub d_vertex : x.d < n
  pub first : E x.a x.b ≡ 1
  pub second : E x.c x.d ≡ 1
  pub ab : x.a ≢ x.b
  pub ac : x.a ≢ x.c
  pub ad : x.a ≢ x.d
  pub bc : x.b ≢ x.c
  pub bd : x.b ≢ x.d
  pub cd : x.c ≢ x.d
  pub same_class : cls x.a ≡ cls x.c
  pub no_ad : E x.a x.d ≡ 0
  pub no_bc : E x.b x.c ≡ 0

-- E' is E after the swap: two edges removed, two added
pub record Swapped (n : ℕ) (E : Graph) (x : Swap) (E' : Graph) : Type 0 where
  pub once : Graph
  pub twice : Graph
  pub thrice : Graph
  pub no_ab : AddsEdge n once x.a x.b E
  pub no_cd : AddsEdge n twice x.c x.d once
  pub with_ad : AddsEdge n twice x.a x.d thrice
  pub with_bc : AddsEdge n thrice x.b x.c E'

-- what a swap keeps; and the rule of the swap that takes it back
pub record Kept (n : ℕ) (cls : ℕ → ℕ) (E : Graph) (x : Swap) (E' : Graph) : Type 0 where
  pub simple : Simple n E'
  pub cells : (k l : ℕ) → jdm n cls E' k l ≡ jdm n cls E k l
  pub degrees : (v : ℕ) → v < n → degree n E' v ≡ degree n E v
  pub count : edges n E' ≡ edges n E
  pub back : CanSwap n cls E' (undoing x)

abbrev pub SwapKeeps : Type 0
SwapKeeps = (n : ℕ) (cls : ℕ → ℕ) (E : Graph) (x : Swap) → Simple n E → CanSwap n cls E x → (E' : Graph) → Swapped n E x E' → Kept n cls E x E'

-- taken back, the graph is what it was
abbrev pub UndoneIsBefore : Type 0
UndoneIsBefore = (n : ℕ) (E E' E'' : Graph) (x : Swap) → Swapped n E x E' → Swapped n E' (undoing x) E'' → SameOn n E E''

-- the bytes g are the matrix of a simple graph on n vertices
pub record Matrix (n : ℕ) (g : List ℕ) : Type 0 where
  pub sized : length g ≡ adjacency_size
  pub few : n ≤ side
  pub simple : Simple n (edge g)
  pub outside : ZeroOutside n g

-- A swap that meets the rule leaves such a matrix, keeps every cell, every degree and the number of edges, and can be taken back; taken back, it leaves
-- the matrix of before, byte for byte.
pub record SwapWorks (n : ℕ) (cls : ℕ → ℕ) (g : List ℕ) (x : Swap) : Type 0 where
  pub matrix : Matrix n (swap_bytes g x)
  pub kept : Kept n cls (edge g) x (edge (swap_bytes g x))
  pub can_undo : can_swap n cls (swap_bytes g x) (undoing x) ≡ true
  pub undone : swap_bytes (swap_bytes g x) (undoing x) ≡ g

abbrev pub SwapsWork : Type 0
SwapsWork = (n : ℕ) (cls : ℕ → ℕ) (g : List ℕ) (x : Swap) → Matrix n g → can_swap n cls g x ≡ true → SwapWorks n cls g x
