-- A swap on the bytes of a matrix (specs/Theorems.antt): four edges set are the swap on functions, and equal edges are equal bytes.
-- Assumes nothing.
use mathlib.Core.Path.{◌≡◌, sym, ◌∙◌}
use mathlib.Core.Bool.{true}
use mathlib.Core.List.{List}
use Prim.Native.Nat.{ℕ, ◌<◌}
use native.Mathlib.Omega.{arith}
use lib.ListN.{length}
use Rattle.finite.proofs.All.{and_left}
use Rattle.graph.specs.Graph.{Simple, AddsEdge}
use Rattle.graph.proofs.Update.{adding_updates, removing_updates}
use Rattle.adjacency.specs.Adjacency.{adjacency_size, side, edge, set_edge}
use Rattle.adjacency.specs.Clauses.{ZeroOutside}
use Rattle.adjacency.proofs.Set.{set-length, set-adds, set-removes, set-outside}
use Rattle.adjacency.proofs.Bytes.{same_bytes}
use Rattle.swapping.specs.declared.Swap.{Swap}
use Rattle.swapping.specs.Swap.{are_vertices, is_allowed, can_swap, swap_bytes, undoing}
use Rattle.swapping.specs.Theorems.{CanSwap, Swapped, Kept, Matrix, SwapsWork}
use Rattle.swapping.proofs.Rule.{are-vertices, more_vertices, rule_met, met_rule}
use Rattle.swapping.proofs.Kept.{off, swap_keeps, undone-is_before}

pub swap-length : (g : List ℕ) (x : Swap) → length (swap_bytes g x) ≡ length g
swap-length g x = rw (set-length, set-length, set-length, set-length)

-- a swap that meets the rule stays within the matrix
pub swap-inside : (n : ℕ) (cls : ℕ → ℕ) (g : List ℕ) (x : Swap) → Matrix n g → can_swap n cls g x ≡ true
    → (x.a < side) × (x.b < side) × (x.c < side) × (x.d < side)
swap-inside n cls g x m h = are-vertices x side (more_vertices x n side m.few (and_left (are_vertices n x) (is_allowed cls g x) h))

module _ (n : ℕ) (cls : ℕ → ℕ) (g : List ℕ) (x : Swap) (m : Matrix n g) (can : CanSwap n cls (edge g) x) where
  -- the matrices on the way
  abbrev g1 : List ℕ
  g1 = set_edge g x.a x.b 0

  abbrev g2 : List ℕ
  g2 = set_edge g1 x.c x.d 0

  abbrev g3 : List ℕ
  g3 = set_edge g2 x.a x.d 1

  a-side : x.a < side
  a-side = omega (arith, can.a_vertex, m.few)

  b-side : x.b < side
  b-side = omega (arith, can.b_vertex, m.few)

  c-side : x.c < side
  c-side = omega (arith, can.c_vertex, m.few)

  d-side : x.d < side
  d-side = omega (arith, can.d_vertex, m.few)

  l1 : length g1 ≡ adjacency_size
  l1 = set-length g x.a x.b 0 ∙ m.sized

  l2 : length g2 ≡ adjacency_size
  l2 = set-length g1 x.c x.d 0 ∙ l1

  l3 : length g3 ≡ adjacency_size
  l3 = set-length g2 x.a x.d 1 ∙ l2

  no_ab : AddsEdge n (edge g1) x.a x.b (edge g)
  no_ab =
      set-removes n g x.a x.b m.sized a-side b-side m.few can.ab can.first
      (m.simple.symmetric x.b x.a can.b_vertex can.a_vertex ∙ can.first)

  simple1 : Simple n (edge g1)
  simple1 = (removing_updates n cls (edge g1) (edge g) x.a x.b can.a_vertex can.b_vertex can.ab no_ab m.simple).0

  still-cd : edge g1 x.c x.d ≡ 1
  still-cd =
      omega (
        arith,
        no_ab x.c x.d can.c_vertex can.d_vertex,
        can.second,
        off x.a x.b x.c x.d (λ e. can.ac (sym e.0)) (λ e. can.bc (sym e.0)),
      )

  no_cd : AddsEdge n (edge g2) x.c x.d (edge g1)
  no_cd =
      set-removes n g1 x.c x.d l1 c-side d-side m.few can.cd still-cd
      (simple1.symmetric x.d x.c can.d_vertex can.c_vertex ∙ still-cd)

  simple2 : Simple n (edge g2)
  simple2 = (removing_updates n cls (edge g2) (edge g1) x.c x.d can.c_vertex can.d_vertex can.cd no_cd simple1).0

  free-ad : edge g2 x.a x.d ≡ 0
  free-ad = omega (arith, no_ab x.a x.d can.a_vertex can.d_vertex, no_cd x.a x.d can.a_vertex can.d_vertex, can.no_ad)

  with_ad : AddsEdge n (edge g2) x.a x.d (edge g3)
  with_ad =
      set-adds n g2 x.a x.d l2 a-side d-side m.few can.ad free-ad
      (simple2.symmetric x.d x.a can.d_vertex can.a_vertex ∙ free-ad)

  simple3 : Simple n (edge g3)
  simple3 = (adding_updates n cls (edge g2) (edge g3) x.a x.d can.a_vertex can.d_vertex can.ad with_ad simple2 free-ad).0

  free-bc : edge g3 x.b x.c ≡ 0
  free-bc =
      omega (
        arith,
        no_ab x.b x.c can.b_vertex can.c_vertex,
        no_cd x.b x.c can.b_vertex can.c_vertex,
        with_ad x.b x.c can.b_vertex can.c_vertex,
        can.no_bc,
        off x.a x.d x.b x.c (λ e. can.ab (sym e.0)) (λ e. can.bd e.0),
      )

  with_bc : AddsEdge n (edge g3) x.b x.c (edge (swap_bytes g x))
  with_bc =
      set-adds n g3 x.b x.c l3 b-side c-side m.few can.bc free-bc
      (simple3.symmetric x.c x.b can.c_vertex can.b_vertex ∙ free-bc)

  pub swapped : Swapped n (edge g) x (edge (swap_bytes g x))
  swapped =
      record { once = edge g1; twice = edge g2; thrice = edge g3; no_ab = no_ab; no_cd = no_cd; with_ad = with_ad; with_bc = with_bc }

  pub kept : Kept n cls (edge g) x (edge (swap_bytes g x))
  kept = swap_keeps n cls (edge g) x m.simple can (edge (swap_bytes g x)) swapped

  outside : ZeroOutside n (swap_bytes g x)
  outside v w vs ws o =
      set-outside n g3 x.b x.c l3 b-side c-side m.few can.bc 1 can.b_vertex can.c_vertex v w vs ws o
      ∙ set-outside n g2 x.a x.d l2 a-side d-side m.few can.ad 1 can.a_vertex can.d_vertex v w vs ws o
      ∙ set-outside n g1 x.c x.d l1 c-side d-side m.few can.cd 0 can.c_vertex can.d_vertex v w vs ws o
      ∙ set-outside n g x.a x.b m.sized a-side b-side m.few can.ab 0 can.a_vertex can.b_vertex v w vs ws o
      ∙ m.outside v w vs ws o

  pub matrix : Matrix n (swap_bytes g x)
  matrix = record { sized = swap-length g x ∙ m.sized; few = m.few; simple = kept.simple; outside = outside }

pub swaps-work : SwapsWork
swaps-work n cls g x m h =
    let can = rule_met x n cls g h in
    let k = kept n cls g x m can in
    let m' = matrix n cls g x m can in
    let m'' = matrix n cls (swap_bytes g x) (undoing x) m' k.back in
    record {
      matrix = m';
      kept = k;
      can_undo = met_rule (undoing x) n cls (swap_bytes g x) k.back;
      undone =
          sym
          (same_bytes n g (swap_bytes (swap_bytes g x) (undoing x)) m.sized m''.sized m.outside m''.outside
          (undone-is_before n (edge g) (edge (swap_bytes g x)) (edge (swap_bytes (swap_bytes g x) (undoing x))) x (swapped n cls g x m can)
          (swapped n cls (swap_bytes g x) (undoing x) m' k.back)));
    }
