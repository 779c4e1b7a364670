-- Where every cell is full, completing ends where it begins.
-- Assumes nothing.
use mathlib.Core.Path.{◌≡◌}
use mathlib.Core.Bool.{false}
use mathlib.Core.List.{List}
use Prim.Native.Nat.{ℕ, ◌≤◌, ◌<◌}
use native.Mathlib.Omega.{arith}
use lib.Dec.{ltb}
use borrow.Author.Tests.{le-ltb}
use Rattle.finite.specs.Range.{iterate}
use Rattle.finite.proofs.Fold.{iterate-stop}
use Rattle.finite.proofs.Lowest.{lowest-none}
use Rattle.graph.specs.Graph.{jdm}
use Rattle.graph.specs.Tests.{least_class, most_classes}
use Rattle.graph.specs.Target.{is_short}
use Rattle.adjacency.specs.Adjacency.{edge}
use Rattle.completion.specs.Choice.{short_l}
use Rattle.completion.proofs.Works.{Chooser, short}

-- a row whose cells are full from the diagonal on has no short one
pub full_row : (n : ℕ) (cls : ℕ → ℕ) (T : ℕ → ℕ → ℕ) (g : List ℕ) (i : ℕ) → i < most_classes
    → ((j : ℕ) → i ≤ j → j < most_classes → T i j ≤ jdm n cls (edge g) i j) → ltb (short_l n cls T g i) most_classes ≡ false
full_row n cls T g i iC full =
    rw (lowest-none i most_classes (is_short n cls T (edge g) i) (omega arith) (λ j ij jC. le-ltb (jdm n cls (edge g) i j) (T i j) (full j ij jC)))
    (le-ltb most_classes most_classes (omega arith))

-- whichever pairs are chosen
module _ (n : ℕ) (cls : ℕ → ℕ) (T : ℕ → ℕ → ℕ) {S : Type 0} (c : Chooser n cls T S) (s : S)
    (full : (i j : ℕ) → least_class ≤ i → i < most_classes → i ≤ j → j < most_classes → T i j ≤ jdm n cls (edge (c.ran s).adjacency) i j) where
  full-complete : short n cls T c s ≡ false
  full-complete =
      let g = (c.ran s).adjacency in
      rw (lowest-none least_class most_classes (λ i. ltb (short_l n cls T g i) most_classes) (omega arith)
      (λ i i1 iC. full_row n cls T g i iC (λ j ij jC. full i j i1 iC ij jC)))
      (le-ltb most_classes most_classes (omega arith))

  pub full_run : (fuel : ℕ) → iterate fuel (short n cls T c) c.next s ≡ s
  full_run fuel = iterate-stop fuel 0 (short n cls T c) c.next s full-complete
