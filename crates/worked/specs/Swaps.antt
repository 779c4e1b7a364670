-- Worked swaps, tried in the same way (document 02, P8): refusals that compete, what the log holds in the end, and what empties it.
-- Assumes nothing.
use Rattle.std.specs.Prelude.{◌≡◌, true, List, [], ◌∷◌}
use Rattle.answer.specs.declared.Choice.TheVariants.{Lowest}
use Rattle.trying.specs.Cases.{take, lay_out_call, add, remove, complete, swap, undo, Step, ◌gives◌, LogCase, logs_hold, taken, laid_out, removed, swapped, undone, completed, no, joined, rec}

-- (1,1) = 4, with 0 – 1 and 2 – 3
abbrev pub two_edges : List Step → List Step
two_edges rest =
    take 0 (rec 1 1 4 []) gives taken 1 ∷ lay_out_call gives laid_out 4 ∷ add 0 1 gives joined ∷ add 2 3 gives joined ∷ rest

abbrev pub swaps : List LogCase
swaps =
    -- in phase 0: 3 before 13, 23 and 25; laid out: 25 for an empty log
    record {
      case =
          record {
            steps =
                take 0 (rec 1 1 4 []) gives taken 1 ∷ swap 0 1 2 3 gives no 3 0 0 ∷ swap 9 9 9 9 gives no 3 0 0 ∷ undo gives no 3 0 0
                ∷ lay_out_call gives laid_out 4 ∷ undo gives no 25 0 0 ∷ [];
            edges = [];
          };
      log = 0 ∷ 0 ∷ 0 ∷ [];
    }
    -- 13 before 23; equal vertices are 23, not 14; a swap, one against the rule behind it, its taking back, and another
    ∷ record {
      case =
          record {
            steps =
                two_edges
                (swap 0 0 2 4 gives no 13 0 0 ∷ swap 0 1 1 0 gives no 23 0 0 ∷ swap 0 1 2 3 gives swapped ∷ swap 0 1 2 3 gives no 23 0 0
                ∷ undo gives undone ∷ swap 1 0 2 3 gives swapped ∷ []);
            edges = 0 ∷ 2 ∷ 1 ∷ 3 ∷ [];
          };
      log = 1 ∷ 0 ∷ 1 ∷ 0 ∷ 2 ∷ 3 ∷ 0 ∷ [];
    }
    -- 23 where a and c are of two classes, all else being as the rule asks: (1,1) = 2 and (2,2) = 6, not complete
    ∷ record {
      case =
          record {
            steps =
                take 0 (rec 1 1 2 (rec 2 2 6 [])) gives taken 1 ∷ lay_out_call gives laid_out 5 ∷ add 0 1 gives joined ∷ add 2 3 gives joined
                ∷ swap 0 1 2 3 gives no 23 0 0 ∷ [];
            edges = 0 ∷ 1 ∷ 2 ∷ 3 ∷ [];
          };
      log = 0 ∷ 0 ∷ 0 ∷ [];
    }
    -- a completing with no join leaves the log; a removal empties it
    ∷ record {
      case =
          record {
            steps = two_edges (swap 0 1 2 3 gives swapped ∷ swap 0 3 2 1 gives swapped ∷ complete Lowest [] gives completed 0 0 0 [] ∷ []);
            edges = 0 ∷ 1 ∷ 2 ∷ 3 ∷ [];
          };
      log = 2 ∷ 0 ∷ 0 ∷ 1 ∷ 2 ∷ 3 ∷ 0 ∷ 3 ∷ 2 ∷ 1 ∷ 0 ∷ [];
    }
    ∷ record {
      case = record { steps = two_edges (swap 0 1 2 3 gives swapped ∷ remove 0 3 gives removed ∷ undo gives no 25 0 0 ∷ []); edges = 1 ∷ 2 ∷ [] };
      log = 0 ∷ 0 ∷ 0 ∷ 0 ∷ 0 ∷ 0 ∷ [];
    }
    ∷ []

-- one theorem over the list: proofs/Swaps.antt `swaps-hold`
abbrev pub SwapsHold : Type 0
SwapsHold = logs_hold swaps ≡ true
