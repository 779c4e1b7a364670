-- Worked drawings, tried in the same way: graphs whose edges are added by hand (document 02, P6).
-- Assumes nothing.
use Rattle.std.specs.Prelude.{◌≡◌, true, List, [], ◌∷◌}
use Rattle.trying.specs.Cases.{take, lay_out_call, add, remove, figures, ◌gives◌, Case, all_hold, taken, laid_out, removed, report, joined, joined_by, no_join, rec}

abbrev pub drawings : List Case
drawings =
    -- document 004's graph in another order than its list's, each edge in some direction: no switch, and nothing is missing then
    record {
      steps =
          take 0 (rec 1 3 1 (rec 2 2 2 (rec 2 3 2 []))) gives taken 1 ∷ lay_out_call gives laid_out 4
          ∷ add 3 2 gives joined ∷ add 0 3 gives joined ∷ add 2 1 gives joined ∷ add 1 3 gives joined
          ∷ figures gives report 1 1 4 4 4 ∷ [];
      edges = 0 ∷ 3 ∷ 1 ∷ 2 ∷ 1 ∷ 3 ∷ 2 ∷ 3 ∷ [];
    }
    -- Not drawings: an edge named twice; the path 1 – 0 – 2 with the table of 0 – 2 – 1, which has its degree 2 at another vertex.
    ∷ record {
      steps =
          take 0 (rec 1 2 2 []) gives taken 1 ∷ lay_out_call gives laid_out 3
          ∷ add 2 0 gives joined ∷ add 0 2 gives no_join 15 0 0 ∷ add 1 0 gives no_join 16 1 1 ∷ [];
      edges = 0 ∷ 2 ∷ [];
    }
    -- two edges of (1,1) = 4, which took a switch, are removed and two others drawn
    ∷ record {
      steps =
          take 0 (rec 1 1 4 []) gives taken 1 ∷ lay_out_call gives laid_out 4 ∷ add 0 1 gives joined ∷ add 0 2 gives joined_by 0 3 1
          ∷ remove 3 1 gives removed ∷ remove 0 2 gives removed ∷ add 3 0 gives joined ∷ add 1 2 gives joined ∷ [];
      edges = 0 ∷ 3 ∷ 1 ∷ 2 ∷ [];
    }
    ∷ []

-- one theorem over the list: proofs/Drawings.antt `drawings-hold`
abbrev pub DrawingsHold : Type 0
DrawingsHold = all_hold drawings ≡ true
