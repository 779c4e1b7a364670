-- Worked examples as lists of cases (trying/specs/Cases.antt): `starred` are the starred cases of document 01 ("Tables to try"), `moved` those of
-- document 02's switches and records, `picked` those of its shuffled completing.
-- Assumes nothing.
use Rattle.std.specs.Prelude.{◌≡◌, true, List, [], ◌∷◌}
use Rattle.answer.specs.declared.Choice.TheVariants.{Lowest, Picked}
use Rattle.trying.specs.Cases.{take, lay_out_call, add, complete, ◌gives◌, Case, all_hold, taken, laid_out, completed, completed_at, no, no_into, joined, joined_by, joined_by_two, join, join_by, join_by_two, sevens, rec}

-- the ten starred lines, in document 01's order
abbrev pub starred : List Case
starred =
    record { steps = lay_out_call gives laid_out 0 ∷ complete Lowest [] gives completed 0 0 0 [] ∷ []; edges = [] }
    ∷ record {
      steps = take 0 (rec 1 1 2 []) gives taken 1 ∷ lay_out_call gives laid_out 2 ∷ complete Lowest (sevens 8) gives completed 1 0 8 (join 0 1 []) ∷ [];
      edges = 0 ∷ 1 ∷ [];
    }
    ∷ record {
      steps =
          take 0 (rec 1 3 1 (rec 2 2 2 (rec 2 3 2 []))) gives taken 1 ∷ lay_out_call gives laid_out 4
          ∷ complete Lowest (sevens 32) gives completed 4 0 32 (join 0 3 (join 1 2 (join 1 3 (join 2 3 [])))) ∷ [];
      edges = 0 ∷ 3 ∷ 1 ∷ 2 ∷ 1 ∷ 3 ∷ 2 ∷ 3 ∷ [];
    }
    ∷ record {
      steps =
          take 0 (rec 2 2 8 []) gives taken 1 ∷ lay_out_call gives laid_out 4
          ∷ complete Lowest (sevens 33) gives completed 4 2 32 (join 0 1 (join 0 2 (join_by 0 3 0 1 2 (join_by 0 2 0 3 1 (7 ∷ []))))) ∷ [];
      edges = 0 ∷ 2 ∷ 0 ∷ 3 ∷ 1 ∷ 2 ∷ 1 ∷ 3 ∷ [];
    }
    ∷ record {
      steps =
          take 0 (rec 2 2 8 []) gives taken 1 ∷ lay_out_call gives laid_out 4
          ∷ add 0 1 gives joined ∷ add 0 2 gives joined ∷ add 1 2 gives joined ∷ add 0 3 gives joined_by 0 3 1 ∷ [];
      edges = 0 ∷ 2 ∷ 0 ∷ 3 ∷ 1 ∷ 2 ∷ 1 ∷ 3 ∷ [];
    }
    ∷ record { steps = take 0 (rec 2 2 5 []) gives taken 1 ∷ lay_out_call gives no 9 2 2 ∷ []; edges = [] }
    ∷ record { steps = take 0 (rec 1 3 1 []) gives taken 1 ∷ lay_out_call gives no 10 3 0 ∷ []; edges = [] }
    ∷ record { steps = take 0 (rec 2 2 4 []) gives taken 1 ∷ lay_out_call gives no 11 2 2 ∷ []; edges = [] }
    ∷ record {
      steps =
          take 0 (rec 2 2 6 []) gives taken 1 ∷ lay_out_call gives laid_out 3
          ∷ complete Lowest (sevens 24) gives completed 3 0 24 (join 0 1 (join 0 2 (join 1 2 []))) ∷ [];
      edges = 0 ∷ 1 ∷ 0 ∷ 2 ∷ 1 ∷ 2 ∷ [];
    }
    ∷ record {
      steps =
          take 0 (rec 2 3 6 []) gives taken 1 ∷ lay_out_call gives laid_out 5
          ∷ complete Lowest (sevens 48) gives completed 6 0 48 (join 0 3 (join 0 4 (join 1 3 (join 1 4 (join 2 3 (join 2 4 [])))))) ∷ [];
      edges = 0 ∷ 3 ∷ 0 ∷ 4 ∷ 1 ∷ 3 ∷ 1 ∷ 4 ∷ 2 ∷ 3 ∷ 2 ∷ 4 ∷ [];
    }
    ∷ []

-- "The starred cases are proved as a group, by one theorem over their list": proofs/Cases.antt `starred-hold`
abbrev pub StarredHold : Type 0
StarredHold = all_hold starred ≡ true

-- what moved (document 02, P2)
abbrev pub moved : List Case
moved =
    -- joins with one switch and with two; one alone stands first, also where it is for the second end
    record {
      steps =
          take 0 (rec 1 1 6 []) gives taken 1 ∷ lay_out_call gives laid_out 6
          ∷ add 0 1 gives joined ∷ add 2 0 gives joined_by 0 3 1 ∷ add 0 1 gives joined_by_two 0 4 2 1 5 3 ∷ [];
      edges = 0 ∷ 1 ∷ 2 ∷ 4 ∷ 3 ∷ 5 ∷ [];
    }
    -- the same joins by completing: 3 before 18, 18 for a byte too few, with every byte as it was; what is behind the records stays
    ∷ record {
      steps =
          take 0 (rec 1 1 6 []) gives taken 1 ∷ complete Lowest [] gives no 3 0 0 ∷ lay_out_call gives laid_out 6
          ∷ complete Lowest (sevens 23) gives no_into 18 (sevens 23)
          ∷ complete Lowest (sevens 25) gives completed 3 3 24 (join 0 1 (join_by 0 2 0 3 1 (join_by_two 0 1 0 4 2 1 5 3 (7 ∷ [])))) ∷ [];
      edges = 0 ∷ 1 ∷ 2 ∷ 4 ∷ 3 ∷ 5 ∷ [];
    }
    -- room for the missing edges is enough, and none is needed where none is missing
    ∷ record {
      steps =
          take 0 (rec 1 1 4 []) gives taken 1 ∷ lay_out_call gives laid_out 4 ∷ add 0 1 gives joined
          ∷ complete Lowest (sevens 7) gives no_into 18 (sevens 7) ∷ complete Lowest (sevens 8) gives completed 1 1 8 (join_by 0 2 0 3 1 [])
          ∷ complete Lowest [] gives completed 0 0 0 [] ∷ complete Lowest (sevens 1) gives completed 0 0 0 (sevens 1) ∷ [];
      edges = 0 ∷ 2 ∷ 1 ∷ 3 ∷ [];
    }
    ∷ []

-- one theorem over the list: proofs/Cases.antt `moved-hold`
abbrev pub MovedHold : Type 0
MovedHold = all_hold moved ≡ true

-- shuffled completing (document 02, P7): (2,2)=8 from x = 0, where a byte too few is 18 and what is behind the records stays
abbrev pub picked : List Case
picked =
    record {
      steps =
          take 0 (rec 2 2 8 []) gives taken 1 ∷ lay_out_call gives laid_out 4
          ∷ complete (Picked 0) (sevens 31) gives no_into 18 (sevens 31)
          ∷ complete (Picked 0) (sevens 33) gives completed_at 4 1 32 2868466484 (join 0 3 (join 0 2 (join_by 0 1 0 2 3 (join 1 3 (7 ∷ []))))) ∷ [];
      edges = 0 ∷ 1 ∷ 0 ∷ 2 ∷ 1 ∷ 3 ∷ 2 ∷ 3 ∷ [];
    }
    ∷ []

-- one theorem over the list: proofs/Cases.antt `picked-hold`
abbrev pub PickedHold : Type 0
PickedHold = all_hold picked ≡ true
