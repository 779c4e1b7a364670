-- More worked examples, tried in the same way: `ordered` are those that show the order of checks, `with_isolated` those of document 02's idle boards,
-- `with_empty` those of its blocks of no bytes.
-- Assumes nothing.
use Rattle.std.specs.Prelude.{◌≡◌, true, List, [], ◌∷◌, ℕ, zero, suc, ◌+◌, replicate}
use Rattle.answer.specs.declared.Choice.TheVariants.{Lowest}
use Rattle.trying.specs.Cases.{take, lay_out_call, add, remove, complete, read_back_call, list, figures, survey, Step, ◌gives◌, Case, all_hold, taken, held, part, laid_out, completed, written, report, no, no_into, joined, no_join, join, sevens, rec}

-- The order of checks (document 01: "Checks run in table order, among those that concern the call"): calls in which refusals compete, and the
-- one that is to come out. Left to the tests: survey's 18 on 200 vertices, and 200 isolated vertices laid out. A new block on a laid state with
-- 64 blocks, whose table is too dear to compute here, is 3 by take_block/proofs/Take.antt `take_new-laid`.

-- (1,1)=2 and (1,1)=4, as blocks
abbrev pub pair : List ℕ
pair = rec 1 1 2 []

abbrev pub pairs : List ℕ
pairs = rec 1 1 4 []

-- blocks that 4 or 5 refuse, under one number: 1, 5 and 68 bytes, whose records are bad as well; a bad second record
abbrev pub malformed : ℕ → List Step → List Step
malformed number rest =
    take number (replicate 1 41) gives no 4 0 0 ∷ take number (replicate 5 41) gives no 4 0 0 ∷ take number (replicate 68 41) gives no 4 0 0
    ∷ take number (rec 1 1 2 (rec 2 1 2 [])) gives no 5 1 0 ∷ rest

-- b taken n times
abbrev pub filled : List ℕ → ℕ → List Step → List Step
filled b zero rest = rest
filled b (suc n) rest = filled b n (take n b gives taken (n + 1) ∷ rest)

-- the n edges from v to the vertices after it
abbrev pub star : ℕ → ℕ → List ℕ → List ℕ
star v zero rest = rest
star v (suc n) rest = star v n (v ∷ (v + n + 1) ∷ rest)

abbrev pub ordered : List Case
ordered =
    -- in phase 0: 3 before 13, 14, 17 and 18
    record {
      steps =
          take 0 pair gives taken 1 ∷ add 0 1 gives no_join 3 0 0 ∷ add 1 1 gives no_join 3 0 0 ∷ add 9 9 gives no_join 3 0 0
          ∷ remove 0 1 gives no 3 0 0 ∷ remove 1 1 gives no 3 0 0 ∷ remove 9 9 gives no 3 0 0
          ∷ complete Lowest [] gives no 3 0 0 ∷ list [] gives no 3 0 0 ∷ list (sevens 2) gives no_into 3 (sevens 2) ∷ [];
      edges = [];
    }
    -- a block: 4 before 5, both before 6 (number too high), 7 and held (low number) and 3 (laid); 7 and held also when laid; laying out again is 3
    ∷ record {
      steps =
          take 0 pair gives taken 1
          ∷ malformed 0 (malformed 1 (malformed 2
          (take 2 pair gives no 6 0 0 ∷ take 0 pairs gives no 7 0 0 ∷ take 0 pair gives held
          ∷ lay_out_call gives laid_out 2
          ∷ malformed 0 (malformed 1 (malformed 2
          (take 2 pair gives no 6 0 0 ∷ take 0 pairs gives no 7 0 0 ∷ take 0 pair gives held ∷ take 1 pair gives no 3 0 0
          ∷ lay_out_call gives no 3 0 0 ∷ []))))));
      edges = [];
    }
    -- with 64 blocks: 4, 5, 6, 7 and held before 8
    ∷ record {
      steps =
          filled pair 64 (malformed 64
          (take 65 pair gives no 6 0 0 ∷ take 63 pairs gives no 7 0 0 ∷ take 63 pair gives held ∷ take 64 pair gives no 8 0 0 ∷ []));
      edges = [];
    }
    -- laying out: 9 before 10, 11 and 12; 10 before 11 and 12; 11 before 12; each over all cells before the next begins, lowest k then lowest
    -- l first, in whatever order the records came
    ∷ record {
      steps = take 0 (rec 5 5 1 (rec 3 3 1 (rec 1 2 1 (rec 1 1 202 [])))) gives taken 1 ∷ lay_out_call gives no 9 3 3 ∷ [];
      edges = [];
    }
    ∷ record {
      steps = take 0 (rec 7 9 1 (rec 1 2 1 (rec 1 1 202 []))) gives taken 1 ∷ lay_out_call gives no 10 2 0 ∷ [];
      edges = [];
    }
    ∷ record {
      steps = take 0 (rec 40 40 80 (rec 3 5 5 (rec 3 4 4 (rec 1 1 202 [])))) gives taken 1 ∷ lay_out_call gives no 11 3 4 ∷ [];
      edges = [];
    }
    ∷ record { steps = take 0 (rec 1 1 202 []) gives taken 1 ∷ lay_out_call gives no 12 0 0 ∷ []; edges = [] }
    -- on two vertices, linked, so that every cell is full: 13 before 14, 15 before 16; 18 for a byte too few
    ∷ record {
      steps =
          take 0 pair gives taken 1 ∷ lay_out_call gives laid_out 2 ∷ add 1 0 gives joined
          ∷ add 2 2 gives no_join 13 0 0 ∷ add 0 2 gives no_join 13 0 0 ∷ add 1 1 gives no_join 14 0 0 ∷ add 0 1 gives no_join 15 0 0 ∷ add 1 0 gives no_join 15 0 0
          ∷ remove 2 2 gives no 13 0 0 ∷ remove 2 0 gives no 13 0 0 ∷ remove 1 1 gives no 14 0 0
          ∷ list (sevens 1) gives no_into 18 (sevens 1) ∷ list (sevens 3) gives written 2 (0 ∷ 1 ∷ 7 ∷ []) ∷ [];
      edges = 0 ∷ 1 ∷ [];
    }
    -- on document 004's four vertices: 16 names the degrees, lower first
    ∷ record {
      steps = take 0 (rec 1 3 1 (rec 2 2 2 (rec 2 3 2 []))) gives taken 1 ∷ lay_out_call gives laid_out 4 ∷ add 2 0 gives no_join 16 1 2 ∷ [];
      edges = [];
    }
    -- survey of up to 200 vertices, with an empty output: 19 for an odd length, at the number of whole edges, before 19 for an edge, at the first
    -- such one: v = w, w = 200, the edge before it again, one below it by w or by v; 19 before 20; 20 before 18
    ∷ record {
      steps =
          survey (5 ∷ 5 ∷ 9 ∷ []) 200 [] gives no 19 1 0 ∷ survey (0 ∷ 1 ∷ 3 ∷ 3 ∷ 2 ∷ 2 ∷ []) 200 [] gives no 19 1 0
          ∷ survey (0 ∷ 200 ∷ []) 200 [] gives no 19 0 0 ∷ survey (0 ∷ 1 ∷ 0 ∷ 1 ∷ []) 200 [] gives no 19 1 0
          ∷ survey (0 ∷ 2 ∷ 0 ∷ 1 ∷ []) 200 [] gives no 19 1 0 ∷ survey (1 ∷ 2 ∷ 0 ∷ 3 ∷ []) 200 [] gives no 19 1 0
          ∷ survey (0 ∷ 1 ∷ star 1 40 (9 ∷ 9 ∷ [])) 200 [] gives no 19 41 0 ∷ survey (0 ∷ 1 ∷ star 1 40 []) 200 [] gives no 20 1 0 ∷ [];
      edges = [];
    }
    ∷ []

-- one theorem over the list: proofs/Cases.antt `ordered-hold`
abbrev pub OrderedHold : Type 0
OrderedHold = all_hold ordered ≡ true

-- isolated vertices (document 02, P1)
abbrev pub with_isolated : List Case
with_isolated =
    -- their record is 0, 0 and any count; 0 beside another degree is 5
    record {
      steps =
          take 0 (rec 0 3 1 []) gives no 5 0 0 ∷ take 0 (rec 3 0 1 []) gives no 5 0 0 ∷ take 0 (rec 0 0 1 (rec 0 1 1 [])) gives no 5 1 0
          ∷ take 0 (rec 0 0 0 []) gives taken 1 ∷ lay_out_call gives laid_out 0 ∷ [];
      edges = [];
    }
    -- a table of them alone
    ∷ record {
      steps = take 0 (rec 0 0 3 []) gives taken 1 ∷ lay_out_call gives laid_out 3 ∷ complete Lowest [] gives completed 0 0 0 [] ∷ [];
      edges = [];
    }
    -- they are numbered first and never linked: 13 and 14 before 16, which names degree 0; 17; figures
    ∷ record {
      steps =
          take 0 (rec 1 1 2 (rec 0 0 2 [])) gives taken 1 ∷ lay_out_call gives laid_out 4
          ∷ add 0 4 gives no_join 13 0 0 ∷ add 0 0 gives no_join 14 0 0 ∷ add 1 0 gives no_join 16 0 0 ∷ add 3 1 gives no_join 16 0 1 ∷ remove 2 1 gives no 17 0 0
          ∷ complete Lowest (sevens 8) gives completed 1 0 8 (join 2 3 []) ∷ figures gives report 1 1 4 1 1 ∷ [];
      edges = 2 ∷ 3 ∷ [];
    }
    -- 12 counts them; 9 to 11 come first and do not see them
    ∷ record { steps = take 0 (rec 0 0 201 []) gives taken 1 ∷ lay_out_call gives no 12 0 0 ∷ []; edges = [] }
    ∷ record { steps = take 0 (rec 0 0 201 (rec 2 2 5 [])) gives taken 1 ∷ lay_out_call gives no 9 2 2 ∷ []; edges = [] }
    ∷ record { steps = take 0 (rec 0 0 201 (rec 1 3 1 [])) gives taken 1 ∷ lay_out_call gives no 10 3 0 ∷ []; edges = [] }
    ∷ record { steps = take 0 (rec 0 0 201 (rec 2 2 4 [])) gives taken 1 ∷ lay_out_call gives no 11 2 2 ∷ []; edges = [] }
    -- survey: 19 for a total above 200 before an odd length and an edge; an edge whose w is the total, at its index; of no vertices nothing is
    -- written; of three, two of them linked, two records, that of the isolated one first, and 18 for a byte too few
    ∷ record {
      steps =
          survey [] 201 [] gives no 19 0 0 ∷ survey (5 ∷ 6 ∷ 9 ∷ []) 201 [] gives no 19 0 0 ∷ survey (0 ∷ 1 ∷ 3 ∷ 3 ∷ []) 201 [] gives no 19 0 0
          ∷ survey (0 ∷ 1 ∷ 0 ∷ 3 ∷ []) 3 [] gives no 19 1 0
          ∷ survey [] 0 [] gives written 0 [] ∷ survey (0 ∷ 1 ∷ []) 3 (sevens 7) gives no_into 18 (sevens 7)
          ∷ survey (0 ∷ 1 ∷ []) 3 (sevens 8) gives written 8 (rec 0 0 1 (rec 1 1 2 [])) ∷ [];
      edges = [];
    }
    ∷ []

-- one theorem over the list: proofs/Cases.antt `with_isolated-hold`
abbrev pub WithIsolatedHold : Type 0
WithIsolatedHold = all_hold with_isolated ≡ true

-- blocks of no bytes (document 02, P4)
abbrev pub with_empty : List Case
with_empty =
    -- the first, one between and the last; 6 for a number too high; resent, held; 7 for a full one over it and for it over a full one; read back, a
    -- part of length 0, while what is not held is 6; N and figures as without them, but for the count of blocks; laid out, held and 7 as before, and 3
    record {
      steps =
          take 1 [] gives no 6 0 0 ∷ take 0 [] gives taken 1 ∷ take 0 [] gives held ∷ take 0 pair gives no 7 0 0
          ∷ take 1 pair gives taken 2 ∷ take 1 [] gives no 7 0 0 ∷ take 2 [] gives taken 3 ∷ take 3 pairs gives taken 4 ∷ take 4 [] gives taken 5
          ∷ read_back_call 0 gives part [] ∷ read_back_call 1 gives part pair ∷ read_back_call 4 gives part [] ∷ read_back_call 5 gives no 6 0 0
          ∷ lay_out_call gives laid_out 6 ∷ figures gives report 1 5 6 3 0
          ∷ take 4 [] gives held ∷ take 3 [] gives no 7 0 0 ∷ take 4 pair gives no 7 0 0 ∷ take 5 [] gives no 3 0 0 ∷ take 6 [] gives no 6 0 0
          ∷ read_back_call 2 gives part [] ∷ read_back_call 5 gives no 6 0 0 ∷ [];
      edges = [];
    }
    -- no other block: no vertices
    ∷ record { steps = take 0 [] gives taken 1 ∷ lay_out_call gives laid_out 0 ∷ complete Lowest [] gives completed 0 0 0 [] ∷ []; edges = [] }
    -- 64 of them, then 8, for one with bytes too; 6, 7 and held before 8
    ∷ record {
      steps =
          filled [] 64
          (take 65 [] gives no 6 0 0 ∷ take 63 pair gives no 7 0 0 ∷ take 63 [] gives held ∷ take 64 [] gives no 8 0 0 ∷ take 64 pair gives no 8 0 0
          ∷ read_back_call 63 gives part [] ∷ read_back_call 64 gives no 6 0 0 ∷ []);
      edges = [];
    }
    ∷ []

-- one theorem over the list: proofs/Cases.antt `with_empty-hold`
abbrev pub WithEmptyHold : Type 0
WithEmptyHold = all_hold with_empty ≡ true
