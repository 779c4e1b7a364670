-- Document 01's sentence, whole and clause by clause: "A bench is *sound* when the book is as above with well-formed blocks; in stage 0 the grid is all zero;
-- in stage 1 the summed table passes tests 9 to 12 below, and the grid is symmetric, 0 or 1, with a zero diagonal, zero outside the boards, no board
-- above its degree, and no cell above the table." `valid` tests exactly this (proofs/Clauses.antt `valid_by_clauses`).
-- A list that is lent besides and belongs to the state has its clauses in a record of its own, beside `StateClauses`.
-- Assumes nothing.
use Rattle.std.specs.Prelude.{◌≡◌, true, List, ◌↔◌, ℕ, ◌≤◌, ◌<◌, length, get_or}
use Rattle.graph.specs.Graph.{DegreeTable}
use Rattle.graph.specs.Tests.{vertices, vertex_class, Passed}
use Rattle.journal.specs.Journal.{table_of}
use Rattle.journal.specs.Clauses.{JournalClauses}
use Rattle.adjacency.specs.Clauses.{MatrixClauses}
use Rattle.state.specs.State.{State}
use Rattle.state.specs.Valid.{lengths_ok, valid}

-- "Book, 4,162 bytes", "Grid, 40,000 bytes"
pub record Lengths (s : State) : Type 0 where
  pub journal_length : length s.journal ≡ 4162
  pub adjacency_length : length s.adjacency ≡ 40000

-- in phase 1, of the table t that the blocks add up to, and the matrix g
pub record LaidClauses (t : DegreeTable) (g : List ℕ) : Type 0 where
  -- "the summed table passes tests 9 to 12 below": 9, 10 and 11; and 12, "the sum N of all D(k) at most 200", the isolated vertices counted too
  -- (document 02, P1)
  pub tests : Passed t.cells
  pub vertices_most : vertices t ≤ 200
  -- "and the grid is symmetric, 0 or 1, with a zero diagonal, zero outside the boards, no board above its degree, and no cell above the table"
  pub matrix : MatrixClauses (vertices t) (vertex_class t) t.cells g

pub record StateClauses (s : State) : Type 0 where
  -- "the book is as above with well-formed blocks"
  pub journal_clauses : JournalClauses s.journal
  -- "in stage 0 the grid is all zero"
  pub taking : get_or s.journal 0 0 ≡ 0 → (p : ℕ) → p < 40000 → get_or s.adjacency p 0 ≡ 0
  -- "in stage 1 the summed table passes .., and the grid is .."
  pub laid : get_or s.journal 0 0 ≡ 1 → LaidClauses (table_of s.journal) s.adjacency

-- the checks 1 and 2 of document 01's table: "book or grid of another length", "bench not sound"
pub record ValidByClauses : Type 0 where
  pub lengths : (s : State) → (lengths_ok s ≡ true) ↔ Lengths s
  pub is_valid : (s : State) → Lengths s → (valid s ≡ true) ↔ StateClauses s
