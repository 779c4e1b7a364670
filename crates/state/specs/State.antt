-- The state (document 01: the bench): what a call is lent. The calls over edge lists and texts alone are lent none.
-- What is lent to some calls besides, and belongs to the state, stands beside this record, not in it.
-- Assumes nothing.
use Rattle.std.specs.Prelude.{List, ℕ, replicate}
use Rattle.journal.specs.Journal.{journal_size}
use Rattle.adjacency.specs.Adjacency.{adjacency_size}

-- a journal and an adjacency matrix (document 01: the book and the grid)
pub record State : Type 0 where
  pub journal : List ℕ
  pub adjacency : List ℕ

-- the state that two lists are
abbrev pub state_of : List ℕ → List ℕ → State
state_of j g = record { journal = j; adjacency = g }

-- the state with another journal, or with another matrix
abbrev pub with_journal : State → List ℕ → State
with_journal s j = record { journal = j; adjacency = s.adjacency }

abbrev pub with_matrix : State → List ℕ → State
with_matrix s g = record { journal = s.journal; adjacency = g }

-- the empty matrix
abbrev pub empty_matrix : List ℕ
empty_matrix = replicate adjacency_size 0

-- just cleared
abbrev pub cleared : State
cleared = record { journal = replicate journal_size 0; adjacency = empty_matrix }
