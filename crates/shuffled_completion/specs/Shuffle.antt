-- Completing by shuffled choice (document 02, P7): while a cell is short, x steps, the open pair that it picks (specs/Choice.antt) is joined, lower
-- vertex first, and its record written. The checks, the records and the answer are those of completing (crates/completion/specs/Complete.antt); the last
-- x is handed back besides.
-- Assumes nothing.
use Rattle.std.specs.Prelude.{Bool, List, ℕ}
use Rattle.finite.specs.Range.{iterate}
use Rattle.answer.specs.declared.CompleteAnswer.{CompleteAnswer}
use Rattle.answer.specs.declared.CompleteAnswer.TheVariants as Complete
use Rattle.answer.specs.declared.ShuffleAnswer.{ShuffleAnswer}
use Rattle.answer.specs.declared.ShuffleAnswer.TheVariants.{Completed, Refused}
use Rattle.journal.specs.Journal.{jdm_of}
use Rattle.state.specs.State.{State}
use Rattle.state.specs.Laid.{vertex_count, class_at}
use Rattle.loan.specs.Loan.{Loan}
use Rattle.completion.specs.Complete.{Ran, fresh, joined, is_incomplete, most_edges, ran_answer, ran_after, ran_output}
use Rattle.shuffled_completion.specs.Choice.{next_x, pair_v, pair_w, position}

-- what is done so far, and x
pub record Shuffled : Type 0 where
  pub ran : Ran
  pub x : ℕ

-- one join: x steps first, then it picks the pair
abbrev pub next_shuffled : ℕ → (ℕ → ℕ) → (ℕ → ℕ → ℕ) → Shuffled → Shuffled
next_shuffled n cls T s =
    let x = next_x s.x in
    let g = s.ran.adjacency in
    let q = position n cls T g x in
    let v = pair_v n cls T g q in
    record { ran = joined n cls s.ran v (pair_w n cls T g q v); x = x }

-- some cell is short
abbrev pub incomplete_shuffled : ℕ → (ℕ → ℕ) → (ℕ → ℕ → ℕ) → Shuffled → Bool
incomplete_shuffled n cls T s = is_incomplete n cls T s.ran

-- at most `fuel` joins, while a cell is short
abbrev pub run_shuffled : ℕ → ℕ → (ℕ → ℕ) → (ℕ → ℕ → ℕ) → Shuffled → Shuffled
run_shuffled fuel n cls T s = iterate fuel (incomplete_shuffled n cls T) (next_shuffled n cls T) s

-- a laid state completed, from x on
abbrev pub shuffled : State → ℕ → Shuffled
shuffled s x = run_shuffled most_edges (vertex_count s) (class_at s) (jdm_of s.journal) (record { ran = fresh s.adjacency; x = x })

-- an answer, and x besides where it is no refusal
abbrev pub with_x : ℕ → CompleteAnswer → ShuffleAnswer
with_x x (Complete.Completed joins switches n) = Completed joins switches n x
with_x x (Complete.Refused r) = Refused r

-- for an output of m bytes
abbrev pub shuffle_answer : Loan → ℕ → ℕ → ShuffleAnswer
shuffle_answer b x m = with_x (shuffled b.state x).x (ran_answer (shuffled b.state x).ran b m)

abbrev pub shuffle_after : Loan → ℕ → ℕ → Loan
shuffle_after b x m = ran_after (shuffled b.state x).ran b m

-- the output afterwards, for one that is lent as `out`
abbrev pub shuffle_output : Loan → ℕ → List ℕ → List ℕ
shuffle_output b x out = ran_output (shuffled b.state x).ran b out
