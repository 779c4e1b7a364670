-- Completing (document 01: finish): while a cell is short, the pair of specs/Choice.antt is joined, and its record (join_records/specs/Record.antt) written.
-- Assumes nothing.
use Rattle.std.specs.Prelude.{Bool, cond, List, [], ◌++◌, ℕ, ◌+◌, ◌-◌, ◌*◌, ◌/◌, ltb, eqb, length}
use Rattle.std.proofs.lemmas.List.Edits.{sets}
use Rattle.finite.specs.Range.{iterate}
use Rattle.answer.specs.Refusals.{unless_too_short, unless_stopped}
use Rattle.answer.specs.Switches.{switch_count}
use Rattle.answer.specs.declared.CompleteAnswer.{CompleteAnswer}
use Rattle.answer.specs.declared.CompleteAnswer.TheVariants.{Completed, Refused}
use Rattle.graph.specs.Graph.{edges}
use Rattle.graph.specs.Tests.{most_degree, most_classes}
use Rattle.layout.specs.Layout.{most_vertices, wanted}
use Rattle.journal.specs.Journal.{jdm_of}
use Rattle.adjacency.specs.Adjacency.{edge}
use Rattle.state.specs.State.{State, with_matrix}
use Rattle.state.specs.Laid.{vertex_count, class_at}
use Rattle.swap_log.specs.Log.{empty_log}
use Rattle.loan.specs.Loan.{Loan}
use Rattle.loan.specs.Checks.{laid_verdict}
use Rattle.join_bytes.specs.Join.{join_bytes, join_switches}
use Rattle.completion.specs.Choice.{short_k, short_l, open_v, open_w}
use Rattle.join_records.specs.Record.{join_record_size, join_record}

-- a matrix with the edges added and the switches made so far, and the records of the joins
pub record Ran : Type 0 where
  pub adjacency : List ℕ
  pub joins : ℕ
  pub switches : ℕ
  pub records : List ℕ

-- the matrix g, with nothing done yet
abbrev pub fresh : List ℕ → Ran
fresh g = record { adjacency = g; joins = 0; switches = 0; records = [] }

-- one pair v – w joined
abbrev pub joined : ℕ → (ℕ → ℕ) → Ran → ℕ → ℕ → Ran
joined n cls s v w =
    record {
      adjacency = join_bytes n cls s.adjacency v w;
      joins = s.joins + 1;
      switches = s.switches + switch_count (join_switches n cls s.adjacency v w);
      records = s.records ++ join_record v w (join_switches n cls s.adjacency v w);
    }

-- the next pair joined: the lowest open pair of the lowest short cell
abbrev pub next : ℕ → (ℕ → ℕ) → (ℕ → ℕ → ℕ) → Ran → Ran
next n cls T s =
    let g = s.adjacency in
    let k = short_k n cls T g in
    let l = short_l n cls T g k in
    let v = open_v n cls g k l in
    joined n cls s v (open_w n cls g k l v)

-- some cell is short
abbrev pub is_incomplete : ℕ → (ℕ → ℕ) → (ℕ → ℕ → ℕ) → Ran → Bool
is_incomplete n cls T s = ltb (short_k n cls T s.adjacency) most_classes

-- at most `fuel` joins, while a cell is short
abbrev pub run : ℕ → ℕ → (ℕ → ℕ) → (ℕ → ℕ → ℕ) → Ran → Ran
run fuel n cls T s = iterate fuel (is_incomplete n cls T) (next n cls T) s

-- no layout has more edges: 200 vertices of degree at most 40 have 4,000
abbrev pub most_edges : ℕ
most_edges = most_vertices * most_degree / 2

-- a laid state completed
abbrev pub completed : State → Ran
completed s = run most_edges (vertex_count s) (class_at s) (jdm_of s.journal) (fresh s.adjacency)

-- the edges that are missing: wanted, less those laid
abbrev pub missing : State → ℕ
missing s = wanted (jdm_of s.journal) - edges (vertex_count s) (edge s.adjacency)

-- What is answered where the work ends in r, whichever pairs it joins: on a valid laid state, for an output of m bytes, the check 18 before
-- anything is joined
abbrev pub ran_laid : Ran → State → ℕ → CompleteAnswer
ran_laid r s m =
    unless_too_short (join_record_size * missing s) m Refused
    (Completed r.joins r.switches (length r.records))

-- the checks 1, 2, 3 before it
abbrev pub ran_answer : Ran → Loan → ℕ → CompleteAnswer
ran_answer r b m = unless_stopped (laid_verdict b) Refused (ran_laid r b.state m)

-- the log after so many joins: emptied by the first
abbrev pub log_after : ℕ → List ℕ → List ℕ
log_after joins l = cond (eqb joins 0) l empty_log

-- what was lent, afterwards
abbrev pub after_ran : CompleteAnswer → Ran → Loan → Loan
after_ran (Completed joins switches n) r b = record { state = with_matrix b.state r.adjacency; log = log_after joins b.log }
after_ran (Refused x) r b = b

abbrev pub ran_after : Ran → Loan → ℕ → Loan
ran_after r b m = after_ran (ran_answer r b m) r b

-- the output afterwards: the records, and behind them what was there
abbrev pub output_ran : CompleteAnswer → Ran → List ℕ → List ℕ
output_ran (Completed joins switches n) r out = sets out 0 r.records
output_ran (Refused x) r out = out

abbrev pub ran_output : Ran → Loan → List ℕ → List ℕ
ran_output r b out = output_ran (ran_answer r b (length out)) r out

-- completing, for an output of m bytes, or for one that is lent as `out`
abbrev pub complete_answer : Loan → ℕ → CompleteAnswer
complete_answer b m = ran_answer (completed b.state) b m

abbrev pub complete_after : Loan → ℕ → Loan
complete_after b m = ran_after (completed b.state) b m

abbrev pub complete_output : Loan → List ℕ → List ℕ
complete_output b out = ran_output (completed b.state) b out
