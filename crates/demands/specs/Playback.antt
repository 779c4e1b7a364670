-- Playback (document 02, P2): "Playing the records onto the grid of before, each record's triples first and then its link, gives the grid of
-- after." The player knows nothing of switching: it reads bytes, and removes and adds the edges that they name.
-- Assumes nothing.
use Rattle.std.specs.Prelude.{◌≡◌, Bool, true, ◌&&◌, cond, List, [], ◌∷◌, ℕ, ◌+◌, ◌*◌, ◌/◌, ◌≤◌, ◌<◌, eqb, length, get_or, take}
use Rattle.finite.specs.Range.{fold_to}
use Rattle.answer.specs.Numbers.{add_numbers}
use Rattle.answer.specs.declared.switches.Switches.{Switches}
use Rattle.answer.specs.declared.AddAnswer.TheVariants.{Added}
use Rattle.answer.specs.declared.CompleteAnswer.TheVariants.{Completed}
use Rattle.answer.specs.declared.Choice.{Choice}
use Rattle.adjacency.specs.Adjacency.{edge, set_edge}
use Rattle.state.specs.Laid.{vertex_count}
use Rattle.swap_log.specs.Log.{empty_log}
use Rattle.loan.specs.Loan.{Loan}
use Rattle.loan.specs.Valid.{LaidLoan}
use Rattle.join_records.specs.Record.{join_record_size}
use Rattle.add_edge.specs.Add.{add_answer, add_after}
use Rattle.completion.specs.Complete.{missing, log_after}
use Rattle.shuffled_completion.specs.Outcome.{choice_answer, choice_after, choice_output}

-- a matrix in play, and whether everything so far fitted it: an edge that was removed was there, one that was added was not
pub record Played : Type 0 where
  pub adjacency : List ℕ
  pub fitted : Bool

abbrev pub edge_removed : ℕ → ℕ → Played → Played
edge_removed x y p = record { adjacency = set_edge p.adjacency x y 0; fitted = p.fitted && eqb (edge p.adjacency x y) 1 }

abbrev pub edge_added : ℕ → ℕ → Played → Played
edge_added x y p = record { adjacency = set_edge p.adjacency x y 1; fitted = p.fitted && eqb (edge p.adjacency x y) 0 }

-- three bytes a, b, t: the edge a – t is removed, b – t added; unused bytes are 255
abbrev pub play_triple : ℕ → ℕ → ℕ → Played → Played
play_triple a b t p = cond (eqb a 255) p (edge_added b t (edge_removed a t p))

-- record i, 8 bytes: its two triples, then its edge
abbrev pub play_record : List ℕ → ℕ → Played → Played
play_record records i p =
    let at : ℕ → ℕ = λ k. get_or records (join_record_size * i + k) 0 in
    edge_added (at 0) (at 1) (play_triple (at 5) (at 6) (at 7) (play_triple (at 2) (at 3) (at 4) p))

-- all records, one after the other, onto the matrix g
abbrev pub play : List ℕ → List ℕ → Played
play records g = fold_to (length records / join_record_size) (play_record records) (record { adjacency = g; fitted = true })

-- Completing a valid laid state, with any valid log, into an output with room: it makes the missing joins, and its records, played onto the matrix of before, fit and give
-- the matrix of after. Each names two vertices, the lower one first. The first join empties the log.
pub record CompletingPlays (f : Choice) (s : Loan) (out : List ℕ) : Type 0 where
  pub joins : ℕ
  pub switches : ℕ
  pub answer : choice_answer f s (length out) ≡ Completed joins switches (join_record_size * joins)
  pub made : joins ≡ missing s.state
  pub played : play (take (join_record_size * joins) (choice_output f s out)) s.state.adjacency
      ≡ record { adjacency = (choice_after f s (length out)).state.adjacency; fitted = true }
  pub log-after : (choice_after f s (length out)).log ≡ log_after joins s.log
  pub rising : (i : ℕ) → i < joins →
      let r = choice_output f s out in
      (get_or r (join_record_size * i) 0 < get_or r (join_record_size * i + 1) 0) × (get_or r (join_record_size * i + 1) 0 < vertex_count s.state)

-- an added edge as a record: its ends, and the triples that its answer hands back
abbrev pub added_record : ℕ → ℕ → Switches → List ℕ
added_record v w x =
    let n = add_numbers (Added x) in
    v ∷ w ∷ n.a1 ∷ n.b1 ∷ n.t1 ∷ n.a2 ∷ n.b2 ∷ n.t2 ∷ []

pub record Playback : Type 0 where
  pub completing : (f : Choice) (s : Loan) (out : List ℕ) → LaidLoan s → join_record_size * missing s.state ≤ length out → CompletingPlays f s out
  pub adding : (s : Loan) (v w : ℕ) (x : Switches) → add_answer s v w ≡ Added x →
      (play (added_record v w x) s.state.adjacency ≡ record { adjacency = (add_after s v w).state.adjacency; fitted = true })
      × ((add_after s v w).log ≡ empty_log)
