-- What a user takes from the theorems, clause by clause. A weaker statement of demand 2 or 3 or of the reach of every replica, or a tally that
-- counts a block twice, would not give it.
-- Assumes nothing.
use mathlib.Core.Path.{◌≡◌, refl, sym, ap, ◌∙◌}
use mathlib.Core.Bool.{Bool, true, false, ◌&&◌, not, cond}
use mathlib.Core.List.{List, [], ◌∷◌, ◌++◌, append_assoc}
use Prim.Native.Nat.{ℕ, ◌+◌, ◌*◌}
use native.Mathlib.Omega.{arith}
use lib.Dec.{eqb, ltb}
use lib.ListN.{length}
use borrow.Author.Tests.{ne_eqb, eqb-true}
use Rattle.finite.proofs.All.{and_left, and_right, and-false}
use Rattle.graph.specs.Graph.{Graph, isolated}
use Rattle.graph.specs.Tests.{vertices}
use Rattle.graph.specs.Theorems.{Realized}
use Rattle.answer.specs.declared.Refusal.{Refusal}
use Rattle.answer.specs.declared.switches.Switches.TheVariants.{None}
use Rattle.answer.specs.declared.AddAnswer.{AddAnswer}
use Rattle.answer.specs.declared.AddAnswer.TheVariants.{Added, Refused as AddRefused}
use Rattle.answer.specs.declared.CompleteAnswer.TheVariants.{Completed, Refused}
use Rattle.answer.specs.declared.Choice.{Choice}
use Rattle.table.specs.Block.{most_blocks, well_formed, block_isolated}
use Rattle.journal.specs.Journal.{table_of}
use Rattle.adjacency.specs.Adjacency.{edge, set_edge}
use Rattle.state.specs.Laid.{vertex_count, class_at}
use Rattle.take_block.specs.Take.{take_answer}
use Rattle.join_bytes.proofs.Alone.{none_alone}
use Rattle.add_edge.specs.Add.{add_answer, after_add, add_after}
use Rattle.add_edge.proofs.Add.{added-facts}
use Rattle.join_records.specs.Record.{join_record_size}
use Rattle.completion.proofs.Entry.{refused-not_completed}
use Rattle.shuffled_completion.specs.Outcome.{choice_answer, choice_after}
use Rattle.state.specs.State.{empty_matrix}
use Rattle.loan.specs.Loan.{Loan, cleared_loan}
use Rattle.loan.specs.Valid.{LaidLoan}
use Rattle.demands.specs.Calls.{take, complete, Call, changes, after_all}
use Rattle.demands.specs.Accepted.{accepted, AcceptedIn}
use Rattle.demands.specs.Tally.{Tally, no_tally, missing_edges, told_take, adds_block, with_block, tally, tally_all}
use Rattle.demands.specs.Demand2.{answered, answered_sum}
use Rattle.demands.specs.Demand3.{RefusedForWantOfAGraph, OpenPair, CanBeJoined}
use Rattle.demands.specs.WithinReach.{Replica, Pair, Order, adds, AddedAlone, AllAdded}
use Rattle.demands.proofs.Demand2.{demand_2}
use Rattle.demands.proofs.Demand3.{demand_3}
use Rattle.demands.proofs.WithinReach.{every_replica_within_reach}

module _ (calls : List Call) where
  -- where laying out is refused with 9, 10 or 11, no simple graph has the table ..
  pub refused_none : (tally_all cleared_loan no_tally calls).laid ≡ false → RefusedForWantOfAGraph (after_all cleared_loan calls).state
      → Realized (tally_all cleared_loan no_tally calls).table.cells → ⊥
  refused_none e = ((demand_3 calls).0 e).honest.0

  -- .. and where none has it, laying out is refused so
  pub none_refused : (tally_all cleared_loan no_tally calls).laid ≡ false → (Realized (tally_all cleared_loan no_tally calls).table.cells → ⊥)
      → RefusedForWantOfAGraph (after_all cleared_loan calls).state
  none_refused e = ((demand_3 calls).0 e).honest.1

  -- each open pair can be joined, named in either order
  pub every_pair : (tally_all cleared_loan no_tally calls).laid ≡ true → (v w : ℕ) → OpenPair (tally_all cleared_loan no_tally calls).table (after_all cleared_loan calls).state v w
      → CanBeJoined (tally_all cleared_loan no_tally calls).table (after_all cleared_loan calls) w v
  every_pair e v w o = (((demand_3 calls).1 e).joinable v w o).1

  -- an output of as many bytes as the tally's missing edges need is room enough: completing into it is not refused, whichever pairs are joined ..
  pub room_enough : (tally_all cleared_loan no_tally calls).laid ≡ true → (f : Choice) (out : List ℕ)
      → length out ≡ join_record_size * missing_edges (tally_all cleared_loan no_tally calls) → (r : Refusal)
      → let s = after_all cleared_loan calls in
      choice_answer f s (length out) ≡ Refused r → ⊥
  room_enough l f out h r e =
      let c = ((demand_3 calls).1 l).completes f out (omega arith) in
      refused-not_completed c.joins c.switches (join_record_size * c.joins) r (sym e ∙ c.answer)

  -- .. and with one byte less nothing changes
  pub short_unchanged : (tally_all cleared_loan no_tally calls).laid ≡ true → (f : Choice) (out : List ℕ)
      → length out + 1 ≡ join_record_size * missing_edges (tally_all cleared_loan no_tally calls) → choice_after f (after_all cleared_loan calls) (length out) ≡ after_all cleared_loan calls
  short_unchanged l f out h = (((demand_3 calls).1 l).refuses f out (λ room. omega arith)).unchanged

  -- once completed, exactly as many vertices have no edge as the blocks taken or held add up to
  pub isolated-exact : (f : Choice) (out : List ℕ) (joins switches n : ℕ)
      → let s = after_all cleared_loan calls in
      choice_answer f s (length out) ≡ Completed joins switches n
      → isolated (vertices (answered_sum (calls ++ changes (complete f out) ∷ []))) (edge (choice_after f s (length out)).state.adjacency)
      ≡ answered block_isolated [] cleared_loan (calls ++ changes (complete f out) ∷ [])
  isolated-exact f out joins switches n e = (demand_2.completed calls [] f out joins switches n e refl).exact_isolated

  -- once a block was taken or held, no other bytes are, under its number
  pub other_bytes_refused : (number : ℕ) (b b' : List ℕ) → AcceptedIn calls number b
      → accepted (take_answer (after_all cleared_loan calls).state number b') ≡ true → b ≡ b'
  other_bytes_refused number b b' a h =
      demand_2.once (calls ++ changes (take number b') ∷ []) number b b'
      (record {
        before = a.before;
        rest = a.rest ++ changes (take number b') ∷ [];
        offered = ap (λ (cs : List Call). cs ++ changes (take number b') ∷ []) a.offered ∙ append_assoc a.before (changes (take number b) ∷ a.rest) (changes (take number b') ∷ []);
        answer = a.answer;
      })
      (record { before = calls; rest = []; offered = refl; answer = h })

-- a block that was counted is not counted when it is sent again
pub resent_once : (t : Tally) (number : ℕ) (b : List ℕ) → adds_block t number b ≡ true
    → tally (tally t (told_take number b)) (told_take number b) ≡ tally t (told_take number b)
resent_once t number b h = rw h (ap (λ (c : Bool). cond c (with_block (with_block t b) b) (with_block t b)) again)
  where
    number_is : number ≡ t.blocks
    number_is =
        eqb-true number t.blocks
        (and_right (well_formed b) (eqb number t.blocks)
        (and_left (well_formed b && eqb number t.blocks) (not t.laid)
        (and_left (well_formed b && eqb number t.blocks && not t.laid) (ltb t.blocks most_blocks) h)))

    again : adds_block (with_block t b) number b ≡ false
    again = rw (ne_eqb number (t.blocks + 1) (λ e. omega (arith, number_is, e)), and-false (well_formed b))

-- of each pair of a list that is all added alone, the answer has no triples
added-at : (before : List Pair) (p : Pair) (rest : List Pair) (s : Loan) → AllAdded s (before ++ p ∷ rest)
    → add_answer (after_all s (adds before)) p.0 p.1 ≡ Added None
added-at [] p rest s a = alone (add_answer s p.0 p.1) a.0
  where
    alone : (x : AddAnswer) → AddedAlone x → x ≡ Added None
    alone (Added switches) e = ap Added e
    alone (AddRefused r) e = absurd e
added-at (x ∷ before) p rest s a = added-at before p rest (add_after s x.0 x.1) a.1

-- While a drawing is laid onto the empty matrix, no edge that lies is ever moved: each call sets the bytes of its own edge and no others.
pub nothing_moves : (s : Loan) → LaidLoan s → s.state.adjacency ≡ empty_matrix → (H : Graph) → Replica (table_of s.state.journal) H
    → (before : List Pair) (p : Pair) (rest : List Pair) → Order (vertex_count s.state) H (before ++ p ∷ rest)
    → (add_after (after_all s (adds before)) p.0 p.1).state.adjacency ≡ set_edge (after_all s (adds before)).state.adjacency p.0 p.1 1
nothing_moves s v e H d before p rest o =
    let x = after_all s (adds before) in
    let a = added-at before p rest s (every_replica_within_reach.from_empty s v e H d (before ++ p ∷ rest) o).added in
    ap (λ (a : AddAnswer). (after_add a x p.0 p.1).state.adjacency) a
    ∙ none_alone (vertex_count x.state) (class_at x.state) x.state.adjacency p.0 p.1 (sym (added-facts x p.0 p.1 None a).1)
