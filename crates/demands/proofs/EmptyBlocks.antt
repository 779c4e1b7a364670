-- A block of no bytes is one like any other (specs/EmptyBlocks.antt): what holds of blocks, read for this one.
-- Assumes nothing.
use mathlib.Core.Path.{◌≡◌, refl, sym, ap, subst, ◌∙◌}
use mathlib.Core.Bool.{Bool, true, false, cond, true≢false}
use mathlib.Core.List.{List, [], ◌∷◌}
use Prim.Native.Nat.{ℕ, ◌+◌, ◌<◌}
use native.Mathlib.Omega.{arith}
use lib.ListN.{length}
use borrow.Author.Tests.{eq-eqb, lt-ltb}
use Rattle.graph.specs.Graph.{DegreeTable}
use Rattle.answer.specs.Refusals.{refuse}
use Rattle.answer.specs.declared.Cause.TheVariants.{BlockLength}
use Rattle.answer.specs.declared.TakeAnswer.TheVariants.{Refused}
use Rattle.table.specs.Block.{most_blocks, block_length}
use Rattle.table.proofs.Empty.{empty-well_formed, empty-adds, other_length}
use Rattle.journal.specs.Journal.{phase_taking, phase, blocks, table_of}
use Rattle.journal.proofs.Store.{stored-empty}
use Rattle.state.specs.Valid.{lengths_ok, valid}
use Rattle.state.proofs.Checks.{state_go}
use Rattle.state.proofs.Facts.{valid-journal}
use Rattle.take_block.specs.Take.{take_on_valid}
use Rattle.take_block.proofs.Take.{TakenFacts, facts_taken, taken-table}
use Rattle.state.specs.State.{State}
use Rattle.demands.specs.Tally.{Tally, adds_block, with_block}
use Rattle.demands.specs.EmptyBlocks.{TakesEmpty, EmptyBlocks}
use Rattle.demands.proofs.Chains.{OfTake, later_numbers}
use Rattle.demands.proofs.Kept.{reads_back}

module _ (s : State) (lengths : lengths_ok s ≡ true) (is_valid : valid s ≡ true)
    (taking : phase s.journal ≡ phase_taking) (room : blocks s.journal < most_blocks) where
  facts : TakenFacts s (blocks s.journal) []
  facts =
      record {
        lengths = lengths;
        is_valid = is_valid;
        good = empty-well_formed;
        next = refl;
        taking = taking;
        room = room;
      }

  takes-empty : TakesEmpty s
  takes-empty =
      let a = facts_taken s (blocks s.journal) [] facts in
      record {
        answer = a;
        counted = rw (a, stored-empty s.journal (valid-journal s is_valid) room);
        adds_nothing = taken-table s (blocks s.journal) [] _ a ∙ empty-adds (table_of s.journal);
      }

-- no check behind 4 gives that answer
four_length : (j : List ℕ) (number : ℕ) (b : List ℕ) → take_on_valid j number b ≡ Refused (refuse BlockLength 0 0) → block_length (length b) ≡ false
four_length j number b e = go (block_length (length b)) refl
  where
    go : (t : Bool) → block_length (length b) ≡ t → block_length (length b) ≡ false
    go true h = absurd (true≢false (sym (subst (OfTake (5 ∷ 6 ∷ 7 ∷ 3 ∷ 8 ∷ [])) (rw h at e) (later_numbers j number b))))
    go false h = h

-- the tally counts it
counted : (t : Tally) → t.laid ≡ false → t.blocks < most_blocks → adds_block t t.blocks [] ≡ true
counted t e l = rw (empty-well_formed, eq-eqb t.blocks t.blocks refl, e, lt-ltb t.blocks most_blocks l)

-- one block more, with this table
with_table : Tally → DegreeTable → Tally
with_table t u = record { blocks = t.blocks + 1; table = u; laid = t.laid; edges = t.edges }

pub empty-blocks : EmptyBlocks
unfolding with_table
empty-blocks =
    record {
      taken = takes-empty;
      held = λ calls number a.
          let h = reads_back.accepted_held calls number [] a in
          record {
            resent = h.resent;
            full_differs = λ b w l. h.differs b w (λ e. absurd (omega (arith, ap length e)));
            length_0 = h.sized;
            part = h.same;
          };
      differs = λ calls number b a l. (reads_back.accepted_held calls number b a).differs [] empty-well_formed (λ e. absurd (omega (arith, ap length e)));
      other_lengths = λ s l v number b.
          let passed = state_go s l v in
          let other = other_length (length b) in
          (λ e. other.0 (four_length s.journal number b (rw passed at e)), λ h. rw (passed, other.1 h));
      tallied = λ t e l. ap (λ (c : Bool). cond c (with_block t []) t) (counted t e l) ∙ ap (with_table t) (empty-adds t.table);
    }
