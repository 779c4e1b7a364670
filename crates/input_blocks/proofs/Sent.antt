-- The input's blocks sent one after the other: those that are taken leave a valid state with their sum, and taking them all ends at the first refusal.
-- Assumes nothing.
use mathlib.Core.Path.{◌≡◌, refl, sym, ap, subst, ◌∙◌}
use mathlib.Core.Bool.{true}
use mathlib.Core.List.{List}
use mathlib.Core.Logic.{◌⊎◌, inl, inr}
use Prim.Native.Nat.{ℕ, zero, suc, ◌+◌, ◌≤◌, ◌<◌}
use native.Mathlib.Numerals.{add-one}
use native.Mathlib.Decide.{dec_lt}
use native.Mathlib.Omega.{arith}
use Rattle.finite.specs.Range.{sum_to}
use Rattle.finite.proofs.Sum.{sum_to-none, sum_to-more}
use Rattle.finite.proofs.Fold.{fold_to-none, fold_to-more, fold_to-keeps}
use Rattle.graph.specs.Graph.{DegreeTable}
use Rattle.graph.proofs.Counts.{same_table}
use Rattle.answer.specs.Refusals.{Go, Stop, refuse}
use Rattle.answer.specs.declared.Cause.TheVariants.{JournalFull}
use Rattle.answer.specs.declared.Refusal.{Refusal}
use Rattle.answer.specs.declared.TakeAnswer.{TakeAnswer}
use Rattle.answer.specs.declared.TakeAnswer.TheVariants.{Taken, Held, Refused}
use Rattle.table.specs.Block.{most_blocks, well_formed, block_cell, block_isolated, plus}
use Rattle.journal.specs.Journal.{phase_taking, phase, blocks, table_of}
use Rattle.journal.proofs.Store.{phase-stored, blocks-stored}
use Rattle.state.specs.State.{State}
use Rattle.state.specs.Valid.{lengths_ok, valid}
use Rattle.state.proofs.Facts.{lengths_journal, valid-journal}
use Rattle.clear.specs.Clear.{ClearedState}
use Rattle.take_block.specs.Take.{after_take, take_after}
use Rattle.take_block.proofs.Take.{with_block, taken-facts, facts_taken, held-facts, take_new-full, take-lengths, take-valid, taken-number, taken-table}
use Rattle.input_blocks.specs.Blocks.{blocks_in, block_in, Taking, take_verdict, take_next, take_all}
use Rattle.input_blocks.specs.Taken.{state_after, block_answer, AllTaken, FirstRefused}

-- the sum of the first i blocks
abbrev table_to : List ℕ → ℕ → DegreeTable
table_to input i =
    record {
      cells = λ k l. sum_to i (λ i. block_cell (block_in input i) k l);
      isolated = sum_to i (λ i. block_isolated (block_in input i));
    }

-- i blocks were taken, and left the state s
pub record Reached (input : List ℕ) (i : ℕ) (s : State) : Type 0 where
  pub lengths : lengths_ok s ≡ true
  pub is_valid : valid s ≡ true
  pub taking : phase s.journal ≡ phase_taking
  pub numbered : blocks s.journal ≡ i
  pub table : table_of s.journal ≡ table_to input i

module _ (s₀ : State) (c : ClearedState s₀) (input : List ℕ) where
  -- a taken block is stored
  stored_next : (i m : ℕ) → block_answer s₀ input i ≡ Taken m → state_after s₀ input (i + 1) ≡ with_block (state_after s₀ input i) (block_in input i)
  stored_next i m e =
      fold_to-more (λ i s. take_after s i (block_in input i)) s₀ i ∙ ap (λ (a : TakeAnswer). after_take a (state_after s₀ input i) (block_in input i)) e

  reached-next : (i m : ℕ) → Reached input i (state_after s₀ input i) → block_answer s₀ input i ≡ Taken m → Reached input (i + 1) (state_after s₀ input (i + 1))
  reached-next i m r e =
      let s = state_after s₀ input i in
      let b = block_in input i in
      let f = taken-facts s i b m e in
      let size = lengths_journal s f.lengths in
      let ok = valid-journal s f.is_valid in
      subst (Reached input (i + 1)) (sym (stored_next i m e))
      (record {
        lengths = rw e at (take-lengths s i b r.lengths);
        is_valid = rw e at (take-valid s i b r.is_valid);
        taking = phase-stored s.journal b size ok f.room f.good ∙ r.taking;
        numbered = blocks-stored s.journal b size ok f.room f.good ∙ ap (λ (m : ℕ). m + 1) r.numbered;
        table =
            rw e at (taken-table s i b m e)
            ∙ ap (λ (u : DegreeTable). plus u b) r.table
            ∙ same_table (λ k l. sym (sum_to-more (λ i. block_cell (block_in input i) k l) i)) (sym (sum_to-more (λ i. block_isolated (block_in input i)) i));
      })

  pub reached : (i : ℕ) → AllTaken s₀ input i → Reached input i (state_after s₀ input i)
  reached zero all =
      subst (Reached input 0) (sym (fold_to-none (λ i s. take_after s i (block_in input i)) s₀))
      (record {
        lengths = c.lengths;
        is_valid = c.is_valid;
        taking = c.taking;
        numbered = c.no_blocks;
        table =
            c.no_table
            ∙ same_table (λ k l. sym (sum_to-none (λ i. block_cell (block_in input i) k l))) (sym (sum_to-none (λ i. block_isolated (block_in input i))));
      })
  reached (suc i) all =
      rw (← (add-one i))
      (reached-next i (i + 1) (reached i (λ m l. all m (omega arith))) (all i (omega arith)))

  -- the first i blocks are taken, or one is refused before
  abbrev pub Sent : ℕ → Taking → Type 0
  Sent i t =
      ((t ≡ record { state = state_after s₀ input i; verdict = Go }) × AllTaken s₀ input i)
      ⊎ ((r : Refusal) × FirstRefused s₀ input r × (t.verdict ≡ Stop r))

  -- one more is taken
  all_more : (i : ℕ) → AllTaken s₀ input i → block_answer s₀ input i ≡ Taken (i + 1) → AllTaken s₀ input (i + 1)
  all_more i all e m l = go (dec_lt m i)
    where
      go : Dec (m < i) → block_answer s₀ input m ≡ Taken (m + 1)
      go (yes h) = all m h
      go (no h) = let q : i ≡ m = omega arith in subst (λ (m : ℕ). block_answer s₀ input m ≡ Taken (m + 1)) q e

  sent-next : (i : ℕ) (t : Taking) → i < blocks_in input → Sent i t → Sent (i + 1) (take_next input i t)
  sent-next i t l (inl w) = subst (λ (t : Taking). Sent (i + 1) (take_next input i t)) (sym w.0) (go (block_answer s₀ input i) refl)
    where
      go : (a : TakeAnswer) → block_answer s₀ input i ≡ a
          → Sent (i + 1) (record { state = after_take a (state_after s₀ input i) (block_in input i); verdict = take_verdict a })
      go (Taken m) e =
          let q : m ≡ i + 1 = omega (arith, taken-number (state_after s₀ input i) i (block_in input i) m e, (reached i w.1).numbered) in
          inl (
            ap (λ (s : State). record { state = s; verdict = Go }) (sym (stored_next i m e)),
            all_more i w.1 (e ∙ ap Taken q),
          )
      go Held e = absurd (omega (arith, (held-facts (state_after s₀ input i) i (block_in input i) e).low, (reached i w.1).numbered))
      go (Refused r) e = inr (r, record { block = i; within = l; taken = w.1; refused = e }, refl)
  sent-next i t l (inr z) = inr (z.0, z.1, rw z.2)

  -- taking all blocks takes each, or ends at the first refusal
  pub sent : Sent (blocks_in input) (take_all s₀ input)
  sent =
      fold_to-keeps Sent (take_next input) (record { state = s₀; verdict = Go }) (blocks_in input)
      (inl (ap (λ (s : State). record { state = s; verdict = Go }) (sym (fold_to-none (λ i s. take_after s i (block_in input i)) s₀)), λ m l. absurd (omega arith)))
      sent-next

  -- no 65 blocks are taken
  not-all : AllTaken s₀ input (most_blocks + 1) → ⊥
  not-all all =
      let f = taken-facts (state_after s₀ input most_blocks) most_blocks (block_in input most_blocks) (most_blocks + 1) (all most_blocks (omega arith)) in
      omega (arith, f.next, f.room)

  module _ (good : (i : ℕ) → i ≤ most_blocks → well_formed (block_in input i) ≡ true) where
    -- the first refused of well-formed blocks finds the journal full
    refused_full : (r : Refusal) → FirstRefused s₀ input r → r ≡ refuse JournalFull 0 0
    refused_full r f = go (dec_lt most_blocks f.block) (dec_lt f.block most_blocks)
      where
        why : TakeAnswer → Refusal
        why (Taken m) = refuse JournalFull 0 0
        why Held = refuse JournalFull 0 0
        why (Refused r) = r

        at : Reached input f.block (state_after s₀ input f.block)
        at = reached f.block f.taken

        go : Dec (most_blocks < f.block) → Dec (f.block < most_blocks) → r ≡ refuse JournalFull 0 0
        go (yes h) d = absurd (not-all (λ m l. f.taken m (omega arith)))
        go (no h) (yes l) =
            ap why
            (sym f.refused
            ∙ facts_taken (state_after s₀ input f.block) f.block (block_in input f.block)
            (record {
              lengths = at.lengths;
              is_valid = at.is_valid;
              good = good f.block (omega arith);
              next = sym at.numbered;
              taking = at.taking;
              room = omega (arith, at.numbered);
            }))
        go (no h) (no l) =
            ap why
            (sym f.refused
            ∙ take_new-full (state_after s₀ input f.block) f.block (block_in input f.block) at.lengths at.is_valid (good f.block (omega arith))
            (sym at.numbered) at.taking (omega (arith, at.numbered)))

    -- 65 well-formed blocks and whatever follows: the journal is full
    pub full_refused : most_blocks + 1 ≤ blocks_in input → (take_all s₀ input).verdict ≡ Stop (refuse JournalFull 0 0)
    full_refused many = go sent
      where
        go : Sent (blocks_in input) (take_all s₀ input) → (take_all s₀ input).verdict ≡ Stop (refuse JournalFull 0 0)
        go (inl w) = absurd (not-all (λ m l. w.1 m (omega arith)))
        go (inr z) = z.2 ∙ ap Stop (refused_full z.0 z.1)
