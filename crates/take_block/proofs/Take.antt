-- Taking a block: when it is taken, when it is held, and the state afterwards.
-- Assumes nothing.
use mathlib.Core.Path.{◌≡◌, refl, sym, ap, subst, ◌∙◌}
use mathlib.Core.Bool.{Bool, true, false, ◌&&◌, cond, true≢false}
use mathlib.Core.List.{List}
use Prim.Native.Nat.{ℕ, ◌+◌, ◌≤◌, ◌<◌}
use native.Mathlib.Omega.{arith}
use lib.Dec.{eqb, ltb, leb}
use lib.ListN.{length}
use borrow.Author.Tests.{eqb-true, eq-eqb, ne_eqb, leb-true, le-leb, ltb-true, lt-ltb, ltb-false, le-ltb}
use Rattle.finite.proofs.All.{and_left, and_right, and_both}
use Rattle.answer.specs.Refusals.{refuse, unless}
use Rattle.answer.specs.declared.Cause.TheVariants.{WrongPhase, BlockDiffers, JournalFull}
use Rattle.answer.specs.declared.Refusal.{Refusal}
use Rattle.answer.specs.declared.TakeAnswer.{TakeAnswer}
use Rattle.answer.specs.declared.TakeAnswer.TheVariants.{Taken, Held, Refused}
use Rattle.answer.proofs.Checks.{unless_passed, unless_stopped_passed}
use Rattle.slices.proofs.Same.{same_bytes_eq, eq_same_bytes}
use Rattle.table.specs.Block.{most_blocks, block_length, records, first_bad, well_formed, plus}
use Rattle.journal.specs.Journal.{journal_size, phase_taking, phase_laid, phase, blocks, block_at, journal_ok, table_of, same_block, stored, laid}
use Rattle.journal.proofs.Facts.{journal_facts, used_well_formed}
use Rattle.journal.proofs.Laid.{blocks-laid, block_at-laid}
use Rattle.journal.proofs.Store.{length-stored, phase-stored, blocks-stored, block_at-new, valid-stored, table_stored}
use Rattle.state.specs.State.{State, state_of, with_journal}
use Rattle.state.specs.Checks.{state_verdict}
use Rattle.state.specs.Valid.{lengths_ok, valid}
use Rattle.state.proofs.Checks.{state_passed, state_go}
use Rattle.state.proofs.Facts.{valid-facts, lengths_journal, lengths_adjacency, lengths_both, valid-journal, facts_valid_0}
use Rattle.take_block.specs.Take.{take_held, take_new, take_numbered, take_answer, after_take, take_after}

abbrev pub is_taken : TakeAnswer → Bool
is_taken (Taken m) = true
is_taken Held = false
is_taken (Refused r) = false

abbrev pub is_held : TakeAnswer → Bool
is_held (Taken m) = false
is_held Held = true
is_held (Refused r) = false

refused-not_taken : (r : Refusal) (m : ℕ) → Refused r ≡ Taken m → ⊥
refused-not_taken r m e = true≢false (ap is_taken (sym e))

refused-not_held : (r : Refusal) → Refused r ≡ Held → ⊥
refused-not_held r e = true≢false (ap is_held (sym e))

-- a block that 4 and 5 let pass, numbered as the blocks are, in phase 0, with room for it
abbrev pub is_next : List ℕ → ℕ → List ℕ → Bool
is_next j number b = well_formed b && eqb number (blocks j) && eqb (phase j) phase_taking && ltb (blocks j) most_blocks

-- a state with the block stored in it
abbrev pub with_block : State → List ℕ → State
with_block s b = with_journal s (stored s.journal b)

-- what a block that is taken passed
pub record TakenFacts (s : State) (number : ℕ) (b : List ℕ) : Type 0 where
  pub lengths : lengths_ok s ≡ true
  pub is_valid : valid s ≡ true
  pub good : well_formed b ≡ true
  pub next : number ≡ blocks s.journal
  pub taking : phase s.journal ≡ phase_taking
  pub room : blocks s.journal < most_blocks

-- what a block that is held passed: it is the block of that number
pub record HeldFacts (s : State) (number : ℕ) (b : List ℕ) : Type 0 where
  pub lengths : lengths_ok s ≡ true
  pub is_valid : valid s ≡ true
  pub low : number < blocks s.journal
  pub same : block_at s.journal number ≡ b

module _ (s : State) (number : ℕ) (b : List ℕ) where
  -- a block that gets through to its number passed 1, 2, 4 and 5
  record Passed (a : TakeAnswer) : Type 0 where
    lengths : lengths_ok s ≡ true
    is_valid : valid s ≡ true
    good : well_formed b ≡ true
    low : number ≤ blocks s.journal
    rest : cond (ltb number (blocks s.journal)) (take_held s.journal number b) (take_new s.journal) ≡ a

  passed : (a : TakeAnswer) → ((r : Refusal) → Refused r ≡ a → ⊥) → take_answer s number b ≡ a → Passed a
  passed a other e =
      let v = unless_stopped_passed (state_verdict s) Refused _ a other e in
      let p = state_passed s v.0 in
      let n = unless_passed (block_length (length b)) _ _ a (other _) v.1 in
      let r = unless_passed (eqb (first_bad b) (records b)) _ _ a (other _) n.1 in
      let k = unless_passed (leb number (blocks s.journal)) _ _ a (other _) r.1 in
      record {
        lengths = p.0;
        is_valid = p.1;
        good = and_both (block_length (length b)) (eqb (first_bad b) (records b)) n.0 r.0;
        low = leb-true number (blocks s.journal) k.0;
        rest = k.1;
      }

  -- a well-formed block on a valid state is answered by its number
  pub take-numbered : lengths_ok s ≡ true → valid s ≡ true → well_formed b ≡ true → take_answer s number b ≡ take_numbered s.journal number b
  take-numbered l v h =
      rw (
        state_go s l v,
        and_left (block_length (length b)) (eqb (first_bad b) (records b)) h,
        and_right (block_length (length b)) (eqb (first_bad b) (records b)) h,
      )

  -- a new block on a laid state is refused with 3, also where the journal is full
  pub take_new-laid : lengths_ok s ≡ true → valid s ≡ true → well_formed b ≡ true → number ≡ blocks s.journal → phase s.journal ≡ phase_laid
      → take_answer s number b ≡ Refused (refuse WrongPhase 0 0)
  take_new-laid l v h e p =
      take-numbered l v h
      ∙ rw (
        le-leb number (blocks s.journal) (omega arith),
        le-ltb number (blocks s.journal) (omega arith),
        ne_eqb (phase s.journal) phase_taking (λ z. absurd (omega (arith, z, p))),
      )

  -- and with 8 where the journal is full
  pub take_new-full : lengths_ok s ≡ true → valid s ≡ true → well_formed b ≡ true → number ≡ blocks s.journal → phase s.journal ≡ phase_taking
      → most_blocks ≤ blocks s.journal → take_answer s number b ≡ Refused (refuse JournalFull 0 0)
  take_new-full l v h e p full =
      take-numbered l v h
      ∙ rw (
        le-leb number (blocks s.journal) (omega arith),
        le-ltb number (blocks s.journal) (omega arith),
        eq-eqb (phase s.journal) phase_taking p,
        le-ltb (blocks s.journal) most_blocks full,
      )

  held-not-taken : (t : Bool) (m : ℕ) → unless t (Refused (refuse BlockDiffers 0 0)) Held ≡ Taken m → ⊥
  held-not-taken true m e = true≢false (ap is_taken (sym e))
  held-not-taken false m e = true≢false (ap is_taken (sym e))

  pub taken-facts : (m : ℕ) → take_answer s number b ≡ Taken m → TakenFacts s number b
  taken-facts m e = let p = passed (Taken m) (λ r. refused-not_taken r m) e in go p (ltb number (blocks s.journal)) refl p.rest
    where
      go : Passed (Taken m) → (t : Bool) → ltb number (blocks s.journal) ≡ t → cond t (take_held s.journal number b) (take_new s.journal) ≡ Taken m
          → TakenFacts s number b
      go p true h f = absurd (held-not-taken (same_block s.journal number b) m f)
      go p false h f =
          let o = unless_passed (eqb (phase s.journal) phase_taking) _ _ (Taken m) (refused-not_taken _ m) f in
          let q = unless_passed (ltb (blocks s.journal) most_blocks) _ _ (Taken m) (refused-not_taken _ m) o.1 in
          record {
            lengths = p.lengths;
            is_valid = p.is_valid;
            good = p.good;
            next = omega (arith, p.low, ltb-false number (blocks s.journal) h);
            taking = eqb-true (phase s.journal) phase_taking o.0;
            room = ltb-true (blocks s.journal) most_blocks q.0;
          }

  -- the answer gives the number of the next block
  pub facts_taken : TakenFacts s number b → take_answer s number b ≡ Taken (blocks s.journal + 1)
  facts_taken f =
      take-numbered f.lengths f.is_valid f.good
      ∙ rw (
        le-leb number (blocks s.journal) (omega (arith, f.next)),
        le-ltb number (blocks s.journal) (omega (arith, f.next)),
        eq-eqb (phase s.journal) phase_taking f.taking,
        lt-ltb (blocks s.journal) most_blocks f.room,
      )

  new-not-held : (p q : Bool) (r u : Refusal) (m : ℕ) → unless p (Refused r) (unless q (Refused u) (Taken m)) ≡ Held → ⊥
  new-not-held true true r u m e = true≢false (ap is_held (sym e))
  new-not-held true false r u m e = refused-not_held u e
  new-not-held false q r u m e = refused-not_held r e

  pub held-facts : take_answer s number b ≡ Held → HeldFacts s number b
  held-facts e = let p = passed Held refused-not_held e in go p (ltb number (blocks s.journal)) refl p.rest
    where
      go : Passed Held → (t : Bool) → ltb number (blocks s.journal) ≡ t → cond t (take_held s.journal number b) (take_new s.journal) ≡ Held
          → HeldFacts s number b
      go p true h f =
          record {
            lengths = p.lengths;
            is_valid = p.is_valid;
            low = ltb-true number (blocks s.journal) h;
            same = same_bytes_eq (block_at s.journal number) b (unless_passed (same_block s.journal number b) _ _ Held (refused-not_held _) f).0;
          }
      go p false h f = absurd (new-not-held (eqb (phase s.journal) phase_taking) (ltb (blocks s.journal) most_blocks) _ _ (blocks s.journal + 1) f)

  -- the block of that number is held, in either phase
  pub facts_held : HeldFacts s number b → take_answer s number b ≡ Held
  facts_held f =
      let v = valid-facts s f.lengths f.is_valid in
      let w = used_well_formed s.journal v.journal_length (journal_facts s.journal v.journal-ok) number f.low in
      take-numbered f.lengths f.is_valid (subst (λ (x : List ℕ). well_formed x ≡ true) f.same w)
      ∙ rw (
        le-leb number (blocks s.journal) (omega (arith, f.low)),
        lt-ltb number (blocks s.journal) f.low,
        eq_same_bytes (block_at s.journal number) b f.same,
      )

  -- any other block under the number of a held one is refused with 7, in either phase
  pub take-differs : lengths_ok s ≡ true → valid s ≡ true → well_formed b ≡ true → number < blocks s.journal → (block_at s.journal number ≡ b → ⊥)
      → take_answer s number b ≡ Refused (refuse BlockDiffers 0 0)
  take-differs l v h low other =
      take-numbered l v h
      ∙ rw (le-leb number (blocks s.journal) (omega arith), lt-ltb number (blocks s.journal) low, go (same_block s.journal number b) refl)
    where
      go : (t : Bool) → same_block s.journal number b ≡ t → same_block s.journal number b ≡ false
      go true e = absurd (other (same_bytes_eq (block_at s.journal number) b e))
      go false e = e

  -- and changes nothing
  pub held_keeps : take_answer s number b ≡ Held → take_after s number b ≡ s
  held_keeps e = rw e

  next-facts : lengths_ok s ≡ true → valid s ≡ true → is_next s.journal number b ≡ true → TakenFacts s number b
  next-facts l v h =
      let x = and_left (well_formed b && eqb number (blocks s.journal) && eqb (phase s.journal) phase_taking) (ltb (blocks s.journal) most_blocks) h in
      let y = and_left (well_formed b && eqb number (blocks s.journal)) (eqb (phase s.journal) phase_taking) x in
      record {
        lengths = l;
        is_valid = v;
        good = and_left (well_formed b) (eqb number (blocks s.journal)) y;
        next = eqb-true number (blocks s.journal) (and_right (well_formed b) (eqb number (blocks s.journal)) y);
        taking =
            eqb-true (phase s.journal) phase_taking
            (and_right (well_formed b && eqb number (blocks s.journal)) (eqb (phase s.journal) phase_taking) x);
        room =
            ltb-true (blocks s.journal) most_blocks
            (and_right (well_formed b && eqb number (blocks s.journal) && eqb (phase s.journal) phase_taking) (ltb (blocks s.journal) most_blocks) h);
      }

  facts-next : TakenFacts s number b → is_next s.journal number b ≡ true
  facts-next f =
      and_both (well_formed b && eqb number (blocks s.journal) && eqb (phase s.journal) phase_taking) _
      (and_both (well_formed b && eqb number (blocks s.journal)) _ (and_both (well_formed b) _ f.good (eq-eqb number (blocks s.journal) f.next))
      (eq-eqb (phase s.journal) phase_taking f.taking))
      (lt-ltb (blocks s.journal) most_blocks f.room)

  -- On a valid state: a block is taken exactly where it is the next one, and the journal then has it, else is as it was.
  pub take-taken : lengths_ok s ≡ true → valid s ≡ true
      → (is_taken (take_answer s number b) ≡ is_next s.journal number b)
      × (take_after s number b ≡ cond (is_next s.journal number b) (with_block s b) s)
  take-taken l v = go (take_answer s number b) refl (is_next s.journal number b) refl
    where
      other : (a : TakeAnswer) → take_answer s number b ≡ a → is_next s.journal number b ≡ true → is_taken a ≡ true
      other a e h = ap is_taken (sym e ∙ facts_taken (next-facts l v h))

      go : (a : TakeAnswer) → take_answer s number b ≡ a → (t : Bool) → is_next s.journal number b ≡ t
          → (is_taken a ≡ t) × (after_take a s b ≡ cond t (with_block s b) s)
      go (Taken m) e true h = (refl, refl)
      go (Taken m) e false h = absurd (true≢false (sym (facts-next (taken-facts m e)) ∙ h))
      go Held e true h = absurd (true≢false (sym (other Held e h)))
      go Held e false h = (refl, refl)
      go (Refused r) e true h = absurd (true≢false (sym (other (Refused r) e h)))
      go (Refused r) e false h = (refl, refl)

-- the journal with the block in it
module _ (s : State) (number : ℕ) (b : List ℕ) (f : TakenFacts s number b) where
  size : length s.journal ≡ journal_size
  size = lengths_journal s f.lengths

  ok : journal_ok s.journal ≡ true
  ok = valid-journal s f.is_valid

  stored-lengths : lengths_ok (with_block s b) ≡ true
  stored-lengths = lengths_both (with_block s b) (length-stored s.journal b size ok f.room f.good) (lengths_adjacency s f.lengths)

  stored-valid : valid (with_block s b) ≡ true
  stored-valid =
      facts_valid_0 (with_block s b) (phase-stored s.journal b size ok f.room f.good ∙ f.taking)
      (valid-stored s.journal b size ok f.room f.good)
      ((valid-facts s f.lengths f.is_valid).empty f.taking)

  pub stored_low : number < blocks (stored s.journal b)
  stored_low = omega (arith, f.next, blocks-stored s.journal b size ok f.room f.good)

  pub stored_same : block_at (stored s.journal b) number ≡ b
  stored_same = rw f.next (block_at-new s.journal b size ok f.room f.good)

  stored-table : table_of (stored s.journal b) ≡ plus (table_of s.journal) b
  stored-table = table_stored s.journal b size ok f.room f.good

module _ (s : State) (number : ℕ) (b : List ℕ) where
  pub take-lengths : lengths_ok s ≡ true → lengths_ok (take_after s number b) ≡ true
  take-lengths l = go (take_answer s number b) refl
    where
      go : (a : TakeAnswer) → take_answer s number b ≡ a → lengths_ok (after_take a s b) ≡ true
      go (Taken m) e = stored-lengths s number b (taken-facts s number b m e)
      go Held e = l
      go (Refused r) e = l

  -- a valid state stays valid
  pub take-valid : valid s ≡ true → valid (take_after s number b) ≡ true
  take-valid v = go (take_answer s number b) refl
    where
      go : (a : TakeAnswer) → take_answer s number b ≡ a → valid (after_take a s b) ≡ true
      go (Taken m) e = stored-valid s number b (taken-facts s number b m e)
      go Held e = v
      go (Refused r) e = v

  module _ (m : ℕ) (e : take_answer s number b ≡ Taken m) where
    -- the answer gives the number of the next block
    pub taken-number : m ≡ blocks s.journal + 1
    taken-number = ap next (sym e ∙ facts_taken s number b (taken-facts s number b m e))
      where
        next : TakeAnswer → ℕ
        next (Taken n) = n
        next Held = 0
        next (Refused r) = 0

    -- the table afterwards is the table before and the block
    pub taken-table : table_of (take_after s number b).journal ≡ plus (table_of s.journal) b
    taken-table = rw e (stored-table s number b (taken-facts s number b m e))

    -- the same block again is held ..
    pub take_again : take_answer (with_block s b) number b ≡ Held
    take_again =
        let f = taken-facts s number b m e in
        facts_held (with_block s b) number b
        (record {
          lengths = stored-lengths s number b f;
          is_valid = stored-valid s number b f;
          low = stored_low s number b f;
          same = stored_same s number b f;
        })

    -- .. also after laying out, whatever the matrix holds then
    pub take-again_laid : (h : List ℕ) → lengths_ok (state_of (laid (stored s.journal b)) h) ≡ true → valid (state_of (laid (stored s.journal b)) h) ≡ true
        → take_answer (state_of (laid (stored s.journal b)) h) number b ≡ Held
    take-again_laid h l v =
        let f = taken-facts s number b m e in
        facts_held (state_of (laid (stored s.journal b)) h) number b
        (record {
          lengths = l;
          is_valid = v;
          low = rw (blocks-laid (stored s.journal b)) (stored_low s number b f);
          same = block_at-laid (stored s.journal b) number ∙ stored_same s number b f;
        })
