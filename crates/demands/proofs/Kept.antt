-- The journal holds exactly the blocks that were accepted, and keeps each: what is read back is what was taken (specs/ReadBack.antt).
-- Assumes nothing.
use mathlib.Core.Path.{◌≡◌, refl, sym, ap, subst, ◌∙◌}
use mathlib.Core.Bool.{true, true≢false}
use mathlib.Core.List.{List, [], ◌∷◌, ◌++◌}
use mathlib.Core.Logic.{◌⊎◌, inl, inr, ⊎_elim}
use Prim.Native.Nat.{ℕ, ◌<◌}
use native.Mathlib.Decide.{dec_lt}
use native.Mathlib.Omega.{arith}
use lib.ListN.{length}
use Rattle.answer.specs.declared.TakeAnswer.{TakeAnswer}
use Rattle.answer.specs.declared.TakeAnswer.TheVariants.{Taken, Held, Refused}
use Rattle.answer.specs.declared.LayOutAnswer.{LayOutAnswer}
use Rattle.answer.specs.declared.LayOutAnswer.TheVariants as LayOut
use Rattle.answer.specs.declared.LengthAnswer.TheVariants.{Length}
use Rattle.journal.specs.Journal.{blocks, block_at}
use Rattle.journal.proofs.Store.{blocks-stored, block_at-stored}
use Rattle.journal.proofs.Laid.{blocks-laid, block_at-laid}
use Rattle.state.specs.State.{State}
use Rattle.loan.specs.Loan.{Loan, with_state, cleared_loan}
use Rattle.state.proofs.Facts.{lengths_journal, valid-journal}
use Rattle.take_block.specs.Take.{take_answer, after_take, take_after}
use Rattle.lay_out.specs.LayOut.{lay_out_answer, after_lay_out}
use Rattle.clear.proofs.Cleared.{cleared-state}
use Rattle.take_block.proofs.Take.{taken-facts, held-facts, facts_held, take-differs, stored_low, stored_same}
use Rattle.held_block.proofs.Held.{read_back}
use Rattle.demands.specs.Calls.{Change, take, lay_out_call, add, remove, complete, swap, undo, Call, changes, reads, changed, after, after_all}
use Rattle.demands.specs.Tally.{Tally, no_tally, told, tally, tally_all}
use Rattle.demands.specs.Accepted.{accepted, AcceptedIn}
use Rattle.demands.specs.ReadBack.{Holds, ReadsBack}
use Rattle.demands.proofs.Journals.{add-journal, remove-journal, complete-journal, swap-journal, undo-journal}
use Rattle.demands.specs.Reach.{Reach}
use Rattle.demands.proofs.Reach.{reach, after_call, after-append, reached_lengths, reached_valid}

-- the journal has b as its block of this number
record Has (s : State) (number : ℕ) (b : List ℕ) : Type 0 where
  low : number < blocks s.journal
  same : block_at s.journal number ≡ b

-- the same journal has the same block
has_same : {s s' : State} {number : ℕ} {b : List ℕ} → s'.journal ≡ s.journal → Has s number b → Has s' number b
has_same e h = record { low = rw e h.low; same = rw e h.same }

-- a call under this number was accepted, from the loan s on
abbrev AcceptedFrom : Loan → List Call → ℕ → Type 0
AcceptedFrom s calls number =
    (b : List ℕ) × (before rest : List Call)
    × (calls ≡ before ++ changes (take number b) ∷ rest)
    × (accepted (take_answer (after_all s before).state number b) ≡ true)

module _ (s : Loan) (t : Tally) (r : Reach s t) where
  -- a block that is accepted is there afterwards
  accepted-has : (number : ℕ) (b : List ℕ) → accepted (take_answer s.state number b) ≡ true → Has (take_after s.state number b) number b
  accepted-has number b = go (take_answer s.state number b) refl
    where
      go : (a : TakeAnswer) → take_answer s.state number b ≡ a → accepted a ≡ true
          → Has (after_take a s.state b) number b
      go (Taken m) e h =
          let f = taken-facts s.state number b m e in
          record { low = stored_low s.state number b f; same = stored_same s.state number b f }
      go Held e h = let f = held-facts s.state number b e in record { low = f.low; same = f.same }
      go (Refused q) e h = absurd (true≢false (sym h))

  -- a block that is there stays
  has-call : (c : Change) (number : ℕ) (b : List ℕ) → Has s.state number b → Has (changed s c).state number b
  has-call (take n x) number b h = go (take_answer s.state n x) refl
    where
      go : (a : TakeAnswer) → take_answer s.state n x ≡ a → Has (after_take a s.state x) number b
      go (Taken m) e =
          let f = taken-facts s.state n x m e in
          let size = lengths_journal s.state f.lengths in
          let ok = valid-journal s.state f.is_valid in
          record {
            low = omega (arith, h.low, blocks-stored s.state.journal x size ok f.room f.good);
            same = block_at-stored s.state.journal x size ok f.room f.good number h.low ∙ h.same;
          }
      go Held e = h
      go (Refused q) e = h
  has-call lay_out_call number b h = go (lay_out_answer s.state)
    where
      go : (a : LayOutAnswer) → Has (after_lay_out a s.state) number b
      go (LayOut.LaidOut n) = record { low = rw (blocks-laid s.state.journal) h.low; same = block_at-laid s.state.journal number ∙ h.same }
      go (LayOut.Refused q) = h
  has-call (add v w) number b h = has_same (add-journal s v w) h
  has-call (remove v w) number b h = has_same (remove-journal s v w) h
  has-call (complete f out) number b h = has_same (complete-journal f s (length out)) h
  has-call (swap x) number b h = has_same (swap-journal s x) h
  has-call undo number b h = has_same (undo-journal s) h

  -- a block that is there was there before the call, or was accepted by it
  came-call : (c : Change) (cs : List Call) (number : ℕ) → number < blocks (changed s c).state.journal
      → (number < blocks s.state.journal) ⊎ AcceptedFrom s (changes c ∷ cs) number
  came-call (take n x) cs number l = go (take_answer s.state n x) refl l
    where
      go : (a : TakeAnswer) → take_answer s.state n x ≡ a → number < blocks (after_take a s.state x).journal
          → (number < blocks s.state.journal) ⊎ AcceptedFrom s (changes (take n x) ∷ cs) number
      go (Taken m) e l = old (dec_lt number (blocks s.state.journal))
        where
          old : Dec (number < blocks s.state.journal) → (number < blocks s.state.journal) ⊎ AcceptedFrom s (changes (take n x) ∷ cs) number
          old (yes p) = inl p
          old (no p) =
              let f = taken-facts s.state n x m e in
              let size = lengths_journal s.state f.lengths in
              let ok = valid-journal s.state f.is_valid in
              let q : n ≡ number = omega (arith, f.next, l, p, blocks-stored s.state.journal x size ok f.room f.good) in
              inr (subst (λ (i : ℕ). AcceptedFrom s (changes (take n x) ∷ cs) i) q (x, [], cs, refl, ap accepted e))
      go Held e l = inl l
      go (Refused q) e l = inl l
  came-call lay_out_call cs number l = go (lay_out_answer s.state) l
    where
      go : (a : LayOutAnswer) → number < blocks (after_lay_out a s.state).journal
          → (number < blocks s.state.journal) ⊎ AcceptedFrom s (changes lay_out_call ∷ cs) number
      go (LayOut.LaidOut n) l = inl (rw (blocks-laid s.state.journal) at l)
      go (LayOut.Refused q) l = inl l
  came-call (add v w) cs number l = inl (rw (add-journal s v w) at l)
  came-call (remove v w) cs number l = inl (rw (remove-journal s v w) at l)
  came-call (complete f out) cs number l = inl (rw (complete-journal f s (length out)) at l)
  came-call (swap x) cs number l = inl (rw (swap-journal s x) at l)
  came-call undo cs number l = inl (rw (undo-journal s) at l)

-- over a whole list
has_all : (calls : List Call) (s : Loan) (t : Tally) → Reach s t → (number : ℕ) (b : List ℕ) → Has s.state number b → Has (after_all s calls).state number b
has_all [] s t r number b h = h
has_all (changes c ∷ cs) s t r number b h =
    has_all cs (changed s c) (tally t (told s c)) (after_call s t r c) number b (has-call s t r c number b h)
has_all (reads q ∷ cs) s t r number b h = has_all cs s t r number b h

came_all : (calls : List Call) (s : Loan) (t : Tally) → Reach s t → (number : ℕ) → number < blocks (after_all s calls).state.journal
    → (number < blocks s.state.journal) ⊎ AcceptedFrom s calls number
came_all [] s t r number l = inl l
came_all (changes c ∷ cs) s t r number l =
    ⊎_elim (came-call s t r c cs number) (λ a. inr (later (changes c) a))
    (came_all cs (changed s c) (tally t (told s c)) (after_call s t r c) number l)
  where
    later : (c : Call) → AcceptedFrom (after s c) cs number → AcceptedFrom s (c ∷ cs) number
    later c a = (a.0, c ∷ a.1, a.2, ap (λ (x : List Call). c ∷ x) a.3, a.4)
came_all (reads q ∷ cs) s t r number l =
    ⊎_elim inl (λ a. inr (a.0, reads q ∷ a.1, a.2, ap (λ (x : List Call). reads q ∷ x) a.3, a.4)) (came_all cs s t r number l)

-- a block accepted since the clear is there
accepted-there : (calls : List Call) (number : ℕ) (b : List ℕ) → AcceptedIn calls number b → Has (after_all cleared_loan calls).state number b
accepted-there calls number b a =
    subst (λ (s : Loan). Has s.state number b)
    (sym (after-append a.before (changes (take number b) ∷ a.rest) cleared_loan) ∙ ap (after_all cleared_loan) (sym a.offered))
    (has_all a.rest (with_state s (take_after s.state number b)) _ (after_call s (tally_all cleared_loan no_tally a.before) r (take number b)) number b
    (accepted-has s (tally_all cleared_loan no_tally a.before) r number b a.answer))
  where
    s : Loan
    s = after_all cleared_loan a.before

    r : Reach (after_all cleared_loan a.before) (tally_all cleared_loan no_tally a.before)
    r = reach a.before

-- one number, one block
pub accepted-once : (calls : List Call) (number : ℕ) (b b' : List ℕ) → AcceptedIn calls number b → AcceptedIn calls number b' → b ≡ b'
accepted-once calls number b b' a a' = sym (accepted-there calls number b a).same ∙ (accepted-there calls number b' a').same

pub reads_back : ReadsBack
reads_back =
    record {
      accepted_held = λ calls number b a. held calls number b (accepted-there calls number b a);
      held_accepted = λ calls number l. ⊎_elim (λ z. absurd (omega (arith, z, cleared-state.no_blocks)))
          (λ a. (a.0, record { before = a.1; rest = a.2; offered = a.3; answer = a.4 })) (came_all calls cleared_loan no_tally (reach []) number l);
    }
  where
    held : (calls : List Call) (number : ℕ) (b : List ℕ) → Has (after_all cleared_loan calls).state number b
        → Holds (after_all cleared_loan calls).state number b
    held calls number b h =
        let r = reach calls in
        let s = (after_all cleared_loan calls).state in
        let l = reached_lengths (after_all cleared_loan calls) (tally_all cleared_loan no_tally calls) r in
        let v = reached_valid (after_all cleared_loan calls) (tally_all cleared_loan no_tally calls) r in
        let q = read_back s number (record { lengths = l; is_valid = v; low = h.low }) in
        record {
          low = h.low;
          sized = q.0 ∙ ap (λ (x : List ℕ). Length (length x)) h.same;
          same = q.1 ∙ h.same;
          resent = facts_held s number b (record { lengths = l; is_valid = v; low = h.low; same = h.same });
          differs = λ b' w other. take-differs s number b' l v w h.low (λ e. other (sym h.same ∙ e));
        }
