-- Taking block after block: a refusal stays, and the 65th block is always refused.
-- Assumes nothing.
use mathlib.Core.Path.{◌≡◌, refl, sym, ap, ap₂, subst, ◌∙◌}
use mathlib.Core.List.{List}
use Prim.Native.Nat.{ℕ, zero, suc, ◌+◌, ◌-◌, ◌*◌, ◌≤◌, ◌<◌, min}
use native.Mathlib.Nat.{add-zero}
use native.Mathlib.Decide.{dec_lt}
use native.Mathlib.Omega.{arith}
use lib.ListN.{length, take, drop, length-drop}
use lib.Seq.{take_all as whole_taken}
use Rattle.std.specs.Prelude.{Ok, Err}
use Rattle.finite.specs.Range.{fold_to}
use Rattle.finite.proofs.Fold.{fold_to-more, fold_to-keeps}
use Rattle.answer.specs.declared.Refusal.{Refusal}
use Rattle.answer.specs.Refusals.{Verdict, Go, Stop}
use Rattle.answer.specs.declared.TakeAnswer.{TakeAnswer}
use Rattle.answer.specs.declared.TakeAnswer.TheVariants.{Taken, Held, Refused}
use Rattle.table.specs.Block.{block_most, most_blocks}
use Rattle.journal.proofs.Facts.{journal_facts}
use Rattle.state.specs.State.{State, with_journal}
use Rattle.state.proofs.Facts.{valid-journal}
use Rattle.take_block.specs.Take.{take_answer, after_take, take_after}
use Rattle.take_block.proofs.Take.{taken-facts, held-facts}
use Rattle.input_blocks.specs.Blocks.{blocks_in, block_in, Taking, take_verdict, take_next, take_all}

abbrev pub IsGo : Verdict → Type 0
IsGo (Ok _) = Unit {0}
IsGo (Err r) = ⊥

-- no more is taken than there is
front : (n : ℕ) (xs : List ℕ) → take (min (length xs) n) xs ≡ take n xs
front n xs = go (dec_lt (length xs) n)
  where
    go : Dec (length xs < n) → take (min (length xs) n) xs ≡ take n xs
    go (yes l) =
        let m : min (length xs) n ≡ length xs = omega arith in
        rw m (whole_taken (length xs) xs (omega arith) ∙ sym (whole_taken n xs (omega arith)))
    go (no l) = let m : min (length xs) n ≡ n = omega arith in rw m

-- a block of what is left of the input, which may be less
pub rest_block : (input : List ℕ) (i : ℕ) (rest : List ℕ) → rest ≡ take (length input - block_most * i) (drop (block_most * i) input)
    → take (min (length rest) block_most) rest ≡ block_in input i
rest_block input i rest e =
    let whole = whole_taken (length input - block_most * i) (drop (block_most * i) input) (omega (arith, length-drop (block_most * i) input)) in
    rw (e, whole) (front block_most (drop (block_most * i) input))

-- taking leaves the matrix
take-matrix : (s : State) (i : ℕ) (b : List ℕ) → take_after s i b ≡ with_journal s (take_after s i b).journal
take-matrix s i b = go (take_answer s i b)
  where
    go : (a : TakeAnswer) → after_take a s b ≡ with_journal s (after_take a s b).journal
    go (Taken m) = refl
    go Held = refl
    go (Refused r) = refl

-- block 64 and any after it is refused, whatever the state holds
pub late_refused : (s : State) (i : ℕ) (b : List ℕ) → most_blocks ≤ i → take_verdict (take_answer s i b) ≡ Go → ⊥
late_refused s i b h e = go (take_answer s i b) refl e
  where
    go : (a : TakeAnswer) → take_answer s i b ≡ a → take_verdict a ≡ Go → ⊥
    go (Taken m) p q = let f = taken-facts s i b m p in omega (arith, f.next, f.room)
    go Held p q = let f = held-facts s i b p in omega (arith, f.low, (journal_facts s.journal (valid-journal s f.is_valid)).blocks-le)
    go (Refused r) p q = subst IsGo (sym q) tt

module _ (s₀ : State) (input : List ℕ) where
  abbrev start : Taking
  start = record { state = s₀; verdict = Go }

  -- the state and the verdict after i blocks
  abbrev pub after : ℕ → Taking
  after i = fold_to i (take_next input) start

  -- all of i blocks went, and left the state s
  abbrev pub Went : ℕ → State → Type 0
  Went i s = after i ≡ record { state = s; verdict = Go }

  -- a refusal stays
  pub stays : (i k : ℕ) (t : Taking) (r : Refusal) → t.verdict ≡ Stop r → after i ≡ t → after (i + k) ≡ t
  stays i zero t r v e = rw add-zero e
  stays i (suc k) t r v e =
      let q : i + suc k ≡ i + k + 1 = omega arith in
      rw q
      (fold_to-more (take_next input) start (i + k)
      ∙ ap (take_next input (i + k)) (stays i k t r v e)
      ∙ rw v)

  -- what taking block i answered and left
  module _ (i : ℕ) (s : State) (w : Went i s) (b : List ℕ) (same : b ≡ block_in input i) (v : Verdict) (j : List ℕ)
      (e : (v ≡ take_verdict (take_answer s i b)) × (j ≡ (take_after s i b).journal)) where
    made : List ℕ → Taking
    made b = record { state = take_after s i b; verdict = take_verdict (take_answer s i b) }

    next : after (i + 1) ≡ record { state = with_journal s j; verdict = v }
    unfolding made
    next =
        fold_to-more (take_next input) start i
        ∙ ap (take_next input i) w
        ∙ ap made (sym same)
        ∙ ap₂ (λ (x : State) (y : Verdict). record { state = x; verdict = y }) (take-matrix s i b ∙ ap (with_journal s) (sym e.1)) (sym e.0)

    -- one more went
    pub went_next : v ≡ Go → Went (i + 1) (with_journal s j)
    went_next h = next ∙ ap (λ (v : Verdict). record { state = with_journal s j; verdict = v }) h

    -- the first refusal is the answer
    pub first_refusal : i < blocks_in input → (r : Refusal) → v ≡ Stop r
        → (Stop r ≡ (take_all s₀ input).verdict) × (j ≡ (take_all s₀ input).state.journal)
    first_refusal l r h =
        let q : blocks_in input ≡ i + 1 + (blocks_in input - (i + 1)) = omega arith in
        let x : take_all s₀ input ≡ record { state = with_journal s j; verdict = v } =
        ap after q ∙ stays (i + 1) (blocks_in input - (i + 1)) (record { state = with_journal s j; verdict = v }) r h next in
        (sym (ap (λ (t : Taking). t.verdict) x ∙ h), sym (ap (λ (t : Taking). t.state.journal) x))

  -- no 65 blocks go
  pub full : (after (most_blocks + 1)).verdict ≡ Go → ⊥
  full e = go (after most_blocks).verdict refl
    where
      last : (take_next input most_blocks (after most_blocks)).verdict ≡ Go
      last = ap (λ (t : Taking). t.verdict) (sym (fold_to-more (take_next input) start most_blocks)) ∙ e

      go : (v : Verdict) → (after most_blocks).verdict ≡ v → ⊥
      go (Ok _) p = late_refused (after most_blocks).state most_blocks (block_in input most_blocks) (omega arith) (rw p at last)
      go (Err r) p = let z : Stop r ≡ Go = rw p at last in subst IsGo (sym z) tt

  -- where all went that there are, or 65 of them, all went
  pub all-went : (i : ℕ) (s : State) → i ≡ min (blocks_in input) (most_blocks + 1) → Went i s
      → (Go ≡ (take_all s₀ input).verdict) × (s.journal ≡ (take_all s₀ input).state.journal)
  all-went i s e w = go (dec_lt (blocks_in input) (most_blocks + 1))
    where
      go : Dec (blocks_in input < most_blocks + 1) → (Go ≡ (take_all s₀ input).verdict) × (s.journal ≡ (take_all s₀ input).state.journal)
      go (yes h) =
          let q : blocks_in input ≡ i = omega arith in
          let x = ap after q ∙ w in
          (sym (ap (λ (t : Taking). t.verdict) x), sym (ap (λ (t : Taking). t.state.journal) x))
      go (no h) = let q : most_blocks + 1 ≡ i = omega arith in absurd (full (ap (λ (k : ℕ). (after k).verdict) q ∙ ap (λ (t : Taking). t.verdict) w))

  -- the matrix is that of the start
  pub taken-matrix : (take_all s₀ input).state ≡ with_journal s₀ (take_all s₀ input).state.journal
  taken-matrix =
      fold_to-keeps (λ i t. t.state ≡ with_journal s₀ t.state.journal) (take_next input) start (blocks_in input) refl
      (λ i t l e. kept i t e t.verdict refl)
    where
      kept : (i : ℕ) (t : Taking) → t.state ≡ with_journal s₀ t.state.journal → (v : Verdict) → t.verdict ≡ v
          → (take_next input i t).state ≡ with_journal s₀ (take_next input i t).state.journal
      kept i t e (Ok _) p =
          rw p
          (take-matrix t.state i (block_in input i)
          ∙ ap (λ (x : State). with_journal x (take_after t.state i (block_in input i)).journal) e)
      kept i t e (Err r) p = rw p e
