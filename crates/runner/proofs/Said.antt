-- What the program says by the answers of its calls: each step's text is the next one's, or the refusal.
-- Assumes nothing.
use mathlib.Core.Path.{◌≡◌, refl, sym, ap, subst, ◌∙◌}
use mathlib.Core.List.{List}
use Prim.Native.Nat.{ℕ, ◌≤◌}
use native.Mathlib.Nat.{zero-add}
use native.Mathlib.Omega.{arith}
use lib.ListN.{length}
use lib.Seq.{sets, length-sets, length-take-le}
use Rattle.answer.specs.declared.Refusal.{Refusal}
use Rattle.answer.specs.Refusals.{Verdict, Go, Stop}
use Rattle.answer.specs.declared.LayOutAnswer.{LayOutAnswer}
use Rattle.answer.specs.declared.LayOutAnswer.TheVariants.{LaidOut, Refused as LayOutRefused}
use Rattle.answer.specs.declared.CompleteAnswer.{CompleteAnswer}
use Rattle.answer.specs.declared.CompleteAnswer.TheVariants.{Completed, Refused as CompleteRefused}
use Rattle.answer.specs.declared.Choice.{Choice}
use Rattle.state.specs.State.{State, with_journal, with_matrix}
use Rattle.state.specs.Valid.{ValidLaid}
use Rattle.state.specs.Laid.{vertex_count}
use Rattle.lay_out.specs.LayOut.{lay_out_answer, after_lay_out, lay_out_after}
use Rattle.completion.specs.Complete.{after_ran}
use Rattle.io.specs.Counts.{IsPrefixLen}
use Rattle.shuffled_completion.specs.Outcome.{outcome, choice_answer, choice_after}
use Rattle.shuffled_completion.proofs.Works.{outcome-works}
use Rattle.text.specs.Text.{refused_line}
use Rattle.text.proofs.Written.{Written}
use Rattle.options.specs.declared.Form.{Form}
use Rattle.input_blocks.specs.Blocks.{take_all}
use Rattle.input_blocks.proofs.Taking.{taken-matrix}
use Rattle.state_text.specs.StateText.{state_text, text_most}
use Rattle.runner.specs.Program.{join_records_most, with_own_log, completed_text, laid_text, taken_text, text_from}
use Rattle.runner.proofs.Room.{own_valid, laid-count, text_fits}

-- the text t stands at the start of the list l, which is then m, and p is its length
abbrev pub Says : List ℕ → List ℕ → ℕ → List ℕ → Type 0
Says t l p m = (p ≡ length t) × (m ≡ sets l 0 t)

-- the same of an equal text
pub says : (t u l : List ℕ) (p : ℕ) (m : List ℕ) → t ≡ u → Says u l p m → Says t l p m
says t u l p m e w = subst (λ (t : List ℕ). Says t l p m) (sym e) w

pub says_line : (t u l : List ℕ) (p : ℕ) (m : List ℕ) → t ≡ u → Written l 0 u p m → Says t l p m
says_line t u l p m e w = says t u l p m e (w.0 ∙ zero-add (length u), w.1)

-- after completing
module _ (form : Form) (choice : Choice) (s : State) (n : ℕ) (a : CompleteAnswer) (g : List ℕ)
    (answered : a ≡ choice_answer choice (with_own_log s) join_records_most)
    (left : g ≡ (choice_after choice (with_own_log s) join_records_most).state.adjacency) where
  pub said_refused : (r : Refusal) → a ≡ CompleteRefused r → laid_text form choice (LaidOut n) s ≡ refused_line r
  said_refused r h = ap (λ (a : CompleteAnswer). completed_text form a n (after_ran a (outcome choice s) (with_own_log s)).state) (sym answered ∙ h)

  module _ (joins switches written : ℕ) (h : a ≡ Completed joins switches written) where
    completed-is : g ≡ (outcome choice s).adjacency
    completed-is = left ∙ ap (λ (a : CompleteAnswer). (after_ran a (outcome choice s) (with_own_log s)).state.adjacency) (sym answered ∙ h)

    pub said_completed : laid_text form choice (LaidOut n) s ≡ state_text form n switches (with_matrix s g)
    said_completed =
        ap (λ (a : CompleteAnswer). completed_text form a n (after_ran a (outcome choice s) (with_own_log s)).state) (sym answered ∙ h)
        ∙ ap (λ (g : List ℕ). state_text form n switches (with_matrix s g)) (sym completed-is)

    pub completed-laid : ValidLaid (with_matrix s g)
    completed-laid =
        rw completed-is (outcome-works choice s (own_valid choice s joins switches written (sym answered ∙ h))).state

-- laying out leaves the matrix
laid-matrix : (s : State) → lay_out_after s ≡ with_journal s (lay_out_after s).journal
laid-matrix s = go (lay_out_answer s)
  where
    go : (a : LayOutAnswer) → after_lay_out a s ≡ with_journal s (after_lay_out a s).journal
    go (LaidOut n) = refl
    go (LayOutRefused r) = refl

-- after laying out
module _ (form : Form) (choice : Choice) (s : State) (a : LayOutAnswer) (j : List ℕ)
    (e : (a ≡ lay_out_answer s) × (j ≡ (lay_out_after s).journal)) where
  left_laid : lay_out_after s ≡ with_journal s j
  left_laid = laid-matrix s ∙ ap (with_journal s) (sym e.1)

  pub said_not_laid : (r : Refusal) → a ≡ LayOutRefused r → taken_text form choice Go s ≡ refused_line r
  said_not_laid r h = ap (λ (a : LayOutAnswer). laid_text form choice a (lay_out_after s)) (sym e.0 ∙ h)

  pub said_laid : (n : ℕ) → a ≡ LaidOut n → taken_text form choice Go s ≡ laid_text form choice (LaidOut n) (with_journal s j)
  said_laid n h =
      ap (λ (a : LayOutAnswer). laid_text form choice a (lay_out_after s)) (sym e.0 ∙ h)
      ∙ ap (laid_text form choice (LaidOut n)) left_laid

  -- with the state's N
  pub laid-n : (n : ℕ) → a ≡ LaidOut n → n ≡ vertex_count (with_journal s j)
  laid-n n h = laid-count s n (sym e.0 ∙ h) ∙ ap vertex_count left_laid

-- after taking
module _ (form : Form) (choice : Choice) (s : State) (input : List ℕ) (v : Verdict) (j : List ℕ)
    (e : (v ≡ (take_all s input).verdict) × (j ≡ (take_all s input).state.journal)) where
  pub said_stopped : (r : Refusal) → v ≡ Stop r → text_from form choice s input ≡ refused_line r
  said_stopped r h = ap (λ (v : Verdict). taken_text form choice v (take_all s input).state) (sym e.0 ∙ h)

  pub said_taken : v ≡ Go → text_from form choice s input ≡ taken_text form choice Go (with_journal s j)
  said_taken h =
      ap (λ (v : Verdict). taken_text form choice v (take_all s input).state) (sym e.0 ∙ h)
      ∙ ap (taken_text form choice Go) (taken-matrix s input ∙ ap (with_journal s) (sym e.1))

-- and it fits
pub says_fits : (form : Form) (choice : Choice) (s : State) (input l : List ℕ) (p : ℕ) (m : List ℕ) → text_most ≤ length l
    → Says (text_from form choice s input) l p m
    → (p ≡ length (text_from form choice s input)) × (IsPrefixLen p m × (m ≡ sets l 0 (text_from form choice s input)))
says_fits form choice s input l p m room w = (w.0, ((fits, sym (length-take-le p m fits)), w.1))
  where
    fits : p ≤ length m
    fits =
        rw (w.1, length-sets l 0 (text_from form choice s input))
        (omega (arith, room, w.0, text_fits form choice (take_all s input).verdict (take_all s input).state))
