-- One line of graph6: the writer is not refused, and the newline stands behind its text.
-- Assumes nothing.
use mathlib.Core.Path.{◌≡◌, sym, ap, ◌∙◌}
use mathlib.Core.List.{List, ◌++◌}
use Prim.Native.Nat.{ℕ, ◌+◌, ◌≤◌}
use native.Mathlib.Nat.{zero-add}
use native.Mathlib.Omega.{arith}
use lib.ListN.{length, set, length-append}
use lib.Seq.{sets}
use borrow.Author.Tests.{le-leb}
use Rattle.finite.proofs.Fold.{sets-append}
use Rattle.answer.specs.declared.Refusal.{Refusal}
use Rattle.answer.specs.Refusals.{Go}
use Rattle.answer.specs.declared.WrittenAnswer.{WrittenAnswer}
use Rattle.answer.specs.declared.WrittenAnswer.TheVariants.{Written, Refused}
use Rattle.answer.proofs.Checks.{refused-not_written, written-length}
use Rattle.edge_lists.specs.EdgeList.{list_verdict}
use Rattle.graph6.specs.Format.{body_most}
use Rattle.graph6_write.specs.Write.{write_text, write_answer, write_output}
use Rattle.text.specs.Text.{newline}
use Rattle.state_text.specs.StateText.{text_most}
use Rattle.state_text.proofs.Room.{text_fits_room}

module _ (e : List ℕ) (n : ℕ) (out : List ℕ) (passes : list_verdict e n ≡ Go) (room : text_most ≤ length out)
    (a : WrittenAnswer) (out' : List ℕ) (h : (a ≡ write_answer e n (length out)) × (out' ≡ write_output (write_answer e n (length out)) e n out)) where
  answered : write_answer e n (length out) ≡ Written (length (write_text e n))
  answered = rw (passes, le-leb (length (write_text e n)) (length out) (omega (arith, text_fits_room e n passes)))

  pub never_refused : (r : Refusal) → a ≡ Refused r → ⊥
  never_refused r q = refused-not_written r (length (write_text e n)) (sym q ∙ h.0 ∙ answered)

  module _ (len : ℕ) (q : a ≡ Written len) where
    size : len ≡ length (write_text e n)
    size = written-length (length (write_text e n)) len (sym answered ∙ sym h.0 ∙ q)

    pub len_small : len ≤ 4 + body_most
    len_small = omega (arith, size, text_fits_room e n passes)

    pub line_length : len + 1 ≡ length (write_text e n ++ newline)
    line_length = omega (arith, size, length-append (write_text e n) newline)

    pub line_written : set out' len 10 ≡ sets out 0 (write_text e n ++ newline)
    line_written =
        rw (h.1, answered, size)
        (ap (λ (at : ℕ). set (sets out 0 (write_text e n)) at 10) (sym (zero-add (length (write_text e n))))
        ∙ sym (sets-append out 0 (write_text e n) newline))
