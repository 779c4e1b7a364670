-- The text of a list that passes the checks 19: how long it is, and that the size and the body behind it are the text.
-- Assumes nothing.
use mathlib.Core.Path.{◌≡◌, sym, ap, ◌∙◌}
use mathlib.Core.List.{List}
use Prim.Native.Nat.{ℕ, ◌+◌, ◌/◌}
use native.Mathlib.Nat.{zero-add}
use lib.ListN.{length, take}
use lib.Seq.{sets}
use Rattle.finite.proofs.Fold.{sets-append}
use Rattle.edge_lists.specs.EdgeList.{listed, graph_of}
use Rattle.edge_lists.proofs.List.{Passed, list-simple}
use Rattle.graph6.specs.Format.{size_bytes, triangle, packed, body_length}
use Rattle.graph6.proofs.Bits.{triangle-length, packed-length}
use Rattle.graph6.proofs.Text.{text_length}
use Rattle.graph6_write.specs.Write.{write_text}
use Rattle.graph6_write.specs.Inner.Body.{body_to}
use Rattle.graph6_write.proofs.Body.{body_packed}

module _ (e : List ℕ) (total : ℕ) (passed : Passed e total) where
  pub written-size : length (write_text e total) ≡ length (size_bytes total) + body_length total
  written-size = text_length total (graph_of e) passed.few (list-simple e total passed.well)

  -- where the code's numbers are the two lengths
  module _ (head rest : ℕ) (h : head ≡ length (size_bytes total)) (r : rest ≡ body_length total) where
    pub code_size : head + rest ≡ length (write_text e total)
    code_size = rw (h, r) (sym written-size)

    code_body : take rest (body_to e (listed e)) ≡ packed (triangle total (graph_of e))
    code_body = rw r (body_packed e total passed)

    pub code_rest : length (take rest (body_to e (listed e))) ≡ rest
    code_rest =
        ap length code_body
        ∙ packed-length (triangle total (graph_of e))
        ∙ ap (λ (m : ℕ). (m + 5) / 6) (triangle-length (graph_of e) total)
        ∙ sym r

    pub code_text : (out : List ℕ)
        → sets (sets out 0 (size_bytes total)) head (take rest (body_to e (listed e))) ≡ sets out 0 (write_text e total)
    code_text out =
        rw (code_body, h)
        (ap (λ (at : ℕ). sets (sets out 0 (size_bytes total)) at (packed (triangle total (graph_of e)))) (sym (zero-add (length (size_bytes total))))
        ∙ sym (sets-append out 0 (size_bytes total) (packed (triangle total (graph_of e)))))
