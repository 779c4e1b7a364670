-- A swap on a loan, and its taking back (specs/Theorems.antt).
-- Assumes nothing.
use mathlib.Core.Path.{◌≡◌, sym, ap, ap₂, ◌∙◌}
use mathlib.Core.Bool.{true}
use mathlib.Core.List.{List}
use Prim.Native.Nat.{ℕ, ◌+◌, ◌<◌}
use native.Mathlib.Omega.{arith}
use lib.ListN.{length}
use Rattle.graph.specs.Target.{Partial}
use Rattle.graph.specs.Tests.{most_classes, class_degree}
use Rattle.journal.specs.Journal.{jdm_of}
use Rattle.adjacency.specs.Adjacency.{edge}
use Rattle.state.specs.State.{State, with_matrix}
use Rattle.state.specs.Valid.{ValidLaid}
use Rattle.state.specs.Laid.{vertex_count, class_at}
use Rattle.state.proofs.Facts.{StateFacts, Laid, valid-facts, lengths_both}
use Rattle.state.proofs.Graph.{laid-valid}
use Rattle.swapping.specs.declared.Swap.{Swap}
use Rattle.swapping.specs.Swap.{can_swap, swap_bytes, undoing}
use Rattle.swapping.specs.Theorems.{Matrix, SwapWorks}
use Rattle.swapping.proofs.Bytes.{swaps-work}
use Rattle.swap_log.specs.Log.{most_swaps, swap_count, logged, last_swap, unlogged}
use Rattle.swap_log.specs.Theorems.{ValidLog}
use Rattle.swap_log.proofs.Valid.{log_works}
use Rattle.loan.specs.Loan.{Loan, swapped_loan, undone_loan}
use Rattle.loan.specs.Valid.{LaidLoan}
use Rattle.loan.specs.Theorems.{Preserves, allows, LoanWorks}
use Rattle.loan.proofs.Laid.{laid-state, laid-facts, laid-laid, laid-matrix, laid-log, laid_both, verdict_state, altered-laid}

module _ (b : Loan) (v : LaidLoan b) where
  abbrev s : State
  s = b.state

  abbrev g : List ℕ
  g = b.state.adjacency

  module _ (x : Swap) (can : allows b x) where
    works : SwapWorks (vertex_count s) (class_at s) g x
    works = swaps-work (vertex_count s) (class_at s) g x (laid-matrix b v) can

    partial : Partial (vertex_count s) most_classes (class_at s) class_degree (jdm_of s.journal) (edge (swap_bytes g x))
    partial =
        let before = (laid-laid b v).partial in
        record {
          simple = works.kept.simple;
          within = λ k l p q. omega (arith, works.kept.cells k l, before.within k l p q);
          room = λ i p. omega (arith, works.kept.degrees i p, before.room i p);
        }

    -- the state stays valid
    pub swap-valid : ValidLaid (with_matrix s (swap_bytes g x))
    swap-valid =
        record {
          lengths = lengths_both (with_matrix s (swap_bytes g x)) (laid-facts b v).journal_length works.matrix.sized;
          is_valid =
              laid-valid s (laid-laid b v) (swap_bytes g x) v.phased (laid-facts b v).journal-ok works.matrix.sized partial works.matrix.outside;
          phased = v.phased;
        }

    -- with any log that is valid beside it and began with the same matrix
    preserves : (l : List ℕ) → ValidLog (vertex_count s) (class_at s) (swap_bytes g x) l
        → Rattle.swap_log.specs.Theorems.began (vertex_count s) (class_at s) (swap_bytes g x) l
        ≡ Rattle.swap_log.specs.Theorems.began (vertex_count s) (class_at s) g b.log
        → Preserves b (record { state = with_matrix s (swap_bytes g x); log = l })
    preserves l w e =
        record {
          laid = laid_both (with_matrix s (swap_bytes g x)) l swap-valid w;
          cells = works.kept.cells;
          degrees = works.kept.degrees;
          count = works.kept.count;
          beginning = e;
        }

    module _ (room : swap_count b.log < most_swaps) where
      pub swap-preserves : Preserves b (swapped_loan b x)
      swap-preserves =
          let w = log_works.swapped (vertex_count s) (class_at s) g b.log x (laid-log b v) can room in
          preserves (logged b.log x) w.after w.same_beginning

      pub swap-back : undone_loan (swapped_loan b x) ≡ b
      swap-back =
          let w = log_works.swapped (vertex_count s) (class_at s) g b.log x (laid-log b v) can room in
          ap₂ (λ (h l : List ℕ). record { state = with_matrix s h; log = l })
          (ap (λ (y : Swap). swap_bytes (swap_bytes g x) (undoing y)) w.last ∙ works.undone) w.taken_back

  pub undo-preserves : 0 < swap_count b.log → Preserves b (undone_loan b)
  undo-preserves some =
      let w = log_works.undone (vertex_count s) (class_at s) g b.log (laid-log b v) some in
      preserves (undoing (last_swap b.log)) w.allowed (unlogged b.log) w.after w.same_beginning

pub loan_works : LoanWorks
loan_works =
    record {
      verdict = verdict_state;
      altering = λ b g v w. altered-laid b g w;
      swapping = λ b x v. swap-preserves b v x;
      back = λ b x v. swap-back b v x;
      undoing = undo-preserves;
      replayed = λ b v. log_works.replayed (vertex_count b.state) (class_at b.state) b.state.adjacency b.log (laid-log b v);
    }
