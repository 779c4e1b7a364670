-- Swapping two edges, on the definitions: what an answer Swapped rests on and leaves, and when it comes.
-- Assumes nothing.
use mathlib.Core.Path.{◌≡◌, sym, subst, ◌∙◌}
use mathlib.Core.Bool.{true, false}
use mathlib.Core.List.{List}
use Prim.Native.Nat.{ℕ, ◌≤◌, ◌<◌}
use native.Mathlib.Omega.{arith}
use lib.Dec.{ltb}
use lib.ListN.{length}
use borrow.Author.Tests.{ltb-true, lt-ltb, le-ltb}
use Rattle.finite.proofs.All.{and_left, and_right, and_both}
use Rattle.answer.specs.Refusals.{Go, refuse}
use Rattle.answer.specs.declared.Cause.TheVariants.{NoSuchVertex, SwapNotAllowed, LogFull}
use Rattle.answer.specs.declared.Refusal.{Refusal}
use Rattle.answer.specs.declared.SwapAnswer.{SwapAnswer}
use Rattle.answer.specs.declared.SwapAnswer.TheVariants.{Swapped, Refused}
use Rattle.answer.proofs.Checks.{unless_passed, unless_stopped_passed}
use Rattle.layout.specs.Inner.Arrays.{classes_of, class_in}
use Rattle.journal.specs.Journal.{table_of}
use Rattle.adjacency.specs.Adjacency.{adjacency_size, side}
use Rattle.adjacency.proofs.Classes.{class-at}
use Rattle.state.specs.Laid.{vertex_count, class_at}
use Rattle.swapping.specs.declared.Swap.{Swap}
use Rattle.swapping.specs.Swap.{are_vertices, is_allowed}
use Rattle.swapping.proofs.Rule.{are-vertices, rule_same}
use Rattle.swap_log.specs.Log.{most_swaps, log_size, swap_count}
use Rattle.loan.specs.Loan.{Loan}
use Rattle.loan.specs.Valid.{LaidLoan}
use Rattle.loan.specs.Checks.{laid_verdict}
use Rattle.loan.specs.Theorems.{allows}
use Rattle.loan.proofs.Laid.{laid-passed, laid-go, laid-matrix, laid-log}
use Rattle.swap_edges.specs.Swap.{swap_answer}

-- what the checks of a swap said
pub record SwapFacts (b : Loan) (x : Swap) : Type 0 where
  pub loan : LaidLoan b
  pub allowed : allows b x
  pub room : swap_count b.log < most_swaps

abbrev IsSwapped : SwapAnswer → Type 0
IsSwapped Swapped = Unit {0}
IsSwapped (Refused r) = ⊥

refused-not_swapped : (r : Refusal) → Refused r ≡ Swapped → ⊥
refused-not_swapped r e = subst IsSwapped (sym e) tt

module _ (b : Loan) (x : Swap) where
  pub swapped-facts : swap_answer b x ≡ Swapped → SwapFacts b x
  swapped-facts e =
      let no = refused-not_swapped in
      let p = unless_stopped_passed (laid_verdict b) Refused _ Swapped no e in
      let v = unless_passed (are_vertices (vertex_count b.state) x) _ _ Swapped (no _) p.1 in
      let r = unless_passed (is_allowed (class_at b.state) b.state.adjacency x) _ _ Swapped (no _) v.1 in
      let f = unless_passed (ltb (swap_count b.log) most_swaps) _ _ Swapped (no _) r.1 in
      record {
        loan = laid-passed b p.0;
        allowed = and_both _ _ v.0 r.0;
        room = ltb-true (swap_count b.log) most_swaps f.0;
      }

  pub facts_swapped : SwapFacts b x → swap_answer b x ≡ Swapped
  facts_swapped f =
      rw (
        laid-go b f.loan,
        and_left (are_vertices (vertex_count b.state) x) (is_allowed (class_at b.state) b.state.adjacency x) f.allowed,
        and_right (are_vertices (vertex_count b.state) x) (is_allowed (class_at b.state) b.state.adjacency x) f.allowed,
        lt-ltb (swap_count b.log) most_swaps f.room,
      )

-- what the code goes by on a valid laid loan, with N and the array of the classes
module _ (b : Loan) (go : laid_verdict b ≡ Go) {n : ℕ} {classes : List ℕ} (en : n ≡ vertex_count b.state) (ec : classes ≡ classes_of (table_of b.state.journal))
    (x : Swap) where
  loan : LaidLoan b
  loan = laid-passed b go

  pub swap-log_length : length b.log ≡ log_size
  swap-log_length = (laid-log b loan).sized

  pub swap-strangers : are_vertices n x ≡ false → swap_answer b x ≡ Refused (refuse NoSuchVertex 0 0)
  swap-strangers h = rw (go, ← en, h)

  module _ (four : are_vertices n x ≡ true) where
    abbrev g : List ℕ
    g = b.state.adjacency

    -- the vertices are below 200
    pub swap-inside : (length g ≡ adjacency_size) × (x.a < side) × (x.b < side) × (x.c < side) × (x.d < side)
    swap-inside =
        let v = are-vertices x n four in
        let few = (laid-matrix b loan).few in (
          (laid-matrix b loan).sized,
          omega (arith, en, few, v.0),
          omega (arith, en, few, v.1),
          omega (arith, en, few, v.2),
          omega (arith, en, few, v.3),
        )

    -- the array has the classes that the rule is about
    by-classes : is_allowed (class_in classes) g x ≡ is_allowed (class_at b.state) g x
    by-classes =
        let e = rule_same x n (class_in classes) (class_at b.state) (class-at (table_of b.state.journal) (laid-matrix b loan).few en ec) g in
        rw four at e

    pub swap-against : is_allowed (class_in classes) g x ≡ false → swap_answer b x ≡ Refused (refuse SwapNotAllowed 0 0)
    swap-against h = rw (go, ← en, four, sym by-classes ∙ h)

    module _ (allowed : is_allowed (class_in classes) g x ≡ true) {m : ℕ} (em : m ≡ swap_count b.log) where
      pub swap-full : most_swaps ≤ m → swap_answer b x ≡ Refused (refuse LogFull 0 0)
      swap-full h = rw (go, ← en, four, sym by-classes ∙ allowed, le-ltb (swap_count b.log) most_swaps (omega (arith, em, h)))

      pub swap-made : m < most_swaps → swap_answer b x ≡ Swapped
      swap-made h = rw (go, ← en, four, sym by-classes ∙ allowed, lt-ltb (swap_count b.log) most_swaps (omega (arith, em, h)))
