-- Removing an edge, on the definitions: what an answer Removed rests on, and that it leaves the state valid with exactly one edge less.
-- Assumes nothing.
use mathlib.Core.Path.{◌≡◌, sym, subst, ◌∙◌}
use mathlib.Core.List.{List}
use mathlib.Core.Logic.{◌≢◌}
use Prim.Native.Nat.{ℕ, ◌+◌, ◌≤◌, ◌<◌}
use native.Mathlib.Omega.{arith}
use lib.Dec.{eqb}
use lib.ListN.{length}
use borrow.Author.Tests.{eq-eqb, eqb-true}
use Rattle.answer.specs.declared.Refusal.{Refusal}
use Rattle.answer.specs.declared.RemoveAnswer.{RemoveAnswer}
use Rattle.answer.specs.declared.RemoveAnswer.TheVariants.{Removed, Refused}
use Rattle.answer.proofs.Checks.{unless_passed, unless_stopped_passed}
use Rattle.graph.specs.Graph.{Simple, AddsEdge}
use Rattle.graph.specs.Target.{Partial}
use Rattle.graph.specs.Tests.{most_classes, class_degree}
use Rattle.graph.specs.Theorems.{Updated}
use Rattle.graph.proofs.Update.{removing_updates}
use Rattle.journal.specs.Journal.{jdm_of}
use Rattle.adjacency.specs.Adjacency.{adjacency_size, side, edge, set_edge}
use Rattle.adjacency.specs.Clauses.{ZeroOutside}
use Rattle.adjacency.proofs.Set.{set-length, set-removes, set-outside}
use Rattle.state.specs.State.{State, with_matrix}
use Rattle.state.specs.Checks.{pair_verdict}
use Rattle.state.specs.Laid.{vertex_count, class_at}
use Rattle.state.proofs.Facts.{edge_total, StateFacts, Laid, lengths_both}
use Rattle.state.proofs.Checks.{pair-passed, pair_goes}
use Rattle.state.proofs.Graph.{laid-valid}
use Rattle.loan.specs.Loan.{Loan, altered}
use Rattle.loan.specs.Valid.{LaidLoan}
use Rattle.loan.specs.Checks.{laid_verdict}
use Rattle.loan.proofs.Laid.{laid-passed, laid-go, laid-facts, laid-laid, altered-laid}
use Rattle.remove_edge.specs.Remove.{remove_answer}

-- what the checks of a removed edge said
pub record RemoveFacts (b : Loan) (v w : ℕ) : Type 0 where
  pub loan : LaidLoan b
  pub first : v < vertex_count b.state
  pub second : w < vertex_count b.state
  pub distinct : v ≢ w
  pub linked : edge b.state.adjacency v w ≡ 1

abbrev IsRemoved : RemoveAnswer → Type 0
IsRemoved Removed = Unit {0}
IsRemoved (Refused r) = ⊥

refused-not_removed : (r : Refusal) → Refused r ≡ Removed → ⊥
refused-not_removed r e = subst IsRemoved (sym e) tt

module _ (b : Loan) (v w : ℕ) where
  abbrev s : State
  s = b.state

  pub removed-facts : remove_answer b v w ≡ Removed → RemoveFacts b v w
  removed-facts e =
      let no = refused-not_removed in
      let p = unless_stopped_passed (laid_verdict b) Refused _ Removed no e in
      let q = unless_stopped_passed (pair_verdict (vertex_count s) v w) Refused _ Removed no p.1 in
      let d = pair-passed (vertex_count s) v w q.0 in
      let u = unless_passed (eqb (edge s.adjacency v w) 1) _ _ Removed (no _) q.1 in
      record {
        loan = laid-passed b p.0;
        first = d.0;
        second = d.1;
        distinct = d.2;
        linked = eqb-true (edge s.adjacency v w) 1 u.0;
      }

  pub facts_removed : RemoveFacts b v w → remove_answer b v w ≡ Removed
  facts_removed f =
      rw (
        laid-go b f.loan,
        pair_goes (vertex_count s) v w f.first f.second f.distinct,
        eq-eqb (edge s.adjacency v w) 1 f.linked,
      )

  -- after it
  pub record RemoveWorks (b' : Loan) : Type 0 where
    pub loan : LaidLoan b'
    pub unlinked : edge b'.state.adjacency v w ≡ 0
    pub one_less : edge_total s ≡ edge_total b'.state + 1

  -- A linked pair is removed: the loan stays valid, with exactly one edge less.
  pub remove-works : RemoveFacts b v w → RemoveWorks (altered b (set_edge s.adjacency v w 0))
  remove-works f =
      record {
        loan =
            altered-laid b g'
            (record {
              lengths = lengths_both (with_matrix s g') facts.journal_length sized;
              is_valid = laid-valid s laid g' f.loan.phased facts.journal-ok sized partial outside;
              phased = f.loan.phased;
            });
        unlinked = u.1;
        one_less = u.2.count;
      }
    where
      facts : StateFacts s
      facts = laid-facts b f.loan

      laid : Laid s
      laid = laid-laid b f.loan

      before : Partial (vertex_count s) most_classes (class_at s) class_degree (jdm_of s.journal) (edge s.adjacency)
      before = laid.partial

      g' : List ℕ
      g' = set_edge s.adjacency v w 0

      few : vertex_count s ≤ side
      few = laid.vertices-le

      sized : length g' ≡ adjacency_size
      sized = set-length s.adjacency v w 0 ∙ facts.adjacency_length

      removes : AddsEdge (vertex_count s) (edge g') v w (edge s.adjacency)
      removes =
          set-removes (vertex_count s) s.adjacency v w facts.adjacency_length (omega (arith, f.first, few)) (omega (arith, f.second, few)) few
          f.distinct f.linked (before.simple.symmetric w v f.second f.first ∙ f.linked)

      u : Simple (vertex_count s) (edge g') × (edge g' v w ≡ 0) × Updated (vertex_count s) (class_at s) (edge g') v w (edge s.adjacency)
      u =
          removing_updates (vertex_count s) (class_at s) (edge g') (edge s.adjacency) v w f.first f.second f.distinct removes
          before.simple

      partial : Partial (vertex_count s) most_classes (class_at s) class_degree (jdm_of s.journal) (edge g')
      partial =
          record {
            simple = u.0;
            within = λ k l p q. omega (arith, u.2.cells k l, before.within k l p q);
            room = λ x p. omega (arith, u.2.degrees x p, before.room x p);
          }

      outside : ZeroOutside (vertex_count s) g'
      outside x y xs ys o =
          set-outside (vertex_count s) s.adjacency v w facts.adjacency_length (omega (arith, f.first, few)) (omega (arith, f.second, few)) few
          f.distinct 0 f.first f.second x y xs ys o
          ∙ laid.outside x y xs ys o
