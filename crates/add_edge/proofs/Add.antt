-- Adding an edge, on the definitions: what an answer Added rests on, and that an open pair of a valid laid state is always added.
-- Assumes nothing.
use mathlib.Core.Path.{◌≡◌, sym, ap, subst, ◌∙◌}
use mathlib.Core.List.{List}
use Prim.Native.Nat.{ℕ, ◌+◌}
use lib.Dec.{eqb}
use lib.ListN.{length}
use borrow.Author.Tests.{lt-ltb, eq-eqb, ltb-true, eqb-true}
use Rattle.answer.specs.declared.Refusal.{Refusal}
use Rattle.answer.specs.declared.switches.Switches.{Switches}
use Rattle.answer.specs.declared.switches.Switches.TheVariants.{None}
use Rattle.answer.specs.declared.AddAnswer.{AddAnswer}
use Rattle.answer.specs.declared.AddAnswer.TheVariants.{Added, Refused}
use Rattle.answer.proofs.Checks.{unless_passed, unless_stopped_passed}
use Rattle.graph.specs.Graph.{at_edge}
use Rattle.graph.specs.Target.{Open}
use Rattle.graph.specs.Tests.{most_classes, class_degree}
use Rattle.graph.specs.Switch.{Joined}
use Rattle.graph.specs.Theorems.{AfterJoin}
use Rattle.graph.proofs.Join.{join-works}
use Rattle.journal.specs.Journal.{jdm_of}
use Rattle.adjacency.specs.Adjacency.{adjacency_size, edge}
use Rattle.adjacency.specs.Clauses.{ZeroOutside}
use Rattle.state.specs.State.{State, with_matrix}
use Rattle.state.specs.Checks.{pair_verdict}
use Rattle.state.specs.Laid.{vertex_count, class_at, short_at}
use Rattle.state.proofs.Facts.{edge_total, cell_at, StateFacts, Laid, lengths_both}
use Rattle.state.proofs.Checks.{pair-passed, pair_goes}
use Rattle.state.proofs.Graph.{laid-valid}
use Rattle.loan.specs.Loan.{Loan, altered}
use Rattle.loan.specs.Valid.{LaidLoan}
use Rattle.loan.specs.Checks.{laid_verdict}
use Rattle.loan.proofs.Laid.{laid-passed, laid-go, laid-facts, laid-laid, altered-laid}
use Rattle.join_bytes.specs.Join.{join_bytes, join_switches}
use Rattle.join_bytes.proofs.Bytes.{join-bytes, join-length, join-outside}
use Rattle.add_edge.specs.Add.{add_answer}

-- what the checks of an added edge said
pub record AddFacts (b : Loan) (v w : ℕ) : Type 0 where
  pub loan : LaidLoan b
  pub pair : Open (vertex_count b.state) (class_at b.state) (jdm_of b.state.journal) (edge b.state.adjacency) v w

abbrev IsAdded : AddAnswer → Type 0
IsAdded (Added x) = Unit {0}
IsAdded (Refused r) = ⊥

refused-not_added : (x : Switches) (r : Refusal) → Refused r ≡ Added x → ⊥
refused-not_added x r e = subst IsAdded (sym e) tt

module _ (b : Loan) (v w : ℕ) where
  abbrev s : State
  s = b.state

  pub added-facts : (x : Switches) → add_answer b v w ≡ Added x
      → AddFacts b v w × (x ≡ join_switches (vertex_count s) (class_at s) s.adjacency v w)
  added-facts x e =
      let no = refused-not_added x in
      let p = unless_stopped_passed (laid_verdict b) Refused _ (Added x) no e in
      let q = unless_stopped_passed (pair_verdict (vertex_count s) v w) Refused _ (Added x) no p.1 in
      let d = pair-passed (vertex_count s) v w q.0 in
      let u = unless_passed (eqb (edge s.adjacency v w) 0) _ _ (Added x) (no _) q.1 in
      let h = unless_passed (short_at s (class_at s v) (class_at s w)) _ _ (Added x) (no _) u.1 in (
        record {
          loan = laid-passed b p.0;
          pair =
              record {
                first = d.0;
                second = d.1;
                distinct = d.2;
                unlinked = eqb-true (edge s.adjacency v w) 0 u.0;
                short = ltb-true (cell_at s (class_at s v) (class_at s w)) (jdm_of s.journal (class_at s v) (class_at s w)) h.0;
              };
        },
        ap made (sym h.1),
      )
    where
      made : AddAnswer → Switches
      made (Added y) = y
      made (Refused r) = None

  pub facts_added : AddFacts b v w → add_answer b v w ≡ Added (join_switches (vertex_count s) (class_at s) s.adjacency v w)
  facts_added f =
      rw (
        laid-go b f.loan,
        pair_goes (vertex_count s) v w f.pair.first f.pair.second f.pair.distinct,
        eq-eqb (edge s.adjacency v w) 0 f.pair.unlinked,
        lt-ltb (cell_at s (class_at s v) (class_at s w)) (jdm_of s.journal (class_at s v) (class_at s w)) f.pair.short,
      )

  -- after it
  pub record AddWorks (b' : Loan) : Type 0 where
    pub loan : LaidLoan b'
    pub linked : edge b'.state.adjacency v w ≡ 1
    pub one_more : edge_total b'.state ≡ edge_total s + 1
    pub cells : (k l : ℕ) → cell_at b'.state k l ≡ cell_at s k l + at_edge (class_at s v) (class_at s w) k l

  -- An unlinked pair whose cell is short is added: the loan stays valid, the pair is linked, there is exactly one edge more, and every other
  -- cell is as it was.
  pub add-works : AddFacts b v w → AddWorks (altered b (join_bytes (vertex_count s) (class_at s) s.adjacency v w))
  add-works f =
      record {
        loan =
            altered-laid b g'
            (record {
              lengths = lengths_both (with_matrix s g') facts.journal_length sized;
              is_valid = laid-valid s laid g' f.loan.phased facts.journal-ok sized a.partial outside;
              phased = f.loan.phased;
            });
        linked = a.linked;
        one_more = a.one_more;
        cells = a.cells;
      }
    where
      facts : StateFacts s
      facts = laid-facts b f.loan

      laid : Laid s
      laid = laid-laid b f.loan

      g' : List ℕ
      g' = join_bytes (vertex_count s) (class_at s) s.adjacency v w

      jo : Joined (vertex_count s) (class_at s) class_degree (edge s.adjacency) v w (edge g')
      jo =
          join-bytes (vertex_count s) (class_at s) (jdm_of s.journal) s.adjacency v w facts.adjacency_length laid.vertices-le laid.target
          laid.partial f.pair

      a : AfterJoin (vertex_count s) most_classes (class_at s) class_degree (jdm_of s.journal) (edge s.adjacency) v w jo.twice (edge g')
      a =
          join-works (vertex_count s) most_classes (class_at s) class_degree (jdm_of s.journal) (edge s.adjacency) v w laid.target laid.partial
          f.pair (edge g') jo

      sized : length g' ≡ adjacency_size
      sized = join-length (vertex_count s) (class_at s) s.adjacency v w ∙ facts.adjacency_length

      outside : ZeroOutside (vertex_count s) g'
      outside x y xs ys o =
          join-outside (vertex_count s) (class_at s) (jdm_of s.journal) s.adjacency v w facts.adjacency_length laid.vertices-le laid.target
          laid.partial f.pair x y xs ys o
          ∙ laid.outside x y xs ys o
