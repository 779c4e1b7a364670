-- From a valid laid loan to a drawing (specs/WithinReach.antt): one edge less, one edge of the drawing more, and lists of such calls.
-- Assumes nothing.
use mathlib.Core.Path.{◌≡◌, refl, sym, ap, subst, ◌∙◌}
use mathlib.Core.List.{List, [], ◌∷◌, ◌++◌}
use Prim.Native.Nat.{ℕ, ◌+◌, ◌≤◌, ◌<◌}
use native.Mathlib.Omega.{arith}
use lib.ListN.{length}
use borrow.Author.Tests.{lt-ltb}
use Rattle.answer.specs.declared.switches.Switches.TheVariants.{None}
use Rattle.answer.specs.declared.AddAnswer.{AddAnswer}
use Rattle.answer.specs.declared.AddAnswer.TheVariants.{Added}
use Rattle.answer.specs.declared.RemoveAnswer.{RemoveAnswer}
use Rattle.answer.specs.declared.RemoveAnswer.TheVariants.{Removed}
use Rattle.graph.specs.Graph.{Graph, Simple, degree, jdm, AddsEdge, SameOn}
use Rattle.graph.specs.Target.{Open}
use Rattle.graph.specs.Tests.{least_class, most_classes, class_degree, vertices, vertex_class}
use Rattle.graph.proofs.Matrix.{jdm-cong, jdm-classes}
use Rattle.journal.specs.Journal.{jdm_of, table_of}
use Rattle.adjacency.specs.Adjacency.{edge, set_edge}
use Rattle.adjacency.proofs.Set.{set-adds, set-removes}
use Rattle.adjacency.proofs.Bytes.{same_bytes}
use Rattle.state.specs.State.{state_of, empty_matrix}
use Rattle.state.proofs.Facts.{cell_at, StateFacts, Laid}
use Rattle.swap_log.specs.Log.{empty_log}
use Rattle.loan.specs.Loan.{Loan, loan_of}
use Rattle.loan.specs.Valid.{LaidLoan}
use Rattle.loan.proofs.Laid.{laid-facts, laid-laid}
use Rattle.join_bytes.specs.Join.{join_bytes, join_switches}
use Rattle.join_bytes.proofs.Alone.{room_none, none_alone}
use Rattle.add_edge.specs.Add.{add_answer, after_add, add_after}
use Rattle.add_edge.proofs.Add.{AddFacts, facts_added, add-works}
use Rattle.remove_edge.specs.Remove.{remove_answer, after_remove, remove_after}
use Rattle.remove_edge.proofs.Remove.{RemoveFacts, facts_removed, remove-works}
use Rattle.completion.specs.Complete.{Ran, log_after}
use Rattle.demands.specs.Calls.{after_all}
use Rattle.demands.specs.WithinReach.{Replica, Pair, named, Order, adds, removes, AddedAlone, AllAdded, AllRemoved, bytes_of, log_behind, NothingToComplete, Drawn, Redrawn, Emptied}
use Rattle.demands.proofs.Choices.{full_outcome, full_answer, after-choice}
use Rattle.demands.proofs.Reach.{after-append}
use Rattle.demands.proofs.Orders.{Within, NoOther, EdgeOf, rest_no_other, first_edge, next-open, room_first, room_second}
use Rattle.demands.proofs.Bytes.{matrix_length, matrix_outside, matrix_edges, empty-length, empty-edge}

-- The journal stays; matrix and log change.
module _ (j : List ℕ) where
  abbrev on : List ℕ → List ℕ → Loan
  on g log = loan_of j g log

  facts : (g log : List ℕ) → LaidLoan (on g log) → StateFacts (state_of j g)
  facts g log s = laid-facts (on g log) s

  pub laid : (g log : List ℕ) → LaidLoan (on g log) → Laid (state_of j g)
  laid g log s = laid-laid (on g log) s

  -- One edge less.
  module _ (g log : List ℕ) (s : LaidLoan (on g log)) (p : Pair) (e : EdgeOf (vertices (table_of j)) (edge g) p) where
    remove-facts : RemoveFacts (on g log) p.0 p.1
    remove-facts =
        record {
          loan = s;
          first = e.first;
          second = e.second;
          distinct = e.distinct;
          linked = e.linked;
        }

    remove-answer : remove_answer (on g log) p.0 p.1 ≡ Removed
    remove-answer = facts_removed (on g log) p.0 p.1 remove-facts

    after-remove : remove_after (on g log) p.0 p.1 ≡ on (set_edge g p.0 p.1 0) empty_log
    after-remove = ap (λ (a : RemoveAnswer). after_remove a (on g log) p.0 p.1) remove-answer

    remove-valid : LaidLoan (on (set_edge g p.0 p.1 0) empty_log)
    remove-valid = (remove-works (on g log) p.0 p.1 remove-facts).loan

    remove-edge : AddsEdge (vertices (table_of j)) (edge (set_edge g p.0 p.1 0)) p.0 p.1 (edge g)
    remove-edge =
        let few = (laid g log s).vertices-le in
        set-removes (vertices (table_of j)) g p.0 p.1 (facts g log s).adjacency_length (omega (arith, e.first)) (omega (arith, e.second)) few e.distinct
        e.linked ((laid g log s).partial.simple.symmetric p.1 p.0 e.second e.first ∙ e.linked)

  -- what a list of removals leaves
  record Left (g log : List ℕ) (qs : List Pair) : Type 0 where
    matrix : List ℕ
    removed : AllRemoved (on g log) qs
    ends : after_all (on g log) (removes qs) ≡ on matrix (log_behind qs log)
    still : LaidLoan (on matrix (log_behind qs log))
    less : (v w : ℕ) → v < vertices (table_of j) → w < vertices (table_of j) → edge matrix v w + named qs v w ≡ edge g v w

  -- behind the empty log it stays empty
  behind-empty : (qs : List Pair) → log_behind qs empty_log ≡ empty_log
  behind-empty [] = refl
  behind-empty (p ∷ qs) = refl

  -- and behind two lists of calls it is as behind one
  behind-both : (qs ps : List Pair) (log : List ℕ) → log_behind ps (log_behind qs log) ≡ log_behind (qs ++ ps) log
  behind-both [] ps log = refl
  behind-both (q ∷ qs) ps log = behind-empty ps

  remove-all : (qs : List Pair) (g log : List ℕ) → LaidLoan (on g log) → Within (vertices (table_of j)) (edge g) qs → NoOther (vertices (table_of j)) qs
      → Left g log qs
  remove-all [] g log s h o = record { matrix = g; removed = tt; ends = refl; still = s; less = λ v w l m. omega arith }
  remove-all (p ∷ qs) g log s h o =
      let e = first_edge (vertices (table_of j)) p qs (edge g) (laid g log s).partial.simple h o in
      let g' : List ℕ = set_edge g p.0 p.1 0 in
      let r = remove-all qs g' empty_log (remove-valid g log s p e)
      (λ v w l m. omega (arith, h v w l m, remove-edge g log s p e v w l m)) (rest_no_other (vertices (table_of j)) p qs o) in
      record {
        matrix = r.matrix;
        removed = (remove-answer g log s p e, subst (λ (x : Loan). AllRemoved x qs) (sym (after-remove g log s p e)) r.removed);
        ends = ap (λ (x : Loan). after_all x (removes qs)) (after-remove g log s p e) ∙ r.ends ∙ ap (on r.matrix) (behind-empty qs);
        still = subst (λ (l : List ℕ). LaidLoan (on r.matrix l)) (behind-empty qs) r.still;
        less = λ v w l m. omega (arith, r.less v w l m, remove-edge g log s p e v w l m);
      }

  -- One edge of the drawing more.
  module _ (H : Graph) (drawing : Replica (table_of j) H) where
    at_table : (k l : ℕ) → jdm (vertices (table_of j)) (vertex_class (table_of j)) H k l ≡ jdm_of j k l
    at_table k l = sym (jdm-classes (vertices (table_of j)) (degree (vertices (table_of j)) H) (vertex_class (table_of j)) H drawing.degrees k l) ∙ drawing.table k l

    module _ (g log : List ℕ) (s : LaidLoan (on g log)) (p : Pair) (ps : List Pair)
        (together : (v w : ℕ) → v < vertices (table_of j) → w < vertices (table_of j) → edge g v w + named (p ∷ ps) v w ≡ H v w)
        (o : NoOther (vertices (table_of j)) (p ∷ ps)) where
      simple : Simple (vertices (table_of j)) (edge g)
      simple = (laid g log s).partial.simple

      pair : Open (vertices (table_of j)) (vertex_class (table_of j)) (jdm_of j) (edge g) p.0 p.1
      pair = next-open (vertices (table_of j)) (vertex_class (table_of j)) class_degree (jdm_of j) H drawing.simple drawing.degrees at_table (edge g) simple p ps together o

      add-facts : AddFacts (on g log) p.0 p.1
      add-facts = record { loan = s; pair = pair }

      no_switch : join_switches (vertices (table_of j)) (vertex_class (table_of j)) g p.0 p.1 ≡ None
      no_switch =
          room_none (vertices (table_of j)) (vertex_class (table_of j)) g p.0 p.1
          (lt-ltb (degree (vertices (table_of j)) (edge g) p.0) (class_degree (vertex_class (table_of j) p.0))
          (room_first (vertices (table_of j)) (vertex_class (table_of j)) class_degree (jdm_of j) H drawing.simple drawing.degrees at_table (edge g) simple p ps together o))
          (lt-ltb (degree (vertices (table_of j)) (edge g) p.1) (class_degree (vertex_class (table_of j) p.1))
          (room_second (vertices (table_of j)) (vertex_class (table_of j)) class_degree (jdm_of j) H drawing.simple drawing.degrees at_table (edge g) simple p ps together o))

      add-answer : add_answer (on g log) p.0 p.1 ≡ Added None
      add-answer = facts_added (on g log) p.0 p.1 add-facts ∙ ap Added no_switch

      alone : join_bytes (vertices (table_of j)) (vertex_class (table_of j)) g p.0 p.1 ≡ set_edge g p.0 p.1 1
      alone = none_alone (vertices (table_of j)) (vertex_class (table_of j)) g p.0 p.1 no_switch

      after-add : add_after (on g log) p.0 p.1 ≡ on (set_edge g p.0 p.1 1) empty_log
      after-add = ap (λ (a : AddAnswer). after_add a (on g log) p.0 p.1) add-answer ∙ ap (λ (h : List ℕ). on h empty_log) alone

      add-valid : LaidLoan (on (set_edge g p.0 p.1 1) empty_log)
      add-valid =
          subst (λ (h : List ℕ). LaidLoan (on h empty_log)) alone (add-works (on g log) p.0 p.1 add-facts).loan

      add-edge : AddsEdge (vertices (table_of j)) (edge g) p.0 p.1 (edge (set_edge g p.0 p.1 1))
      add-edge =
          let few = (laid g log s).vertices-le in
          set-adds (vertices (table_of j)) g p.0 p.1 (facts g log s).adjacency_length (omega (arith, pair.first)) (omega (arith, pair.second)) few
          pair.distinct pair.unlinked (simple.symmetric p.1 p.0 pair.second pair.first ∙ pair.unlinked)

    -- what a list of additions leads to
    record Led (g log : List ℕ) (ps : List Pair) : Type 0 where
      matrix : List ℕ
      added : AllAdded (on g log) ps
      ends : after_all (on g log) (adds ps) ≡ on matrix (log_behind ps log)
      still : LaidLoan (on matrix (log_behind ps log))
      whole : SameOn (vertices (table_of j)) H (edge matrix)

    add-all : (ps : List Pair) (g log : List ℕ) → LaidLoan (on g log)
        → ((v w : ℕ) → v < vertices (table_of j) → w < vertices (table_of j) → edge g v w + named ps v w ≡ H v w) → NoOther (vertices (table_of j)) ps
        → Led g log ps
    add-all [] g log s h o = record { matrix = g; added = tt; ends = refl; still = s; whole = λ v w l m. omega (arith, h v w l m) }
    add-all (p ∷ ps) g log s h o =
        let g' : List ℕ = set_edge g p.0 p.1 1 in
        let r = add-all ps g' empty_log (add-valid g log s p ps h o)
        (λ v w l m. omega (arith, h v w l m, add-edge g log s p ps h o v w l m)) (rest_no_other (vertices (table_of j)) p ps o) in
        record {
          matrix = r.matrix;
          added = (
            subst AddedAlone (sym (add-answer g log s p ps h o)) refl,
            subst (λ (x : Loan). AllAdded x ps) (sym (after-add g log s p ps h o)) r.added,
          );
          ends = ap (λ (x : Loan). after_all x (adds ps)) (after-add g log s p ps h o) ∙ r.ends ∙ ap (on r.matrix) (behind-empty ps);
          still = subst (λ (l : List ℕ). LaidLoan (on r.matrix l)) (behind-empty ps) r.still;
          whole = r.whole;
        }

    -- the drawing itself: its matrix is one list of bytes, and nothing is left to complete
    module _ (g log : List ℕ) (s : LaidLoan (on g log)) (whole : SameOn (vertices (table_of j)) H (edge g)) where
      the-matrix : g ≡ bytes_of (vertices (table_of j)) H
      the-matrix =
          same_bytes (vertices (table_of j)) g (bytes_of (vertices (table_of j)) H) (facts g log s).adjacency_length (matrix_length (vertices (table_of j)) H)
          (laid g log s).outside (matrix_outside (vertices (table_of j)) H)
          (λ v w l m. matrix_edges (vertices (table_of j)) H (laid g log s).vertices-le v w l m ∙ sym (whole v w l m))

      full : (k l : ℕ) → least_class ≤ k → k < most_classes → k ≤ l → l < most_classes → jdm_of j k l ≤ cell_at (state_of j g) k l
      full k l k1 kC kl lC = omega (arith, jdm-cong (vertices (table_of j)) (vertex_class (table_of j)) (edge g) H whole k l, at_table k l)

      nothing_left : NothingToComplete (on g log)
      nothing_left =
          record {
            no_joins = λ f out. full_answer (on g log) f s (full_outcome (state_of j g) f full) (length out);
            unchanged = λ f out.
                after-choice (on g log) f out 0 0 0 (full_answer (on g log) f s (full_outcome (state_of j g) f full) (length out))
                ∙ ap (λ (r : Ran). on r.adjacency (log_after r.joins log)) (full_outcome (state_of j g) f full);
          }

    pub drawn : (ps : List Pair) (g log : List ℕ) → LaidLoan (on g log)
        → ((v w : ℕ) → v < vertices (table_of j) → w < vertices (table_of j) → edge g v w + named ps v w ≡ H v w) → NoOther (vertices (table_of j)) ps
        → Drawn (on g log) H ps
    drawn ps g log s h o =
        let r = add-all ps g log s h o in
        record {
          added = r.added;
          exactly = r.ends ∙ ap (λ (m : List ℕ). on m (log_behind ps log)) (the-matrix r.matrix (log_behind ps log) r.still r.whole);
          complete = subst NothingToComplete (sym r.ends) (nothing_left r.matrix (log_behind ps log) r.still r.whole);
        }

    -- Some edges removed, and others added that lead to the drawing.
    pub redrawn : (qs ps : List Pair) (g log : List ℕ) → LaidLoan (on g log) → Within (vertices (table_of j)) (edge g) qs → NoOther (vertices (table_of j)) qs
        → ((v w : ℕ) → v < vertices (table_of j) → w < vertices (table_of j) → edge g v w + named ps v w ≡ H v w + named qs v w) → NoOther (vertices (table_of j)) ps
        → Redrawn (on g log) H qs ps
    redrawn qs ps g log s h o e q =
        let r = remove-all qs g log s h o in
        let d = drawn ps r.matrix (log_behind qs log) r.still (λ v w l m. omega (arith, r.less v w l m, e v w l m)) q in
        record {
          removed = r.removed;
          drawn = subst (λ (x : Loan). Drawn x H ps) (sym r.ends) d;
          exactly =
              after-append (removes qs) (adds ps) (on g log)
              ∙ ap (λ (x : Loan). after_all x (adds ps)) r.ends
              ∙ d.exactly
              ∙ ap (on (bytes_of (vertices (table_of j)) H)) (behind-both qs ps log);
        }

  -- all edges removed
  pub emptied : (qs : List Pair) (g log : List ℕ) → LaidLoan (on g log) → Order (vertices (table_of j)) (edge g) qs → Emptied (on g log) qs
  emptied qs g log s o =
      let r = remove-all qs g log s (λ v w l m. omega (arith, o.once v w l m)) o.no_other in
      record {
        removed = r.removed;
        empty =
            r.ends
            ∙ ap (λ (m : List ℕ). on m (log_behind qs log))
            (same_bytes (vertices (table_of j)) r.matrix empty_matrix (facts r.matrix (log_behind qs log) r.still).adjacency_length empty-length
            (laid r.matrix (log_behind qs log) r.still).outside (λ v w vs ws h. empty-edge v w)
            (λ v w l m. omega (arith, empty-edge v w, r.less v w l m, o.once v w l m)));
      }
