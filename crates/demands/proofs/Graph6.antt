-- Graph6 out and in (specs/Graph6.antt).
-- Assumes nothing.
use mathlib.Core.Path.{◌≡◌, refl, sym, ap, ap₂, ◌∙◌, subst}
use mathlib.Core.Bool.{true, false, not, true≢false}
use mathlib.Core.List.{List, [], ◌∷◌}
use Prim.Native.Nat.{ℕ, ◌≤◌, ◌<◌}
use native.Mathlib.Decide.{dec_lt}
use native.Mathlib.Omega.{arith}
use lib.Dec.{leb}
use lib.ListN.{length}
use borrow.Author.Tests.{leb-true, le-leb}
use Rattle.std.specs.Prelude.{Ok, Err}
use Rattle.graph.specs.Graph.{Graph, Simple, SameOn}
use Rattle.answer.specs.Refusals.{Verdict, Go, unless_stopped}
use Rattle.answer.specs.Numbers.{number_of}
use Rattle.answer.specs.declared.Refusal.{Refusal}
use Rattle.answer.specs.declared.WrittenAnswer.{WrittenAnswer}
use Rattle.answer.specs.declared.WrittenAnswer.TheVariants.{Written, Refused}
use Rattle.answer.specs.declared.ReadAnswer.{ReadAnswer}
use Rattle.answer.specs.declared.ReadAnswer.TheVariants.{Read, Refused as ReadRefused}
use Rattle.answer.proofs.Checks.{unless_passed, unless_stopped_passed, refused-not_written, written-length}
use Rattle.slices.proofs.Part.{take-sets}
use Rattle.layout.specs.Layout.{most_vertices}
use Rattle.adjacency.specs.Adjacency.{edge}
use Rattle.state.specs.Laid.{vertex_count}
use Rattle.state.proofs.Facts.{valid-facts}
use Rattle.edge_lists.specs.EdgeList.{list_verdict, graph_of, list_of}
use Rattle.edge_lists.proofs.List.{Passed, verdict_passed, list-simple}
use Rattle.edge_lists.proofs.Listing.{list-cong}
use Rattle.edge_lists.proofs.Listed.{list-passed, list-graph}
use Rattle.edge_lists.proofs.Unique.{list_back}
use Rattle.edge_list.specs.List.{list_bytes}
use Rattle.jdm_of_edges.specs.Survey.{survey_records, survey_listed}
use Rattle.graph6.specs.Format.{graph6_text, size_of, too_large, framed, zero_padded, well_formed_text, text_graph}
use Rattle.graph6.proofs.Text.{framed-facts, framed-small, text_bit, text_size, text_well_formed, graph_up, graph_down, graph_loop, graph_simple, text_back, text_cong}
use Rattle.graph6_write.specs.Write.{write_text, write_listed, write_answer}
use Rattle.graph6_read.specs.Read.{read_list, read_answer}
use Rattle.finite.proofs.All.{and_left}
use Rattle.answer.specs.Numbers.{one_of}
use Rattle.demands.specs.Demand1.{CarriesOneOf}
use Rattle.demands.proofs.Chains.{OfWritten}
use Rattle.demands.proofs.Demand1.{write_rest, survey-rest}
use Rattle.demands.specs.Graph6.{text_in, list_in, Wrote, WasRead, Graph6}
use Rattle.demands.proofs.Listed.{same}

-- the graph of a simple graph's text is that graph
text-graph : (n : ℕ) (E : Graph) → n ≤ most_vertices → Simple n E → SameOn n E (text_graph (graph6_text n E))
text-graph n E few s v w l m = go (dec_lt v w) (dec_lt w v)
  where
    go : Dec (v < w) → Dec (w < v) → text_graph (graph6_text n E) v w ≡ E v w
    go (yes p) q = graph_up (graph6_text n E) v w p ∙ text_bit n E few s v w p m
    go (no p) (yes q) = graph_down (graph6_text n E) v w q ∙ text_bit n E few s w v q l ∙ s.symmetric w v m l
    go (no p) (no q) = let e : w ≡ v = omega arith in rw e (graph_loop (graph6_text n E) v ∙ sym (s.loopless v l))

-- Writing. What the answer says of a list that was written.
pub record Writes (e : List ℕ) (total m n : ℕ) : Type 0 where
  pub passed : Passed e total
  pub size : n ≡ length (write_text e total)
  pub fits : length (write_text e total) ≤ m

writes : (e : List ℕ) (total m n : ℕ) → write_answer e total m ≡ Written n → Writes e total m n
writes e total m n h =
    let a = unless_stopped_passed (list_verdict e total) Refused (write_listed e total m) (Written n) (λ r. refused-not_written r n) h in
    let b = unless_passed (leb (length (write_text e total)) m) _ _ (Written n) (refused-not_written _ n) a.1 in
    record {
      passed = verdict_passed e total a.0;
      size = written-length (length (write_text e total)) n b.1;
      fits = leb-true (length (write_text e total)) m b.0;
    }

write_done : (e : List ℕ) (total m : ℕ) → list_verdict e total ≡ Go → length (write_text e total) ≤ m
    → write_answer e total m ≡ Written (length (write_text e total))
write_done e total m go h = rw (go, le-leb (length (write_text e total)) m h)

written_text_in : (e : List ℕ) (total : ℕ) (out : List ℕ) (n : ℕ) → write_answer e total (length out) ≡ Written n → text_in e total out n ≡ write_text e total
written_text_in e total out n h =
    let w = writes e total (length out) n h in
    rw (h, w.size) (take-sets out (write_text e total) w.fits)

-- Reading.
read_done : (t : List ℕ) (m : ℕ) → well_formed_text t ≡ true → length (read_list t) ≤ m → read_answer t m ≡ Read (length (read_list t)) (size_of t)
read_done t m well h =
    let f = framed-facts t (and_left (framed t) (zero_padded t) well) in
    rw (framed-small t f, well, le-leb (length (read_list t)) m h)

list-in : (t out : List ℕ) → well_formed_text t ≡ true → length (read_list t) ≤ length out → list_in t out (length (read_list t)) ≡ read_list t
list-in t out well h = rw (read_done t (length out) well h) (take-sets out (read_list t) h)

abbrev IsRead : ReadAnswer → Type 0
IsRead (Read n total) = Unit {0}
IsRead (ReadRefused r) = ⊥

refused-not_read : (r : Refusal) (n total : ℕ) → ReadRefused r ≡ Read n total → ⊥
refused-not_read r n total e = subst IsRead (sym e) tt

read_parts : (a b n total : ℕ) → Read a b ≡ Read n total → (n ≡ a) × (total ≡ b)
read_parts a b n total e = (cc, cc)

pub record Reads (t : List ℕ) (m n total : ℕ) : Type 0 where
  pub well : well_formed_text t ≡ true
  pub size : n ≡ length (read_list t)
  pub total-is : total ≡ size_of t
  pub fits : length (read_list t) ≤ m

reads : (t : List ℕ) (m n total : ℕ) → read_answer t m ≡ Read n total → Reads t m n total
reads t m n total h =
    let a = unless_passed (not (too_large t)) _ _ (Read n total) (refused-not_read _ n total) h in
    let b = unless_passed (well_formed_text t) _ _ (Read n total) (refused-not_read _ n total) a.1 in
    let c = unless_passed (leb (length (read_list t)) m) _ _ (Read n total) (refused-not_read _ n total) b.1 in
    let p = read_parts (length (read_list t)) (size_of t) n total c.1 in
    record { well = b.0; size = p.0; total-is = p.1; fits = leb-true (length (read_list t)) m c.0 }

-- what was written, read back
wrote_text : (e : List ℕ) (total : ℕ) → Passed e total → Wrote e total (write_text e total)
wrote_text e total p =
    record {
      bits = λ v w h l. text_bit total (graph_of e) p.few simple v w h l;
      graph = text-graph total (graph_of e) p.few simple;
      read = λ out h. read_done t (length out) well (rw back h) ∙ ap₂ Read (ap length back) size;
      same = λ out h. ap (λ (m : ℕ). list_in t out m) (sym (ap length back)) ∙ list-in t out well (rw back h) ∙ back;
    }
  where
    simple : Simple total (graph_of e)
    simple = list-simple e total p.well

    t : List ℕ
    t = write_text e total

    size : size_of (write_text e total) ≡ total
    size = text_size total (graph_of e) p.few simple

    well : well_formed_text (write_text e total) ≡ true
    well = text_well_formed total (graph_of e) p.few simple

    -- the list read is that of the graph written, which is the list itself
    back : read_list (write_text e total) ≡ e
    back =
        ap (λ (n : ℕ). list_of n (text_graph (write_text e total))) size
        ∙ list-cong total (text_graph (write_text e total)) (graph_of e)
        (λ v w h l. graph_up (write_text e total) v w h ∙ text_bit total (graph_of e) p.few simple v w h l)
        ∙ list_back e total p

-- what was read, written
was_read_list : (t : List ℕ) → well_formed_text t ≡ true → WasRead t (read_list t) (size_of t)
was_read_list t well =
    record {
      passes = passes;
      graph = graph;
      written = λ out h. write_done (read_list t) (size_of t) (length out) passes (rw back h) ∙ ap (λ (x : List ℕ). Written (length x)) back;
      same = λ out h.
          ap (λ (m : ℕ). text_in (read_list t) (size_of t) out m) (sym (ap length back))
          ∙ written_text_in (read_list t) (size_of t) out _ (write_done (read_list t) (size_of t) (length out) passes (rw back h))
          ∙ back;
    }
  where
    few : size_of t ≤ most_vertices
    few = (framed-facts t (and_left (framed t) (zero_padded t) well)).few

    passes : list_verdict (read_list t) (size_of t) ≡ Go
    passes = list-passed (size_of t) (text_graph t) few

    graph : SameOn (size_of t) (text_graph t) (graph_of (read_list t))
    graph = list-graph (size_of t) (text_graph t) (graph_simple t (size_of t))

    back : write_text (read_list t) (size_of t) ≡ t
    back = text_cong (size_of t) (text_graph t) (graph_of (read_list t)) graph ∙ text_back t well

-- the numbers behind the checks 19
other_than_19 : (ns : List ℕ) → one_of 19 ns ≡ false → (r : Refusal) → CarriesOneOf r ns → number_of r.cause ≡ 19 → ⊥
other_than_19 ns off r h e = true≢false (sym (rw e at h) ∙ off)

same_refusal : (v : Verdict) (a b : WrittenAnswer) (r : Refusal) → (a ≡ Refused r → ⊥) → unless_stopped v Refused a ≡ Refused r → unless_stopped v Refused b ≡ Refused r
same_refusal (Ok _) a b r other h = absurd (other h)
same_refusal (Err s) a b r other h = h

pub graph6 : Graph6
graph6 =
    record {
      text_of_graph = λ n E few s. text_well_formed n E few s;
      graph_of_text = λ t well. ((framed-facts t (and_left (framed t) (zero_padded t) well)).few, graph_simple t (size_of t), text_back t well);
      wrote = λ e total out n h. rw (written_text_in e total out n h) (wrote_text e total (writes e total (length out) n h).passed);
      was_read = λ t out n total h.
          let r = reads t (length out) n total h in
          rw (r.size, r.total-is, list-in t out r.well r.fits) (was_read_list t r.well);
      refused_as_survey = λ e total m k r nineteen h.
          same_refusal (list_verdict e total) (write_listed e total m) (survey_listed e total k) r
          (λ q. other_than_19 (18 ∷ []) refl r (subst (OfWritten (18 ∷ []) (length (write_text e total)) m) q (write_rest (18 ∷ []) refl e total m)) nineteen) h;
      survey_as_refused = λ e total m k r nineteen h.
          same_refusal (list_verdict e total) (survey_listed e total k) (write_listed e total m) r
          (λ q. other_than_19 (20 ∷ 18 ∷ []) refl r (subst (OfWritten (20 ∷ 18 ∷ []) (length (survey_records e total)) k) q (survey-rest (20 ∷ 18 ∷ []) refl refl e total k)) nineteen) h;
      laid = λ s v.
          let l = (valid-facts s v.lengths v.is_valid).laid v.phased in
          let n = vertex_count s in
          let g = s.adjacency in
          let e = text_cong n (edge g) (graph_of (list_bytes n g)) (same s l) in (
            e,
            rw e (text-graph n (edge g) l.vertices-le l.partial.simple),
            λ m h. write_done (list_bytes n g) n m (list-passed n (edge g) l.vertices-le) h,
          );
    }
