-- Completing by any rule that picks an open pair of a short cell: it makes exactly as many joins as edges are missing, and ends with
-- every cell at its target. S is what the rule works on; the lowest open pair is one rule.
-- Assumes nothing.
use mathlib.Core.Path.{◌≡◌, refl, sym, ◌∙◌}
use mathlib.Core.Bool.{Bool, true, false, cond}
use Prim.Native.Nat.{ℕ, zero, suc, ◌+◌, ◌*◌, ◌≤◌, ◌<◌}
use native.Mathlib.Omega.{arith}
use Rattle.finite.specs.Range.{δ, sum_to, iterate}
use Rattle.finite.proofs.Sum.{sum_to-cong, sum_to-swap, sum_to-at, sum_to-mono₂}
use Rattle.finite.proofs.Delta.{δ-sym}
use Rattle.graph.specs.Graph.{Graph, Simple, degree, edges, jdm}
use Rattle.graph.specs.Target.{Target}
use Rattle.graph.specs.Theorems.{Rule, all_cells, Ended, CompletesByAnyRule}
use Rattle.graph.proofs.Necessary.{necessary_always}
use Rattle.graph.proofs.Update.{handshake}
use Rattle.graph.proofs.Join.{join-works}

-- equation (1) over all cells counts each edge twice
pub cells-twice : (n C : ℕ) (cls : ℕ → ℕ) (E : Graph) → Simple n E → ((v : ℕ) → v < n → cls v < C) → all_cells C (jdm n cls E) ≡ 2 * edges n E
cells-twice n C cls E simple classed =
    sum_to-cong C (λ k. sum_to C (jdm n cls E k)) (λ k. sum_to n (λ v. δ (cls v) k * degree n E v))
    (λ k p. (necessary_always n C cls E simple classed).rows k)
    ∙ sum_to-swap C n (λ k v. δ (cls v) k * degree n E v)
    ∙ sum_to-cong n (λ v. sum_to C (λ k. δ (cls v) k * degree n E v)) (degree n E) one
    ∙ handshake n E simple
  where
    one : (v : ℕ) → v < n → sum_to C (λ k. δ (cls v) k * degree n E v) ≡ degree n E v
    one v p =
        sum_to-cong C (λ k. δ (cls v) k * degree n E v) (λ k. δ k (cls v) * degree n E v) (λ k q. rw (δ-sym (cls v) k))
        ∙ sum_to-at C (cls v) (λ k. degree n E v) (classed v p)

module _ (n C : ℕ) (cls deg : ℕ → ℕ) (T : ℕ → ℕ → ℕ) (target : Target n C cls deg T) (S : Type 0) (rule : Rule n C cls deg T S) where
  abbrev graph : S → Graph
  graph = rule.graph

  abbrev short : S → Bool
  short = rule.short

  abbrev next : S → S
  next = rule.next

  abbrev Good : S → Type 0
  Good = rule.Good

  -- no cell is above its target, so neither are there more edges than half their sum
  room : (s : S) → Good s → 2 * edges n (graph s) ≤ all_cells C T
  room s good =
      rw (← (cells-twice n C cls (graph s) (rule.partial s good).simple target.classed))
      (sum_to-mono₂ C C (jdm n cls (graph s)) T (rule.partial s good).within)

  ended : (s : S) → Good s → short s ≡ false → Ended n C cls deg T rule s s
  ended s good e =
      record {
        good = good;
        full = rule.stops s good e;
        counted = refl;
        missing =
            sum_to-cong C (λ k. sum_to C (T k)) (λ k. sum_to C (jdm n cls (graph s) k))
            (λ k p. sum_to-cong C (T k) (jdm n cls (graph s) k) (λ l q. sym (rule.stops s good e k l p q)))
            ∙ cells-twice n C cls (graph s) (rule.partial s good).simple target.classed;
      }

  one_more : (s : S) (good : Good s) (e : short s ≡ true) → edges n (graph (next s)) ≡ edges n (graph s) + 1
  one_more s good e =
      let p = rule.picks s good e in
      (join-works n C cls deg T (graph s) p.0 p.1 target (rule.partial s good) p.2 (graph (next s)) p.3).one_more

  -- with fuel for what is missing
  completes : (fuel : ℕ) (s : S) → Good s → all_cells C T ≤ 2 * (edges n (graph s) + fuel) → Ended n C cls deg T rule s (iterate fuel short next s)
  unfolding iterate
  completes zero s good h = go (short s) refl
    where
      go : (t : Bool) → short s ≡ t → Ended n C cls deg T rule s s
      go false e = ended s good e
      go true e = absurd (omega (arith, room (next s) (rule.picks s good e).4, one_more s good e))
  completes (suc fuel) s good h = go (short s) refl (completes fuel (next s))
    where
      go : (t : Bool) → short s ≡ t
          → (Good (next s) → all_cells C T ≤ 2 * (edges n (graph (next s)) + fuel) → Ended n C cls deg T rule (next s) (iterate fuel short next (next s)))
          → Ended n C cls deg T rule s (cond t (iterate fuel short next (next s)) s)
      go false e again = ended s good e
      go true e again =
          let r = again (rule.picks s good e).4 (omega (arith, one_more s good e)) in
          record {
            good = r.good;
            full = r.full;
            counted = omega (arith, r.counted, one_more s good e, rule.counts s);
            missing = r.missing;
          }

pub completes_by_any_rule : CompletesByAnyRule
completes_by_any_rule = completes
