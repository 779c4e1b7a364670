-- Completing by shuffled choice is one way to choose open pairs, so that all that is said of completing by any choice holds of it, and of both ways of
-- completing; and the last x is x after as many steps as joins.
-- Assumes nothing.
use mathlib.Core.Path.{◌≡◌, refl, sym, ap, ◌∙◌}
use mathlib.Core.Bool.{true}
use Prim.Native.Nat.{ℕ, ◌<◌}
use Rattle.finite.proofs.Fold.{fold_to-none, fold_to-more, iterate-keeps}
use Rattle.answer.specs.declared.Choice.{Choice}
use Rattle.answer.specs.declared.Choice.TheVariants.{Lowest, Picked as PickedFrom}
use Rattle.journal.specs.Journal.{jdm_of}
use Rattle.state.specs.State.{State}
use Rattle.state.specs.Laid.{vertex_count, class_at}
use Rattle.completion.specs.Complete.{fresh, most_edges}
use Rattle.completion.proofs.Works.{Good, Chooser, completes_by}
use Rattle.completion.proofs.Records.{records-length}
use Rattle.completion.proofs.Entry.{CompleteWorks, good_start, completed-works, complete-works}
use Rattle.shuffled_completion.specs.Choice.{next_x, steps_x, pair_v, pair_w, position}
use Rattle.shuffled_completion.specs.Shuffle.{Shuffled, next_shuffled, incomplete_shuffled, shuffled}
use Rattle.shuffled_completion.specs.Outcome.{outcome}
use Rattle.shuffled_completion.proofs.Picked.{Picked, picked, position-below, passes-open, passes-rising}
use Rattle.state.specs.Valid.{ValidLaid}

module _ (n : ℕ) (cls : ℕ → ℕ) (T : ℕ → ℕ → ℕ) where
  abbrev pub next_v : Shuffled → ℕ
  next_v s = pair_v n cls T s.ran.adjacency (position n cls T s.ran.adjacency (next_x s.x))

  abbrev pub next_w : Shuffled → ℕ
  next_w s = pair_w n cls T s.ran.adjacency (position n cls T s.ran.adjacency (next_x s.x)) (next_v s)

  pub next-picked : (s : Shuffled) → Good n cls T s.ran → incomplete_shuffled n cls T s ≡ true
      → Picked n cls T s.ran.adjacency (position n cls T s.ran.adjacency (next_x s.x))
  next-picked s good e =
      picked n cls T s.ran.adjacency (position n cls T s.ran.adjacency (next_x s.x))
      (position-below n cls T s.ran.adjacency good.0 e (next_x s.x))

  abbrev pub shuffled-pair : Chooser n cls T Shuffled
  shuffled-pair =
      record {
        ran = λ s. s.ran;
        next = next_shuffled n cls T;
        v = next_v;
        w = next_w;
        joins = λ s. refl;
        pair = λ s good e.
            let p = next-picked s good e in
            passes-open n cls T s.ran.adjacency (next_v s) (next_w s) p.second p.passes;
      }

  -- it is named lower vertex first
  pub shuffled-rises : (s : Shuffled) → Good n cls T s.ran → incomplete_shuffled n cls T s ≡ true → next_v s < next_w s
  shuffled-rises s good e = passes-rising n cls T s.ran.adjacency (next_v s) (next_w s) (next-picked s good e).passes

module _ (s : State) (x : ℕ) where
  pub shuffled-works : ValidLaid s → CompleteWorks s (shuffled s x).ran
  shuffled-works f =
      let n = vertex_count s in
      let cls = class_at s in
      let T = jdm_of s.journal in
      let start : Shuffled = record { ran = fresh s.adjacency; x = x } in
      completed-works s f (shuffled s x).ran
      (completes_by n cls T (shuffled-pair n cls T) start s.adjacency refl (good_start s f).0 (good_start s f).1)
      (records-length n cls T (shuffled-pair n cls T) most_edges start refl)

  -- the last x
  pub shuffled-last : (shuffled s x).x ≡ steps_x (shuffled s x).ran.joins x
  shuffled-last =
      iterate-keeps (λ (r : Shuffled). r.x ≡ steps_x r.ran.joins x) (incomplete_shuffled (vertex_count s) (class_at s) (jdm_of s.journal))
      (next_shuffled (vertex_count s) (class_at s) (jdm_of s.journal)) most_edges (record { ran = fresh s.adjacency; x = x })
      (sym (fold_to-none (λ i. next_x) x))
      (λ r h t. ap next_x h ∙ sym (fold_to-more (λ i. next_x) x r.ran.joins))

-- whichever pairs it joins, completing works
pub outcome-works : (f : Choice) (s : State) → ValidLaid s → CompleteWorks s (outcome f s)
outcome-works Lowest s = complete-works s
outcome-works (PickedFrom x) s = shuffled-works s x
