-- A state passes the checks 1 and 2 if and only if each clause of document 01 holds of it (specs/Clauses.antt).
-- Assumes nothing.
use mathlib.Core.Path.{◌≡◌}
use mathlib.Core.Bool.{true}
use mathlib.Core.Logic.{⊎_elim}
use Prim.Native.Nat.{ℕ, ◌<◌}
use native.Mathlib.Decide.{dec_lt}
use native.Mathlib.Omega.{arith}
use lib.ListN.{get_or, get_or-eq_default}
use Rattle.graph.proofs.Passes.{passes-passed}
use Rattle.journal.specs.Journal.{jdm_of, journal_ok}
use Rattle.journal.proofs.Clauses.{journal_by_clauses}
use Rattle.adjacency.specs.Adjacency.{adjacency_size}
use Rattle.adjacency.proofs.Facts.{matrix_by_clauses}
use Rattle.state.specs.State.{State}
use Rattle.state.specs.Valid.{valid}
use Rattle.state.specs.Laid.{vertex_count, class_at}
use Rattle.state.specs.Clauses.{Lengths, StateClauses, ValidByClauses}
use Rattle.state.proofs.Facts.{valid-facts, lengths_journal, lengths_adjacency, lengths_both, facts_valid_0, facts_valid_1}

module _ (s : State) (size : Lengths s) where
  valid-clauses : valid s ≡ true → StateClauses s
  valid-clauses h =
      let f = valid-facts s (lengths_both s size.journal_length size.adjacency_length) h in
      record {
        journal_clauses = (journal_by_clauses s.journal size.journal_length).0 f.journal-ok;
        taking = λ e p l. f.empty e p;
        laid = λ e.
            let d = f.laid e in
            record {
              tests = (passes-passed (jdm_of s.journal)).0 d.passed;
              vertices_most = d.vertices-le;
              matrix =
                  (matrix_by_clauses (vertex_count s) (class_at s) (jdm_of s.journal) s.adjacency size.adjacency_length d.vertices-le).0
                  d.adjacency-ok;
            };
      }

  clauses-valid : StateClauses s → valid s ≡ true
  clauses-valid c =
      ⊎_elim
      (λ e. facts_valid_0 s e ok (λ p. zero p (c.taking e p) (dec_lt p adjacency_size)))
      (λ e.
      let d = c.laid e in
      facts_valid_1 s e ok ((passes-passed (jdm_of s.journal)).1 d.tests) d.vertices_most
      ((matrix_by_clauses (vertex_count s) (class_at s) (jdm_of s.journal) s.adjacency size.adjacency_length d.vertices_most).1 d.matrix))
      c.journal_clauses.phase_byte
    where
      ok : journal_ok s.journal ≡ true
      ok = (journal_by_clauses s.journal size.journal_length).1 c.journal_clauses

      -- past its end a list reads 0
      zero : (p : ℕ) → (p < adjacency_size → get_or s.adjacency p 0 ≡ 0) → Dec (p < adjacency_size) → get_or s.adjacency p 0 ≡ 0
      zero p z (yes l) = z l
      zero p z (no l) = get_or-eq_default s.adjacency 0 (omega (arith, size.adjacency_length))

pub valid_by_clauses : ValidByClauses
valid_by_clauses =
    record {
      lengths = λ s. (
        λ l. record { journal_length = lengths_journal s l; adjacency_length = lengths_adjacency s l },
        λ l. lengths_both s l.journal_length l.adjacency_length,
      );
      is_valid = λ s size. (valid-clauses s size, clauses-valid s size);
    }
