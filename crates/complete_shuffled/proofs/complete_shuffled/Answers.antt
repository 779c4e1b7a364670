-- `complete_shuffled::complete_shuffled` meets its contract.
use mathlib.Core.Path.{sym, ◌∙◌}
use Rattle.loan.specs.Loan.{loan_of}
use Rattle.loan.proofs.Front.{front-stop}
use Rattle.complete_shuffled.proofs.complete_shuffled.Goals as goal

pub returns-in-Err : goal.returns-in-Err
returns-in-Err c =
    let a = c.args in
    let b = loan_of a.journal.now a.adjacency.now a.log.now in
    let e = front-stop b _ (sym c.loan_check.ensures ∙ c.in-Err.is) in
    record { value = rw e; adjacency_after = rw e; log_after = rw e; output_after = rw e }
