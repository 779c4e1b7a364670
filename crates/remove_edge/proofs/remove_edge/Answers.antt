-- `remove_edge::remove_edge` meets its contract.
use mathlib.Core.Path.{sym, ◌∙◌}
use Rattle.loan.specs.Loan.{loan_of}
use Rattle.loan.proofs.Front.{front-stop}
use Rattle.remove_edge.proofs.remove_edge.Goals as goal

pub returns-in-Err : goal.returns-in-Err
returns-in-Err c =
    let a = c.args in
    let b = loan_of a.journal.now a.adjacency.now a.log.now in
    let rest = front-stop b _ (sym c.loan_check.ensures ∙ c.in-Err.is) in
    record { value = rw rest; adjacency_after = rw rest; log_after = rw rest }
