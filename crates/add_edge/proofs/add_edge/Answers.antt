-- `add_edge::add_edge` meets its contract.
use mathlib.Core.Path.{refl, sym, ◌∙◌}
use Rattle.loan.specs.Loan.{loan_of}
use Rattle.loan.proofs.Front.{front-stop}
use Rattle.add_edge.proofs.add_edge.Goals as goal

pub returns-in-Err : goal.returns-in-Err
returns-in-Err c =
    let a = c.args in
    let b = loan_of a.journal.now a.adjacency.now a.log.now in
    let stop = front-stop b _ (sym c.loan_check.ensures ∙ c.in-Err.is) in
    record { value = rw stop refl; adjacency_after = rw stop refl; log_after = rw stop refl }
