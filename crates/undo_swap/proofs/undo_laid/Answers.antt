-- `undo_swap::undo_laid` meets its contract.
use Rattle.loan.specs.Loan.{loan_of}
use Rattle.undo_swap.proofs.Undo.{undo-inside}
use Rattle.undo_swap.proofs.undo_laid.Goals as goal

pub swap_bytes-requires : goal.swap_bytes-requires
swap_bytes-requires c =
    let b = loan_of c.args.journal.now c.args.adjacency.now c.args.log.now in
    rw (c.undoing.ensures, c.swap_at-x.ensures) (undo-inside b c.requires c.swap_count-m.ensures.0 c.if-m-eq0.false)
