-- `swap_edges::swap_laid` meets its contract.
use mathlib.Core.Path.{sym, ap, ◌∙◌}
use Prim.Native.Nat.{ℕ, ◌+◌}
use native.Mathlib.Omega.{arith}
use Rattle.answer.specs.declared.SwapAnswer.TheVariants.{Refused}
use Rattle.swap_log.specs.Log.{written}
use Rattle.loan.specs.Loan.{loan_of}
use Rattle.swap_edges.proofs.Swap.{swap-inside, swap-against, swap-full, swap-made}
use Rattle.swap_edges.proofs.swap_laid.Goals as goal

pub is_allowed-requires : goal.is_allowed-requires
is_allowed-requires c =
    let a = c.args in
    let b = loan_of a.journal.now a.adjacency.now a.log.now in
    let p = c.requires in
    swap-inside b p.0 p.2 p.1 a.x (sym c.are_vertices.ensures ∙ c.if-not-are_vertices.false)

pub returns-then-not-is_allowed : goal.returns-then-not-is_allowed
returns-then-not-is_allowed c =
    let a = c.args in
    let b = loan_of a.journal.now a.adjacency.now a.log.now in
    let p = c.requires in
    let four = sym c.are_vertices.ensures ∙ c.if-not-are_vertices.false in
    let rest = swap-against b p.0 p.2 p.1 a.x four (sym c.is_allowed.ensures ∙ c.if-not-is_allowed.true) in
    record { value = rw rest (ap Refused c.refuse-then-not-is_allowed.ensures); adjacency_after = rw rest; log_after = rw rest }

pub returns-then-m-ge-MAX_SWAPS : goal.returns-then-m-ge-MAX_SWAPS
returns-then-m-ge-MAX_SWAPS c =
    let a = c.args in
    let b = loan_of a.journal.now a.adjacency.now a.log.now in
    let p = c.requires in
    let four = sym c.are_vertices.ensures ∙ c.if-not-are_vertices.false in
    let rule = sym c.is_allowed.ensures ∙ c.if-not-is_allowed.false in
    let rest = swap-full b p.0 p.2 p.1 a.x four rule c.swap_count-m.ensures.0 c.if-m-ge-MAX_SWAPS.true in
    record { value = rw rest (ap Refused c.refuse-then-m-ge-MAX_SWAPS.ensures); adjacency_after = rw rest; log_after = rw rest }

pub swap_bytes-requires : goal.swap_bytes-requires
swap_bytes-requires c =
    let a = c.args in
    let b = loan_of a.journal.now a.adjacency.now a.log.now in
    let p = c.requires in
    swap-inside b p.0 p.2 p.1 a.x (sym c.are_vertices.ensures ∙ c.if-not-are_vertices.false)

pub write_swap-requires : goal.write_swap-requires
write_swap-requires c =
    let a = c.args in
    let b = loan_of a.journal.now a.adjacency.now a.log.now in
    let p = c.requires in
    let n = swap-inside b p.0 p.2 p.1 a.x (sym c.are_vertices.ensures ∙ c.if-not-are_vertices.false) in
    let few = c.if-m-ge-MAX_SWAPS.false in
    (omega (arith, few), omega (arith, few), omega (arith, n.1), omega (arith, n.2), omega (arith, n.3), omega (arith, n.4))

pub returns : goal.returns
returns c =
    let a = c.args in
    let b = loan_of a.journal.now a.adjacency.now a.log.now in
    let p = c.requires in
    let four = sym c.are_vertices.ensures ∙ c.if-not-are_vertices.false in
    let rule = sym c.is_allowed.ensures ∙ c.if-not-is_allowed.false in
    let e = c.swap_count-m.ensures.0 in
    let rest = swap-made b p.0 p.2 p.1 a.x four rule e (omega (arith, c.if-m-ge-MAX_SWAPS.false)) in
    record { value = rw rest; adjacency_after = rw rest c.swap_bytes.ensures; log_after = rw rest (c.write_swap.ensures ∙ ap (λ (q : ℕ). written a.log.now (q + 1) q a.x) e) }
