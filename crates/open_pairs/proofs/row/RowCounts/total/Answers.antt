-- `open_pairs::row::RowCounts::total` meets its contract.
use mathlib.Core.Path.{◌≡◌, ap, ◌∙◌}
use mathlib.Core.List.{List}
use Prim.Native.Nat.{ℕ, ◌<◌}
use native.Mathlib.Omega.{arith}
use Rattle.std.proofs.Common.{rules}
use Rattle.std.specs.Prelude.{sum}
use Rattle.adjacency.specs.Adjacency.{side}
use Rattle.open_pairs.specs.Inner.Rows.{open_to}
use Rattle.open_pairs.proofs.Sums.{sums_total}
use Rattle.open_pairs.proofs.row.RowCounts.total.Goals as goal

pub sum-requires-clause-fits : goal.sum-requires-clause-fits
sum-requires-clause-fits c =
    let p = sums_total c.self.invariant in
    let few : sum c.self.inside.sums < 18446744073709551616 = omega (arith, p.0, p.1) in
    search rules

pub returns : goal.returns
returns c =
    let e : c.sum.result ≡ sum c.self.inside.sums = search rules in
    e ∙ (sums_total c.self.invariant).0 ∙ ap (λ (pairs : List ℕ). open_to pairs side) c.self.view_is
