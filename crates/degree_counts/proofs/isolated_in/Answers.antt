-- `degree_counts::isolated_in` meets its contract: as many degrees are 0 as vertices have degree 0.
use Rattle.std.proofs.Common.{◌≡◌, ◌∙◌, take, rules, arith}
use Rattle.std.specs.Prelude.{count_by}
use lib.Dec.{eqb}
use Rattle.std.proofs.lemmas.List.{length-take-le}
use Rattle.std.proofs.lemmas.List.Sums.{count_by-le-length}
use Rattle.degree_counts.proofs.Zeros.{zeros_counted}
use Rattle.degree_counts.proofs.isolated_in.Goals as goal

pub returns : goal.returns
returns c =
    let d = c.args.degrees.now in
    let n = c.args.total in
    let counted : c.count.result ≡ count_by (λ x. eqb x 0) (take n d) = search rules in
    (counted ∙ zeros_counted n d (omega arith), omega (arith, count_by-le-length (λ x. eqb x 0) (take n d), length-take-le n d (omega arith)))
