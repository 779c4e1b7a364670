-- `slices::same_bytes` meets its contract: the library's comparison is equality of lists.
use Rattle.std.proofs.Common.{rules}
use Rattle.finite.proofs.All.{test_same}
use Rattle.slices.proofs.Same.{same_bytes_eq, eq_same_bytes}
use Rattle.slices.proofs.same_bytes.Goals as goal

pub returns : goal.returns
returns c =
    let a = c.args.a.now in
    let b = c.args.b.now in
    test_same _ _ (λ h. eq_same_bytes a b (search rules)) (λ h. let e = same_bytes_eq a b h in search rules)
