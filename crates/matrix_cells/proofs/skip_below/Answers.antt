-- `matrix_cells::skip_below` meets its contract: the search passes over classes below k alone.
use mathlib.Core.Path.{◌≡◌}
use mathlib.Core.Bool.{Bool}
use Prim.Native.Nat.{ℕ, ◌<◌}
use native.Mathlib.Decide.{dec_lt}
use native.Mathlib.Omega.{arith}
use lib.Dec.{leb}
use borrow.Author.Tests.{leb-true, leb-false}
use Rattle.std.proofs.Common.{rules}
use Rattle.finite.specs.Range.{lowest}
use Rattle.finite.proofs.Lowest.{lowest-le, lowest-before, lowest-holds}
use Rattle.layout.specs.Inner.Arrays.{class_in}
use Rattle.matrix_cells.proofs.skip_below.Goals as goal

pub returns : goal.returns
returns c = rw e (lowest-le c.args.start c.args.n above (omega arith), before, λ l. leb-true c.args.k _ (lowest-holds c.args.start c.args.n above (omega arith) l))
  where
    above : ℕ → Bool
    above w = leb c.args.k (class_in c.args.classes.now w)

    e : c.lowest_passing.result ≡ lowest c.args.start c.args.n above
    e = search rules

    before : (w : ℕ) → w < lowest c.args.start c.args.n above → class_in c.args.classes.now w < c.args.k
    before w h = go (dec_lt w c.args.start)
      where
        go : Dec (w < c.args.start) → class_in c.args.classes.now w < c.args.k
        go (yes l) = c.requires.2 w l
        go (no n) = leb-false c.args.k _ (lowest-before c.args.start c.args.n above (omega arith) w (omega arith) h)
