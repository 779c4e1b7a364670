-- `open_pairs::column::taken` meets its contract: of the places passed, those that are not free are counted.
use mathlib.Core.Path.{◌≡◌, ◌∙◌, ap₂}
use Prim.Native.Nat.{max}
use native.Mathlib.Omega.{arith}
use lib.ListN.{length, length-append}
use Rattle.std.proofs.lemmas.Slice.Zip.{zip_turn, zip_end}
use Rattle.finite.proofs.Sum.{sum_to-none, sum_to-more}
use Rattle.open_pairs.proofs.Columns.{taken-or_free}
use Rattle.open_pairs.proofs.column.taken.Goals as goal

pub loop-x-init : goal.loop-x-init
loop-x-init c = rw sum_to-none (omega arith)

pub loop-x-preserved : goal.loop-x-preserved
loop-x-preserved c =
    let a = c.args.a.now in
    let b = c.args.b.now in
    let i = length c.loop-x.yielded in
    let turn = zip_turn a b c.loop-x.yielded c.into_iter-x-iterator.result c.loop-x.x-iterator c.next.new.self c.next.result
    (rw (c.into_iter-x-iterator.ensures.into_iter_gives, c.zip-x-items.ensures.first) c.iter.ensures.rest)
    (rw c.into_iter-x-iterator.ensures.into_iter_gives c.zip-x-items.ensures.second.0)
    c.loop-x.yielded_by (c.in-Some.field-0-0, c.in-Some.field-0-1) c.in-Some.is c.next.ensures.steps in
    let p = c.requires.2 i turn.0 in
    let m = c.max-sum.ensures ∙ ap₂ max (turn.2 0) (turn.3 0) in
    rw (length-append, sum_to-more) (omega (arith, m, taken-or_free _ _ p.0 p.1))

pub returns : goal.returns
returns c =
    let a = c.args.a.now in
    let b = c.args.b.now in
    let end = zip_end a b c.loop-x.yielded c.into_iter-x-iterator.result c.loop-x.x-iterator c.next.new.self c.next.result
    (rw (c.into_iter-x-iterator.ensures.into_iter_gives, c.zip-x-items.ensures.first) c.iter.ensures.rest)
    (rw c.into_iter-x-iterator.ensures.into_iter_gives c.zip-x-items.ensures.second.0)
    c.loop-x.yielded_by c.in-None.is c.next.ensures.steps in
    let e : length c.loop-x.yielded ≡ length a = omega arith in
    rw (c.from.ensures, ← e) c.loop-x.invariant
