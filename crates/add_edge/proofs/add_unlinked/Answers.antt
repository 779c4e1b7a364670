-- `add_edge::add_unlinked` meets its contract.
use mathlib.Core.Path.{refl, ap, ap₂, ◌∙◌}
use Prim.Native.Nat.{ℕ, min, max}
use Rattle.answer.specs.Refusals.{refuse}
use Rattle.answer.specs.declared.Cause.TheVariants.{CellNotShort}
use Rattle.answer.specs.declared.AddAnswer.TheVariants.{Added, Refused}
use Rattle.add_edge.proofs.Unlinked.{starts_few, ends, first_class, second_class, cell_block, short_read, join-ready, join-read, switches_read}
use Rattle.add_edge.proofs.add_unlinked.Goals as goal

pub starts-s-requires : goal.starts-s-requires
starts-s-requires c = starts_few c.args.cells.now c.requires.2 c.requires.0.few

pub is_short-requires : goal.is_short-requires
is_short-requires c = cell_block (ends c.args.cells.now c.requires.0 c.requires.2 c.starts-s.ensures c.end_at-x.ensures c.end_at-y.ensures)

pub returns-then-not-is_short : goal.returns-then-not-is_short
returns-then-not-is_short c =
    let e = ends c.args.cells.now c.requires.0 c.requires.2 c.starts-s.ensures c.end_at-x.ensures c.end_at-y.ensures in
    record { value = rw (short_read e c.is_short.ensures ∙ c.if-not-is_short.true) (ap Refused (c.full_cell.ensures ∙ ap₂ (λ (k l : ℕ). refuse CellNotShort (min k l) (max k l)) (first_class e) (second_class e))); adjacency_after = rw (short_read e c.is_short.ensures ∙ c.if-not-is_short.true) (refl) }

pub join-made-requires : goal.join-made-requires
join-made-requires c =
    let e = ends c.args.cells.now c.requires.0 c.requires.2 c.starts-s.ensures c.end_at-x.ensures c.end_at-y.ensures in
    join-ready e c.requires.3 (short_read e c.is_short.ensures ∙ c.if-not-is_short.false)

pub returns : goal.returns
returns c =
    let e = ends c.args.cells.now c.requires.0 c.requires.2 c.starts-s.ensures c.end_at-x.ensures c.end_at-y.ensures in
    record { value = rw (short_read e c.is_short.ensures ∙ c.if-not-is_short.false) (ap Added (c.both_reliefs.ensures ∙ c.join-made.ensures.w_value.0 ∙ switches_read e c.requires.3)); adjacency_after = rw (short_read e c.is_short.ensures ∙ c.if-not-is_short.false) (c.join-made.ensures.adjacency_after ∙ join-read e c.requires.3) }
