-- `switching::neighbor_switch` meets its contract: each line has what it asks for, and leaves what the next one finds.
use mathlib.Core.Path.{◌∙◌}
use native.Mathlib.Omega.{arith}
use Rattle.switching.proofs.Substitute.{class_below, end_within, substitute-in}
use Rattle.switching.proofs.Steps.{unlinkable, linkable_b, switch_kept}
use Rattle.switching.proofs.neighbor_switch.Goals as goal

pub choose_substitute-b-requires : goal.choose_substitute-b-requires
choose_substitute-b-requires c =
    let p = c.requires in
    (class_below p.0 p.1, omega (arith, end_within p.0 p.1, p.0.few))

pub choose_transfer-t-requires : goal.choose_transfer-t-requires
choose_transfer-t-requires c =
    let p = c.requires in (
      p.0.sized,
      p.0.few,
      (unlinkable p.0 p.3 p.2).1,
      rw (c.choose_substitute-b.ensures ∙ substitute-in p.0 p.1 p.2) (linkable_b p.0 p.3 p.2).1,
    )

pub unlink-requires : goal.unlink-requires
unlink-requires c =
    let p = c.requires in
    rw (c.choose_transfer-t.ensures, c.choose_substitute-b.ensures ∙ substitute-in p.0 p.1 p.2) (unlinkable p.0 p.3 p.2)

pub link-requires : goal.link-requires
link-requires c =
    let p = c.requires in
    rw (c.unlink.ensures.adjacency_after, c.unlink.ensures.degrees_after, c.choose_transfer-t.ensures, c.choose_substitute-b.ensures ∙ substitute-in p.0 p.1 p.2)
    (linkable_b p.0 p.3 p.2)

pub returns-clause-value : goal.returns-clause-value
returns-clause-value c =
    let p = c.requires in
    rw (c.choose_transfer-t.ensures, c.choose_substitute-b.ensures ∙ substitute-in p.0 p.1 p.2)

pub returns-clause-adjacency_after : goal.returns-clause-adjacency_after
returns-clause-adjacency_after c =
    let p = c.requires in
    rw (
      c.link.ensures.adjacency_after,
      c.unlink.ensures.adjacency_after,
      c.choose_transfer-t.ensures,
      c.choose_substitute-b.ensures ∙ substitute-in p.0 p.1 p.2,
    )

pub returns-clause-degrees_after : goal.returns-clause-degrees_after
returns-clause-degrees_after c =
    let p = c.requires in
    rw (
      c.link.ensures.degrees_after,
      c.unlink.ensures.degrees_after,
      c.choose_transfer-t.ensures,
      c.choose_substitute-b.ensures ∙ substitute-in p.0 p.1 p.2,
    )
    (switch_kept p.0 p.3 p.2)
