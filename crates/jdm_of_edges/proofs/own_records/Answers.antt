-- `jdm_of_edges::own_records` meets its contract: what it counts has the records of the list's own table.
use mathlib.Core.Path.{◌≡◌, ◌∙◌}
use Rattle.degree_counts.specs.Inner.Degrees.{isolated_in}
use Rattle.degree_counts.proofs.Degrees.{isolated-same}
use Rattle.jdm_of_edges.proofs.Survey.{own-records}
use Rattle.jdm_of_edges.proofs.own_records.Goals as goal

pub returns : goal.returns
returns c =
    let e = c.args.edges.now in
    let t = c.args.total in
    let asked : c.isolated_in-isolated.result ≡ isolated_in c.args.degrees.now t = c.isolated_in-isolated.ensures.0 in
    let counted = asked ∙ isolated-same e c.args.degrees.now t c.requires.2 in
    let own = own-records e t c.isolated_in-isolated.result c.cells_of-cells.result counted c.cells_of-cells.ensures.0 in
    record { value = rw own at (c.put_records.ensures.value); records_after = rw own at (c.put_records.ensures.out_after) }
