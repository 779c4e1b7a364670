-- `matrix_check::adjacency_ok` meets its contract.
use mathlib.Core.Path.{sym, ◌∙◌}
use Rattle.layout.specs.Inner.Arrays.{class_in}
use Rattle.adjacency.proofs.Mirrored.{mirrored-simple}
use Rattle.adjacency.proofs.Degrees.{degrees_bound}
use Rattle.matrix_check.proofs.adjacency_ok.Goals as goal

pub count_degrees-requires : goal.count_degrees-requires
count_degrees-requires c = (
  c.requires.0,
  c.requires.1,
  mirrored-simple c.args.n c.args.adjacency.now (sym c.is_mirrored.ensures ∙ c.if-not-is_mirrored.false),
  c.requires.4,
)

pub returns : goal.returns
returns c =
    record {
      value = rw (
        c.is_zero_outside.ensures,
        c.degrees_within.ensures
            ∙ degrees_bound c.args.n c.requires.1 c.args.adjacency.now c.count_degrees.ensures (class_in c.args.classes.now),
        c.cells_within.ensures,
        sym c.is_mirrored.ensures ∙ c.if-not-is_mirrored.false,
      );
      degrees_after = λ _. c.count_degrees.ensures;
    }
