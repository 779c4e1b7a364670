-- What a record can be written of.
-- Assumes nothing.
use Rattle.std.specs.Prelude.{◌<◌}
use Rattle.answer.specs.declared.switches.Switch.{Switch}

-- the vertices of a switch are bytes
pub record InBytes (x : Switch) : Type 0 where
  pub a : x.a < 256
  pub b : x.b < 256
  pub t : x.t < 256
