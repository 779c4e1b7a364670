-- The worked texts of graph6 (specs/Texts.antt): computed.
-- Assumes nothing.
use mathlib.Core.Path.{refl}
use Rattle.finite.specs.Range.{δ, sum_to, all_to, low_from, lowest, cat_to}
use Rattle.graph6.specs.Format.{column_start}
use Rattle.worked.specs.Texts.{Graph6Cases}

pub graph6_cases : Graph6Cases
unfolding δ sum_to all_to low_from lowest cat_to column_start
graph6_cases =
    record {
      written = refl;
      read = refl;
      fits = refl;
      short = refl;
      written_short = refl;
      columns = (refl, refl, refl);
      none = (refl, refl);
      one = (refl, refl);
      sizes = (refl, refl, refl);
      large = (refl, refl, refl, refl);
      bad = (refl, refl, refl, refl, refl, refl, refl, refl, refl, refl, refl);
      lists = (refl, refl, refl);
      degree_41 = (refl, refl, refl);
    }
