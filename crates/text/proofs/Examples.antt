-- The worked examples hold by computation.
use mathlib.Core.Path.{refl}
use Rattle.text.specs.Writing.{joined}
use Rattle.text.specs.Decimal.{digits, number_at}
use Rattle.text.specs.LittleEndian.{le32, value32}
use Rattle.text.specs.Examples.{ExamplesHold}

pub examples_hold : ExamplesHold
unfolding joined digits number_at le32 value32
examples_hold =
    record {
      in_turn_lem = refl;
      numbers = refl;
      readings = refl;
      zeros = refl;
      too_large = refl;
      too_long = refl;
      least_first = refl;
      number = refl;
      past_the_end = refl;
    }
