-- The worked examples hold by computation.
use mathlib.Core.Path.{refl}
use lib.Ieee.{rem, add, sub, lt, eq, of_bits}
use Rattle.mos_fractional.specs.Fractional.{first_step_of, genesis, child_of}
use Rattle.mos_fractional.specs.Walk.{walk, children}
use Rattle.mos_fractional.specs.Examples.{ExamplesHold}

pub examples_hold : ExamplesHold
unfolding children walk child_of genesis first_step_of rem add sub lt eq of_bits
examples_hold =
    record {
      geneses = refl;
      kids = refl;
      walk = refl;
      fifths = refl;
      spare = refl;
      rooms = refl;
      short = refl;
      no_number = refl;
    }
