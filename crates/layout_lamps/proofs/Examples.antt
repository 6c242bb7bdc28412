-- By computing both sides.
use mathlib.Core.Path.{refl}
use Rattle.layout_layers.specs.LampCodes.{lamp_code}
use Rattle.layout_lamps.specs.Lamps.{kind_at, byte_code, byte_strip_in, had_lamps_in, first_strip_in, first_had_lamps_in}
use Rattle.layout_lamps.specs.Answers.{get_strip, get_lamp}
use Rattle.layout_lamps.specs.Examples.{ExamplesHold}

pub examples_hold : ExamplesHold
unfolding get_strip get_lamp lamp_code kind_at byte_code byte_strip_in had_lamps_in first_strip_in first_had_lamps_in
examples_hold = record { bytes = refl; strips = refl; lamps = refl; long = refl; old = refl; had = refl; first = refl; first_had = refl; earlier = refl }
