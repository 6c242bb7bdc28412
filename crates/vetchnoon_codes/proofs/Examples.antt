-- The worked examples, by computation.
use mathlib.Core.Path.{refl}
use Rattle.vetchnoon_codes.specs.Examples.{ExamplesHold}

pub examples_hold : ExamplesHold
examples_hold = record { codes = refl; one_room = refl; one_short = refl; one_counts = refl; numbers = refl }
