-- The worked examples hold by computation.
use mathlib.Core.Path.{refl}
use Rattle.pergen.specs.Pergen.{cycles, reduced, inverse}
use Rattle.pergen.specs.Answers.{new_outcome, get_generation, get_accidentals, get_place, get_sounded_key}
use Rattle.pergen.specs.Examples.{ExamplesHold}

pub examples_hold : ExamplesHold
unfolding cycles reduced inverse new_outcome get_generation get_accidentals get_place get_sounded_key
examples_hold =
    record {
      cycles_are = refl;
      reduced_are = refl;
      inverses_are = refl;
      new_ones = refl;
      new_refused = refl;
      generations = refl;
      large_product = refl;
      accidentals = refl;
      signs_are = refl;
      places = refl;
      keys = refl;
    }
