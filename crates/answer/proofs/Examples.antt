-- The worked examples hold by computation.
use mathlib.Core.Path.{refl}
use Rattle.answer.specs.Examples.{ExamplesHold}

pub examples_hold : ExamplesHold
examples_hold =
    record {
      numbers = refl;
      later_numbers = refl;
      first_no = refl;
      all_yes = refl;
      goes_on = refl;
      stops = refl;
      enough = refl;
      one_short = refl;
      own_first = refl;
      count = refl;
      no_count = refl;
      front = refl;
      untouched = refl;
    }
