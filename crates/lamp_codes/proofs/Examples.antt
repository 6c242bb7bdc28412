-- By computing both sides.
use mathlib.Core.Path.{refl}
use Rattle.lamp_codes.specs.Answers.{get_widened, get_narrowed}
use Rattle.lamp_codes.specs.Examples.{ExamplesHold}

pub examples_hold : ExamplesHold
unfolding get_widened get_narrowed
examples_hold =
    record {
      there = refl;
      back = refl;
      none = refl;
      none_back = refl;
      first_unused = refl;
      last_unused = refl;
      sharp_100 = refl;
      before_last = refl;
      widened_by_two = refl;
    }
