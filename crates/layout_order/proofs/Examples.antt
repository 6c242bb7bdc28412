-- The worked examples, by computation.
use mathlib.Core.Path.{refl}
use Rattle.layout_order.specs.Answers.{get_chain_order, get_key_order}
use Rattle.layout_order.specs.Examples.{ExamplesHold}

pub examples_hold : ExamplesHold
unfolding get_chain_order get_key_order
examples_hold = record {
  twelve = refl;
  cycles = refl;
  places = refl;
  from_c = refl;
  longer = refl;
  back_again = refl;
  short = refl;
  short_back = refl;
  no_start = refl;
  no_pattern = refl;
  no_generator = refl;
  no_octave = refl;
  no_chain_lem = refl;
}
