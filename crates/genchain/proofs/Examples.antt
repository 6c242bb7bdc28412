-- The worked examples, computed.
use mathlib.Core.Path.{refl}
use Rattle.genchain.specs.Answers.{generator_outcome, num_letters_outcome, start_outcome, name_length_outcome, letters_outcome, name_outcome}
use Rattle.genchain.specs.Examples.{ExamplesHold}

pub examples_hold : ExamplesHold
unfolding generator_outcome num_letters_outcome start_outcome name_length_outcome letters_outcome name_outcome
examples_hold =
    record {
      generators = refl;
      letter_counts = refl;
      starts = refl;
      name_lengths = refl;
      five_letters = refl;
      letters_short = refl;
      letters_of_none = refl;
      hanson = refl;
      name_short = refl;
      name_of_none = refl;
    }
