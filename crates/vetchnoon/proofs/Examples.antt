-- The worked examples, by computation.
use mathlib.Core.Path.{refl}
use Rattle.mos.specs.Answers.{of_pattern, coprime_outcome}
use Rattle.mos.specs.Patterns.{child_of}
use Rattle.pergen.specs.Answers.{get_generation, get_accidentals}
use Rattle.layout.specs.Answers.{get_sounded_key}
use Rattle.layout_layers.specs.KeyLayers.{kind_of}
use Rattle.layout_reading.specs.Answers.{get_spelling, get_named_key}
use Rattle.vetchnoon.specs.Written.{pergen_output, find_output, letters_output, name_output, layout_output}
use Rattle.vetchnoon.specs.Examples.{ExamplesHold}

pub examples_hold : ExamplesHold
unfolding pergen_output get_generation get_accidentals of_pattern child_of coprime_outcome find_output letters_output name_output kind_of layout_output get_sounded_key get_spelling get_named_key
examples_hold = record {
  pergens = refl;
  no_period = refl;
  with_cycle = refl;
  below_zero = refl;
  without_cycle = refl;
  spelled = refl;
  child = refl;
  no_child = refl;
  coprime = refl;
  found = refl;
  none_found = refl;
  letters = refl;
  chain_name_lem = refl;
  no_chain_lem = refl;
  kinds = refl;
  layouts = refl;
  spellings = refl;
  typed = refl;
  not_typed = refl;
  named = refl;
}
