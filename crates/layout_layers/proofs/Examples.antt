-- By computing both sides.
use mathlib.Core.Path.{refl}
use Rattle.layout_layers.specs.KeyLayers.{kind_of}
use Rattle.layout_layers.specs.LampCodes.{lamp_code}
use Rattle.layout_layers.specs.Answers.{get_layers, get_layer_count, get_layer}
use Rattle.layout_layers.specs.Examples.{ExamplesHold}

pub examples_hold : ExamplesHold
unfolding get_layers get_layer_count get_layer kind_of lamp_code
examples_hold = record { totals = refl; numbers = refl; kinds = refl; keys = refl; codes = refl; last_codes = refl; no_number = refl; no_numbers = refl }
