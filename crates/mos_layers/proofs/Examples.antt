-- The worked examples hold by computation.
use mathlib.Core.Path.{refl}
use Rattle.mos_layers.specs.Layers.{layer_sizes, layers_of}
use Rattle.mos_layers.specs.Examples.{ExamplesHold}

pub examples_hold : ExamplesHold
unfolding layer_sizes layers_of
examples_hold = record { sizes = refl; layers = refl }
