-- The worked examples hold by computation.
use mathlib.Core.Path.{refl}
use Rattle.layout_reading.specs.Answers.{get_spelling, get_named_key}
use Rattle.layout_reading.specs.Examples.{ExamplesHold}

pub examples_hold : ExamplesHold
unfolding get_spelling get_named_key
examples_hold = record { spellings = refl; keys = refl }
