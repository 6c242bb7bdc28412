-- The worked examples hold by computation.
use mathlib.Core.Path.{refl}
use Rattle.layout_explaining.specs.Answers.{get_explanation, get_explanation_text}
use Rattle.layout_explaining.specs.Examples.{ExamplesHold}

pub examples_hold : ExamplesHold
unfolding get_explanation get_explanation_text
examples_hold = record { numbers = refl; texts = refl }
