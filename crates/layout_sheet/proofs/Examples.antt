-- The worked examples hold by computation.
use mathlib.Core.Path.{refl}
use Rattle.layout_sheet.specs.Answers.{get_sheet}
use Rattle.layout_sheet.specs.Examples.{ExamplesHold}

pub examples_hold : ExamplesHold
unfolding get_sheet
examples_hold = record { counts = refl; sheets = refl }
