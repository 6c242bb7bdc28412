-- The worked examples hold by computation.
use mathlib.Core.Path.{refl}
use Rattle.line.specs.Lines.{line_text, line_outcome, number_line}
use Rattle.line.specs.Examples.{ExamplesHold}

pub examples_hold : ExamplesHold
unfolding line_text line_outcome number_line
examples_hold = record { outcomes = refl; any_code = refl; zeros = refl; written = refl; numbers = refl; no_numbers = refl }
