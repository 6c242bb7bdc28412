-- The worked examples hold by computation.
use mathlib.Core.Path.{refl}
use Rattle.line.specs.Lines.{line_text}
use Rattle.layout_table.specs.Tables.{line_in, output}
use Rattle.line.specs.Refusals.{refusal_line}
use Rattle.layout.specs.Layouts.{layout_outcome}
use Rattle.layout_table.specs.Examples.{ExamplesHold}

pub examples_hold : ExamplesHold
unfolding output layout_outcome line_in line_text refusal_line
examples_hold = record { printed = refl; long = refl; refusal = refl }
