-- By computing both sides.
use mathlib.Core.Path.{refl}
use Rattle.line.specs.Refusals.{refusal_line}
use Rattle.line.specs.Lines.{line_text}
use Rattle.passed_patterns.specs.Printing.{pattern_lines, output}
use Rattle.passed_patterns.specs.Examples.{ExamplesHold}

pub examples_hold : ExamplesHold
unfolding output pattern_lines line_text refusal_line
examples_hold = refl
