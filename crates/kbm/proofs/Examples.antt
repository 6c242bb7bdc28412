-- By computing both sides.
use mathlib.Core.Path.{refl}
use Rattle.line.specs.Refusals.{refusal_line}
use Rattle.line.specs.Lines.{line_text}
use Rattle.kbm.specs.Printing.{kbm_output}
use Rattle.kbm.specs.Examples.{ExamplesHold}

pub examples_hold : ExamplesHold
unfolding kbm_output line_text refusal_line
examples_hold = refl
