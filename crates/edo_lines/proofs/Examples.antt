-- The worked examples hold by computation.
use mathlib.Core.Path.{refl}
use Rattle.edo_lines.specs.Lines.{output}
use Rattle.edo_lines.specs.Examples.{ExamplesHold}

pub examples_hold : ExamplesHold
unfolding output
examples_hold = record { twelve = refl; two = refl; too_many = refl; none = refl; no_number = refl }
