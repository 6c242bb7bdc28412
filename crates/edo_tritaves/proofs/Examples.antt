-- The worked examples hold by computation.
use mathlib.Core.Path.{refl}
use Rattle.edo_tritaves.specs.Tritaves.{tritaves_of}
use Rattle.edo_tritaves.specs.Examples.{ExamplesHold}

pub examples_hold : ExamplesHold
unfolding tritaves_of
examples_hold = record { cases = refl; numbers = refl; ends = refl; outside = refl }
